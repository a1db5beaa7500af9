-- The two comparisons are those of `may_stand`, since keys are ordered as their numbers are.
use Rattle.std.proofs.Common.{refl, sym, ◌∙◌}
use Rattle.text.proofs.KeyOrder.{by-number}
use Rattle.text.proofs.keys.allowed.Goals as goal

pub returns-then-le : goal.returns-then-le
returns-then-le c =
    let low = sym (by-number c.args.phase c.args.key) ∙ (sym c.le.ensures ∙ c.if-le.true) in
    rw (c.le-then-le.ensures, by-number c.args.key c.last_key.result, c.last_key.ensures, low) refl
