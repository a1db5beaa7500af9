-- The numbers common to the set and to all those below x are the set's numbers below x (`members-below`), and how many
-- they are is the new number. They are at most 16, so the cast keeps it.
use Rattle.std.proofs.Common.{Bool, ◌&&◌, ℕ, length, ltb, ap, ◌∙◌, arith}
use Rattle.words.specs.Sets.{member}
use Rattle.tokens.proofs.PartWords.{members-below}
use Rattle.tokens.proofs.part_atoms.renumbered_in.Goals as goal

pub returns : goal.returns
returns c =
    let a = c.args in
    let x = c.from.ensures in
    c.size.ensures.value ∙ ap length (members-below a.own a.x.0 c.common-before.result (omega arith)
    (λ k. c.common-before.ensures k ∙ ap (λ (b : Bool). member a.own k && b)
    (c.below.ensures k ∙ ap (λ (n : ℕ). ltb k n) x)))
