use Prim.Native.Nat.{ℕ, ◌+◌, ◌*◌}
use mathlib.Core.Path.{◌≡◌, sym, subst}
use lib.ListN.{get_or}
use Rattle.std.proofs.Common.{rules, tests}
use Rattle.std.proofs.lemmas.Iterator.{first_from_Range}
use Rattle.task.specs.WordTests.{RunOf}
use Rattle.task.proofs.FileOrder.{run-found}
use Rattle.task.proofs.table.schemas.run_end.Goals as goal

pub returns : goal.returns
returns c =
    let number : ℕ → ℕ = λ i. get_or c.args.table.now (c.args.base + c.args.size * i) 0 in
    let found = first_from_Range _ _ _ c.find.result (λ i. number i ≡ c.args.s → ⊥) (λ i. number i ≡ c.args.s)
    c.find.ensures.ran (λ x q k. search (rules, tests)) (λ x q k. search (rules, tests)) in
    subst (RunOf number c.args.count c.args.s c.args.start) (sym c.unwrap_or.ensures)
    (run-found number c.args.count c.args.s c.args.start c.find.result c.requires.start_le_count found)
