-- `task::layout::higher` meets its contract: the third word of its row.
use Prim.Native.Nat.{ℕ, ◌+◌}
use mathlib.Core.Path.{◌∙◌, ap}
use lib.ListN.{get_or}
use borrow.Author.Rules.{rules}
use Rattle.task.specs.Table.{pair_in}
use Rattle.task.proofs.layout.higher.Statement.{statement}
use Rattle.task.proofs.layout.higher.Tie as tie

returns : tie.Need-returns
unfolding pair_in
returns c =
    c.word.ensures.0 ∙ ap (λ (b : ℕ). get_or c.args.table.now (b + 2) 0)
    c.pair_of.ensures.0

pub higher_spec : {M : Type 1} → statement M
higher_spec = tie.close (tie.spec (λ c κs. search rules) (λ c. search rules) (λ c κs. search rules) returns)
