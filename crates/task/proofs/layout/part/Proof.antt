-- `task::layout::part` meets its contract, by the word of its row.
use Prim.Native.Nat.{ℕ, ◌+◌}
use mathlib.Core.Path.{◌∙◌, ap}
use lib.ListN.{get_or}
use borrow.Author.Rules.{rules}
use Rattle.task.specs.Table.{atom_in}
use Rattle.task.proofs.layout.part.Statement.{statement}
use Rattle.task.proofs.layout.part.Tie as tie

returns : tie.Need-returns
unfolding atom_in
returns c = (
  c.word.ensures.0 ∙ ap (λ (b : ℕ). get_or c.args.table.now (b + 3) 0)
      c.row_of.ensures.0,
  c.word.ensures.1,
)

pub part_spec : {M : Type 1} → statement M
part_spec = tie.close (tie.spec (λ c κs. search rules) (λ c. search rules) (λ c κs. search rules) returns)
