-- `task::layout::schema_number` meets its contract: the first word of its row.
use Prim.Native.Nat.{ℕ}
use mathlib.Core.Path.{◌∙◌, ap}
use lib.ListN.{get_or}
use borrow.Author.Rules.{rules}
use Rattle.task.specs.Table.{schema_number_in}
use Rattle.task.proofs.layout.schema_number.Statement.{statement}
use Rattle.task.proofs.layout.schema_number.Tie as tie

returns : tie.Need-returns
unfolding schema_number_in
returns c =
    c.word.ensures.0 ∙ ap (λ (b : ℕ). get_or c.args.table.now b 0)
    c.row_of.ensures.0

pub schema_number_spec : {M : Type 1} → statement M
schema_number_spec = tie.close (tie.spec (λ c κs. search rules) (λ c κs. search rules) returns)
