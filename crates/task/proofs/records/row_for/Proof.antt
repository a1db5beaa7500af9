-- `task::records::row_for` meets its contract.
-- The row looked at first has the number, or what a search finds has it where one does (`bound-row`).
use Rattle.task.proofs.RowsFound.{bound-row}
use borrow.Author.Rules.{rules}
use Rattle.task.proofs.records.row_for.Statement.{statement}
use Rattle.task.proofs.records.row_for.Tie as tie

returns : tie.Need-returns-then-is_row
returns c = λ i l e. c.is_row.ensures.found c.if-is_row.true

returns-2 : tie.Need-returns-else-is_row
returns-2 c = bound-row c.requires.1 c.find.ensures

pub row_for_spec : {M : Type 1} → statement M
row_for_spec = tie.close (tie.spec (λ c κs. search rules) (λ c κs. search rules) returns returns-2)
