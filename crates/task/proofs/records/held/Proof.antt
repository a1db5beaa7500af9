-- `task::records::held` meets its contract: the row found has the number exactly where the fact holds.
use Rattle.task.proofs.RowsFound.{found-holds}
use borrow.Author.Rules.{rules}
use Rattle.task.proofs.records.held.Statement.{statement}
use Rattle.task.proofs.records.held.Tie as tie

returns : tie.Need-returns
returns c = λ t f d. found-holds d c.find-k.ensures c.is_row.ensures

pub held_spec : {M : Type 1} → statement M
held_spec = tie.close (tie.spec (λ c κs. search rules) (λ c κs. search rules) returns)
