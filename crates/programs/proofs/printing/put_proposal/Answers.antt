-- The task proposed lies as a table, whose text is put; a refusal is the one that is printed.
use Rattle.proposals.specs.Outcome.{propose_answer_told}
use Rattle.programs.proofs.Answered.{table-zeros}
use Rattle.programs.proofs.Printed.{prints-same}
use Rattle.programs.proofs.Proposals.{scratch-zeros, proposal-given, proposal-refused}
use Rattle.programs.proofs.printing.put_proposal.Goals as goal

pub put_task-requires-clause-table_value : goal.put_task-requires-clause-table_value
unfolding propose_answer_told
put_task-requires-clause-table_value c =
    let h = c.in-Ok.ensures in
    (proposal-given _ _ _ _ c.requires.table_value table-zeros scratch-zeros h.told h.written).is-table

pub returns-in-Ok : goal.returns-in-Ok
unfolding propose_answer_told
returns-in-Ok c =
    let h = c.in-Ok.ensures in
    let given = proposal-given _ _ _ _ c.requires.table_value table-zeros scratch-zeros h.told h.written in
    prints-same given.printed c.put_task.ensures

pub returns-in-Err : goal.returns-in-Err
unfolding propose_answer_told
returns-in-Err c =
    prints-same
    (proposal-refused _ _ _ _ c.requires.table_value table-zeros scratch-zeros c.in-Err.ensures.told)
    c.put_refusal.ensures
