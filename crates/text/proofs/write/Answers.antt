-- A check that fails is the outcome's first; behind them the outcome is what `write_task` does.
use Rattle.std.proofs.lemmas.Result.{err_from_is_err_and}
use Rattle.task.proofs.Answers.{both, passed-table}
use Rattle.text.proofs.WriteOutcome.{write-refused}
use Rattle.text.proofs.write.Goals as goal

pub returns-in_err-judge_table-clause-told : goal.returns-in_err-judge_table-clause-told
returns-in_err-judge_table-clause-told c =
    let told = err_from_is_err_and c.from_residual.result c.from_residual.ensures.1 in
    rw (told.1, told.2) (both (write-refused c.args.table.now c.args.text.now c.in_err-judge_table.ensures)).0

pub returns-in_err-judge_table-clause-written : goal.returns-in_err-judge_table-clause-written
returns-in_err-judge_table-clause-written c =
    (both (write-refused c.args.table.now c.args.text.now c.in_err-judge_table.ensures)).1

pub write_task-requires : goal.write_task-requires
write_task-requires c = passed-table c.args.table.now c.in_ok-judge_table.ensures
