-- A check that fails is the outcome's, and where all pass the outcome is what `run_steps` does.
use Rattle.std.proofs.Common.{◌∙◌}
use Rattle.std.proofs.lemmas.Result.{err_from_is_err_and}
use Rattle.task.specs.Run.{run_answer_told}
use Rattle.task.proofs.Answers.{both}
use Rattle.task.proofs.RunOutcome.{run-refused, run-passed, fit-to-run}
use Rattle.task.proofs.run.Goals as goal

pub returns-in_err-judge_run-clause-told : goal.returns-in_err-judge_run-clause-told
unfolding run_answer_told
returns-in_err-judge_run-clause-told c =
    let a = c.args in
    let e = err_from_is_err_and c.from_residual.result c.from_residual.ensures.1 in
    rw (e.1, e.2) (both (run-refused a.table.now a.steps.now a.state.now a.records c.in_err-judge_run.ensures)).0

pub returns-in_err-judge_run-clause-left : goal.returns-in_err-judge_run-clause-left
returns-in_err-judge_run-clause-left c =
    let a = c.args in
    (both (run-refused a.table.now a.steps.now a.state.now a.records c.in_err-judge_run.ensures)).1

pub run_steps-requires-clause-table_value : goal.run_steps-requires-clause-table_value
run_steps-requires-clause-table_value c =
    (fit-to-run c.args.table.now c.args.steps.now c.args.state.now c.args.records c.in_ok-judge_run.ensures).0

pub run_steps-requires-clause-steps_value : goal.run_steps-requires-clause-steps_value
run_steps-requires-clause-steps_value c =
    (fit-to-run c.args.table.now c.args.steps.now c.args.state.now c.args.records c.in_ok-judge_run.ensures).1

pub run_steps-requires-clause-records_value : goal.run_steps-requires-clause-records_value
run_steps-requires-clause-records_value c =
    (fit-to-run c.args.table.now c.args.steps.now c.args.state.now c.args.records c.in_ok-judge_run.ensures).2

pub returns-clause-told : goal.returns-clause-told
returns-clause-told c =
    let a = c.args in
    c.run_steps.ensures.result_value ∙
    (both (run-passed a.table.now a.steps.now a.state.now a.records c.in_ok-judge_run.ensures)).0

pub returns-clause-left : goal.returns-clause-left
returns-clause-left c =
    let a = c.args in
    c.run_steps.ensures.state_after ∙
    (both (run-passed a.table.now a.steps.now a.state.now a.records c.in_ok-judge_run.ensures)).1
