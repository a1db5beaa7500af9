-- The checks pass up to the one that fails, which is the first refusal.
use Rattle.task.specs.declared.Place.TheVariants as place
use Rattle.std.proofs.Common.{sym, ◌∙◌, []}
use Rattle.std.proofs.lemmas.Result.{err_from_is_err_and}
use Rattle.task.specs.Answers.{table_checks}
use Rattle.task.proofs.Answers.{first_passes, first-refuses, first-refused, place-first-refuses, none-refused}
use Rattle.task.proofs.Answers.{passed-table}
use Rattle.task.proofs.RunOutcome.{state_check, step_check, past-table, past-steps}
use Rattle.task.proofs.judge_run.Goals as goal

pub returns-in_err-judge_table : goal.returns-in_err-judge_table
returns-in_err-judge_table c =
    let a = c.args in
    let e = err_from_is_err_and c.from_residual.result c.from_residual.ensures.1 in
    rw (e.1, e.2)
    (sym (first-refused (table_checks a.table.now) (step_check a.table.now a.steps.now a.state.now a.records)
    c.in_err-judge_table.ensures))

pub bad_step-requires : goal.bad_step-requires
bad_step-requires c = passed-table c.args.table.now c.in_ok-judge_table.ensures

pub returns-in-Some : goal.returns-in-Some
returns-in-Some c =
    let a = c.args in
    let bad = sym c.bad_step.ensures ∙ c.in-Some.is in
    rw c.at_step.ensures
    (sym (past-table a.table.now a.steps.now a.state.now a.records c.in_ok-judge_table.ensures ∙
    place-first-refuses 12 place.Step (state_check a.table.now a.steps.now a.state.now a.records) bad))

pub is_state-requires : goal.is_state-requires
is_state-requires c = passed-table c.args.table.now c.in_ok-judge_table.ensures

pub returns-then-not-is_state : goal.returns-then-not-is_state
returns-then-not-is_state c =
    let a = c.args in
    let good = sym c.bad_step.ensures ∙ c.in_default.is in
    rw c.nowhere.ensures
    (sym (past-steps a.table.now a.steps.now a.state.now a.records c.in_ok-judge_table.ensures good ∙
    first-refuses 15 [] (sym c.is_state.ensures ∙ c.if-not-is_state.true)))

pub returns : goal.returns
returns c =
    let a = c.args in
    let good = sym c.bad_step.ensures ∙ c.in_default.is in
    sym (past-steps a.table.now a.steps.now a.state.now a.records c.in_ok-judge_table.ensures good ∙
    (first_passes 15 [] (sym c.is_state.ensures ∙ c.if-not-is_state.false) ∙ none-refused))
