-- The list ends or stops, and either way leaves the last state's words with zeros behind them and tells what the
-- outcome tells.
use Rattle.std.proofs.Common.{arith}
use Rattle.task.proofs.EndLaws.{state-fills, done-ran, done-stopped}
use Rattle.task.specs.Turns.{records_left, EndedAs}
use Rattle.task.proofs.running.run_steps.Goals as goal

pub goal_met-goal-requires-clause-n_value : goal.goal_met-goal-requires-clause-n_value
unfolding records_left
goal_met-goal-requires-clause-n_value c = c.in-Ok.ensures.result_after

pub overflow_mul-left : goal.overflow_mul-left
unfolding records_left
overflow_mul-left c =
    let l = state-fills _ _ _ c.in-Ok.ensures.result_after in
    let z = c.run_list.auto.state in
    omega (arith, c.well_formed)

pub clear_from-requires : goal.clear_from-requires
unfolding records_left
clear_from-requires c = state-fills _ _ _ c.in-Ok.ensures.result_after

pub overflow_mul-stop : goal.overflow_mul-stop
unfolding records_left
overflow_mul-stop c =
    let l = state-fills _ _ _ c.in-Err.ensures.result_after in
    let z = c.run_list.auto.state in
    omega (arith, c.well_formed)

pub clear_from-requires-in-Err : goal.clear_from-requires-in-Err
unfolding records_left
clear_from-requires-in-Err c = state-fills _ _ _ c.in-Err.ensures.result_after

pub returns-in-Ok : goal.returns-in-Ok
unfolding records_left EndedAs
returns-in-Ok c =
    let l = c.in-Ok.ensures in
    let met = c.goal_met-goal.ensures in
    let d = done-ran _ _ _ _ _ l.result_after c.run_list.auto.state c.clear_from.ensures l.ended met in
    record { result_value = d.0; state_after = d.1 }

pub returns-in-Err : goal.returns-in-Err
unfolding records_left EndedAs
returns-in-Err c =
    let l = c.in-Err.ensures in
    rw c.at_step.ensures
    (let d =
    done-stopped _ _ _ _ _ l.result_after c.run_list.auto.state c.clear_from-in-Err.ensures c.in-Err.stop.reason
    c.in-Err.stop.step _ l.ended in
    record { result_value = d.0; state_after = d.1 })
