-- In a turn step i is one of the task's, and its schema is one of 200.
use Rattle.std.proofs.Common.{refl, arith}
use Rattle.task.specs.Turns.{EndedAs, records_left}
use Rattle.task.proofs.RunLaws.{good-step, schema-below, start-found, end-found, run-start, run-turn, run-stops}
use Rattle.task.proofs.RunLaws.{run-ended}
use Rattle.task.proofs.running.run_list.Goals as goal

pub loop-i-init : goal.loop-i-init
loop-i-init c = (run-start _ _ _ _ c.requires.n_value, refl)

pub bounds-starts-schema : goal.bounds-starts-schema
bounds-starts-schema c =
    let r = c.requires in
    let good = good-step _ _ r.steps_value _ c.loop-i-test.true in
    let few = schema-below _ c.args.starts.now _ _ r.table_value r.starts_len.1 good in
    omega (arith, r.starts_len.0)

pub bounds-starts-schema-in-loop-i : goal.bounds-starts-schema-in-loop-i
bounds-starts-schema-in-loop-i c =
    let r = c.requires in
    let good = good-step _ _ r.steps_value _ c.loop-i-test.true in
    let few = schema-below _ c.args.starts.now _ _ r.table_value r.starts_len.1 good in
    omega (arith, r.starts_len.0)

pub run_step-turn-requires-clause-i_value : goal.run_step-turn-requires-clause-i_value
run_step-turn-requires-clause-i_value c = good-step _ _ c.requires.steps_value _ c.loop-i-test.true

pub run_step-turn-requires-clause-start_value : goal.run_step-turn-requires-clause-start_value
run_step-turn-requires-clause-start_value c =
    let r = c.requires in
    start-found _ c.args.starts.now _ _ r.table_value r.starts_len.1 (good-step _ _ r.steps_value _ c.loop-i-test.true)

pub run_step-turn-requires-clause-end_value : goal.run_step-turn-requires-clause-end_value
run_step-turn-requires-clause-end_value c =
    let r = c.requires in
    end-found _ c.args.starts.now _ _ r.table_value r.starts_len.1 (good-step _ _ r.steps_value _ c.loop-i-test.true)

pub returns-in-Err-clause-result_after : goal.returns-in-Err-clause-result_after
unfolding records_left
returns-in-Err-clause-result_after c =
    (run-stops c.loop-i.invariant.0 _ _ c.loop-i-test.true c.in-Err.ensures.turned).0

pub returns-in-Err-clause-ended : goal.returns-in-Err-clause-ended
unfolding EndedAs records_left
returns-in-Err-clause-ended c =
    (run-stops c.loop-i.invariant.0 _ _ c.loop-i-test.true c.in-Err.ensures.turned).1

pub loop-i-preserved : goal.loop-i-preserved
loop-i-preserved c = (
  run-turn c.loop-i.invariant.0 _ _ c.loop-i-test.true c.run_step-turn.auto.state c.in-Ok.ensures.turned,
  c.in-Ok.ensures.numbers_len_2,
)

pub returns-clause-result_after : goal.returns-clause-result_after
unfolding records_left
returns-clause-result_after c = c.loop-i.invariant.0.state_is

pub returns-clause-ended : goal.returns-clause-ended
unfolding EndedAs records_left
returns-clause-ended c = run-ended c.loop-i.invariant.0 c.loop-i-test.false
