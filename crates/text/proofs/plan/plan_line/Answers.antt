-- The key at the cursor says whose body the line is; where there is none the line is refused.
use Rattle.std.proofs.Common.{arith, refl}
use Rattle.task.specs.Table.{task_of}
use Rattle.text.specs.Lines.{bytes}
use Rattle.text.specs.Plan.{plan_key_name, take_plan_line}
use Rattle.text.proofs.LineTurns.{no-line-refused}
use Rattle.text.proofs.PlanLoop.{next-step, next-end, next-none, word_moved, plan-turned-at}
use Rattle.text.proofs.plan.plan_line.Goals as goal

pub returns-in-Some : goal.returns-in-Some
unfolding bytes plan_key_name
returns-in-Some c xs e =
    plan-turned-at (task_of c.args.table.now) c.args.text.now c.args.from _ xs _ _ c.args.steps.now
    c.step_line.result c.step_line.new.steps (word_moved _ (omega arith) c.in-Some.ensures)
    (next-step xs _ _ c.in-Some.ensures.is) (c.step_line.ensures xs e)

pub returns-in-Some-word : goal.returns-in-Some-word
unfolding bytes plan_key_name
returns-in-Some-word c xs e =
    let t = task_of c.args.table.now in
    plan-turned-at t c.args.text.now c.args.from _ xs _ _ c.args.steps.now c.last_line.result c.args.steps.now
    (word_moved _ (omega arith) c.in-Some-word.ensures)
    (next-end xs _ _ c.in_default.ensures c.in-Some-word.ensures.is) (c.last_line.ensures t xs c.args.steps.now)

pub returns : goal.returns
unfolding bytes plan_key_name
returns c xs e =
    let t = task_of c.args.table.now in
    (no-line-refused (take_plan_line t xs) _ (next-none xs _ c.in_default.ensures c.in_default-word.ensures), refl)
