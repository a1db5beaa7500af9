-- A task that is read lies as a table, of which the plan is read and printed; a refusal is the one that is printed.
use Rattle.std.proofs.Common.{arith}
use Rattle.text.specs.TableLines.{longest_text}
use Rattle.text.specs.PlanCode.{longest_plan}
use Rattle.programs.proofs.Answered.{table-zeros, table-read, task-printed, refusal-printed}
use Rattle.programs.proofs.PlanUnfolded.{prints_plan, unfold-is}
use Rattle.programs.proofs.unfold_texts.Goals as goal

pub put_plan-requires-clause-table_value : goal.put_plan-requires-clause-table_value
put_plan-requires-clause-table_value c =
    (table-read _ _ c.in-Ok.ensures.result_value c.in-Ok.ensures.table_after).is-table

pub put_plan-requires-clause-longest_plan_in_bounds : goal.put_plan-requires-clause-longest_plan_in_bounds
unfolding longest_plan
put_plan-requires-clause-longest_plan_in_bounds c = omega arith

pub put_refusal-requires : goal.put_refusal-requires
unfolding longest_text
put_refusal-requires c = omega arith

pub returns-in-Ok-clause-out_after : goal.returns-in-Ok-clause-out_after
returns-in-Ok-clause-out_after c =
    let plan = c.args.plan.now in
    let read = table-read _ _ c.in-Ok.ensures.result_value c.in-Ok.ensures.table_after in
    (task-printed (prints_plan plan) _ (unfold-is c.args.task.now plan) read c.put_plan.ensures).bytes

pub returns-in-Err-clause-out_after : goal.returns-in-Err-clause-out_after
returns-in-Err-clause-out_after c =
    let plan = c.args.plan.now in
    let told = c.in-Err.ensures.result_value in
    let is = unfold-is c.args.task.now plan in
    (refusal-printed (prints_plan plan) _ is _ table-zeros told c.put_refusal.ensures).bytes

pub returns-in-Ok-clause-value : goal.returns-in-Ok-clause-value
returns-in-Ok-clause-value c =
    let plan = c.args.plan.now in
    let read = table-read _ _ c.in-Ok.ensures.result_value c.in-Ok.ensures.table_after in
    (task-printed (prints_plan plan) _ (unfold-is c.args.task.now plan) read c.put_plan.ensures).count

pub returns-in-Err-clause-value : goal.returns-in-Err-clause-value
returns-in-Err-clause-value c =
    let plan = c.args.plan.now in
    let told = c.in-Err.ensures.result_value in
    let is = unfold-is c.args.task.now plan in
    (refusal-printed (prints_plan plan) _ is _ table-zeros told c.put_refusal.ensures).count
