-- A plan that is read lies as few steps of the task, whose unfolding is printed; a refusal is the one that is printed.
use Rattle.std.proofs.Common.{List, ℕ, ◌*◌, sym, ap, ◌∙◌, arith}
use lib.Seq.{length-take-le}
use Rattle.task.specs.Limits.{step_size}
use Rattle.task.specs.Table.{task_of}
use Rattle.text.specs.Plan.{read_plan}
use Rattle.text.proofs.PlanSteps.{plan_words-is}
use Rattle.programs.specs.Programs.{print_reading}
use Rattle.programs.proofs.Printed.{prints-same}
use Rattle.programs.proofs.PlanUnfolded.{text-room, plan-read, plan-refused, plan-printed, prints_steps}
use Rattle.programs.proofs.plans.put_plan.Goals as goal

pub read_plan-requires-clause-plan_words_in_bounds : goal.read_plan-requires-clause-plan_words_in_bounds
read_plan-requires-clause-plan_words_in_bounds c = omega (arith, plan_words-is)

pub overflow_mul-steps : goal.overflow_mul-steps
overflow_mul-steps c =
    let few = (plan-read _ _ _ c.requires.table_value c.in-Ok.ensures.told c.in-Ok.ensures.words).few in
    omega arith

pub slice_bounds-steps-end : goal.slice_bounds-steps-end
slice_bounds-steps-end c =
    (plan-read _ _ _ c.requires.table_value c.in-Ok.ensures.told c.in-Ok.ensures.words).inside

pub slice_bounds-put_unfolding-end : goal.slice_bounds-put_unfolding-end
slice_bounds-put_unfolding-end c =
    let read = plan-read _ _ _ c.requires.table_value c.in-Ok.ensures.told c.in-Ok.ensures.words in
    sym (length-take-le (step_size * c.in-Ok.count) c.read_plan.new.steps read.inside)

pub put_unfolding-requires-clause-plan_choices : goal.put_unfolding-requires-clause-plan_choices
put_unfolding-requires-clause-plan_choices c =
    (plan-read _ _ _ c.requires.table_value c.in-Ok.ensures.told c.in-Ok.ensures.words).plan

pub put_refusal-requires : goal.put_refusal-requires
put_refusal-requires c = text-room c.requires.longest_plan_in_bounds

pub returns-in-Ok : goal.returns-in-Ok
returns-in-Ok c =
    let t = task_of c.args.table.now in
    let read = plan-read _ _ _ c.requires.table_value c.in-Ok.ensures.told c.in-Ok.ensures.words in
    prints-same
    (plan-printed (prints_steps t) t _ read.reads ∙
    ap (λ (bs : List ℕ). print_reading (prints_steps t) (read_plan t bs)) c.bytes_taken.ensures.input_value)
    c.put_unfolding.ensures

pub returns-in-Err : goal.returns-in-Err
returns-in-Err c =
    let t = task_of c.args.table.now in
    prints-same
    (plan-refused c.args.table.now _ _ c.in-Err.ensures.told (prints_steps t) ∙
    ap (λ (bs : List ℕ). print_reading (prints_steps t) (read_plan t bs)) c.bytes_taken.ensures.input_value)
    c.put_refusal.ensures
