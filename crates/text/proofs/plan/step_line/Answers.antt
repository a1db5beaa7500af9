-- A line that is read is tried by the number of steps, then by its own, and each refusal is what the line does; a step
-- that passes has its words put behind those of the others.
use Rattle.std.proofs.Common.{arith, refl, sym}
use lib.Seq.{length-take-le}
use Rattle.task.specs.Table.{task_of}
use Rattle.text.specs.Plan.{step_line, take_plan_line}
use Rattle.text.specs.PlanCode.{step_of}
use Rattle.text.proofs.RowTests.{listed-take, first-small}
use Rattle.text.proofs.LineTurns.{no-turn, turn-refused, turn-goes-on}
use Rattle.text.proofs.PlanSteps.{step_room, step_kept}
use Rattle.text.proofs.PlanLoop.{step-taken, one-too-many, step-wrong}
use Rattle.text.proofs.plan.step_line.Goals as goal

pub returns-in_default : goal.returns-in_default
returns-in_default c xs e =
    (no-turn step_line _ (take_plan_line (task_of c.args.table.now) xs) c.in_default.ensures, refl)

pub returns-then-n-ge-MOST_STEPS : goal.returns-then-n-ge-MOST_STEPS
returns-then-n-ge-MOST_STEPS c xs e =
    let line = c.in-Some.ensures in
    let t = task_of c.args.table.now in (
      λ n next.
          turn-refused step_line _ (take_plan_line t xs) _ _ line.is n next 4
          (one-too-many t xs _ line.ns (omega (arith, c.if-n-ge-MOST_STEPS.true))),
      refl,
    )

pub returns-then-not-is_choice : goal.returns-then-not-is_choice
returns-then-not-is_choice c xs e =
    let line = c.in-Some.ensures in
    let t = task_of c.args.table.now in (
      λ n next.
          turn-refused step_line _ (take_plan_line t xs) _ _ line.is n next 5
          (step-wrong t xs _ line.ns (omega (arith, c.if-n-ge-MOST_STEPS.false))
          (sym (c.if-not-is_choice.ensures line.ns line.listed))),
      refl,
    )

pub put_step-requires-clause-step_size_in_bounds : goal.put_step-requires-clause-step_size_in_bounds
put_step-requires-clause-step_size_in_bounds c =
    step_room c.requires.plan_words_in_bounds c.if-n-ge-MOST_STEPS.false

pub put_step-requires-clause-schema_lt_word_bound : goal.put_step-requires-clause-schema_lt_word_bound
put_step-requires-clause-schema_lt_word_bound c =
    let line = c.in-Some.ensures in
    let kept = step_kept c.args.table.now c.requires.table_value _ _ _ line.ns (omega (arith, c.entry_line.auto.list))
    line.listed (sym (c.if-not-is_choice.ensures line.ns line.listed)) in
    (kept.schema, omega (arith, length-take-le _ _ kept.enough, kept.few))

pub put_step-requires-clause-by_index : goal.put_step-requires-clause-by_index
put_step-requires-clause-by_index c =
    let line = c.in-Some.ensures in
    let kept = step_kept c.args.table.now c.requires.table_value _ _ _ line.ns (omega (arith, c.entry_line.auto.list))
    line.listed (sym (c.if-not-is_choice.ensures line.ns line.listed)) in
    first-small _ _ kept.enough kept.small

pub slice_bounds-objects-end : goal.slice_bounds-objects-end
slice_bounds-objects-end c =
    let line = c.in-Some.ensures in
    let kept = step_kept c.args.table.now c.requires.table_value _ _ _ line.ns (omega (arith, c.entry_line.auto.list))
    line.listed (sym (c.if-not-is_choice.ensures line.ns line.listed)) in
    kept.enough

pub slice_bounds-put_step-end : goal.slice_bounds-put_step-end
slice_bounds-put_step-end c =
    let line = c.in-Some.ensures in
    let kept = step_kept c.args.table.now c.requires.table_value _ _ _ line.ns (omega (arith, c.entry_line.auto.list))
    line.listed (sym (c.if-not-is_choice.ensures line.ns line.listed)) in
    sym (length-take-le _ _ kept.enough)

pub returns : goal.returns
returns c xs e =
    let line = c.in-Some.ensures in
    let t = task_of c.args.table.now in
    let is-choice = sym (c.if-not-is_choice.ensures line.ns line.listed) in
    let kept = step_kept c.args.table.now c.requires.table_value _ _ _ line.ns (omega (arith, c.entry_line.auto.list))
    line.listed is-choice in
    let room = c.if-n-ge-MOST_STEPS.false in
    record {
      last = step_of _ line.ns;
      is-choice = is-choice;
      room = omega arith;
      is = λ n next. turn-goes-on step_line _ (take_plan_line t xs) _ _ line.is n next _
          (step-taken t xs _ line.ns (omega arith) is-choice);
      put = rw (e, ← (listed-take line.listed kept.enough)) c.put_step.ensures;
      line = line.line;
    }
