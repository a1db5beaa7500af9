-- Schema, number of objects and objects are tested one after another, and each test that fails makes it no choice.
use Rattle.std.proofs.Common.{arith, sym, ◌∙◌}
use lib.Seq.{length-take-le}
use Rattle.task.specs.Table.{task_of}
use Rattle.task.proofs.Tables.{of-table}
use Rattle.task.proofs.StepWords.{params-few}
use Rattle.text.proofs.PlanSteps.{wrong-schema, wrong-number, step-judged}
use Rattle.text.proofs.plan.is_choice.Goals as goal

pub returns-then-schema_count-schema : goal.returns-then-schema_count-schema
returns-then-schema_count-schema c ns listed =
    wrong-schema (task_of c.args.table.now) c.args.schema ns
    (omega (arith, c.schema_count.ensures, c.if-schema_count-schema.true))

pub returns-then-param_count-count : goal.returns-then-param_count-count
returns-then-param_count-count c ns listed =
    wrong-number (task_of c.args.table.now) c.args.schema ns
    (λ q. c.if-param_count-count.true (c.param_count.ensures ∙ (q ∙ listed.counted)))

pub slice_bounds-all_below-end : goal.slice_bounds-all_below-end
slice_bounds-all_below-end c =
    let w = c.args.table.now in
    let few = params-few (task_of w) (of-table w c.requires.table_value).0 c.args.schema in
    sym (length-take-le c.args.count c.args.objects.now
    (omega (arith, c.param_count.ensures, c.if-param_count-count.false, c.requires.objects_len)))

pub returns : goal.returns
returns c ns listed =
    step-judged c.args.table.now c.requires.table_value c.args.schema c.args.count c.args.objects.now _
    c.requires.objects_len (omega (arith, c.schema_count.ensures, c.if-schema_count-schema.false))
    (sym c.param_count.ensures ∙ c.if-param_count-count.false) _ c.object_count.ensures c.all_below.ensures ns listed
