-- The tests are those of a row, in their order (`record-unknown` to `record-zeros`), and the numbers of arguments and
-- objects are the task's.
use Rattle.std.proofs.Common.{◌*◌, sym, ◌∙◌, ap, get_or, arith}
use Rattle.task.specs.Layout.{arity_in}
use Rattle.task.specs.Table.{task_of}
use Rattle.task.proofs.Tables.{of-table}
use Rattle.task.proofs.TablesByIndex.{table-frame, arities-word}
use Rattle.task.proofs.TableReads.{table-roomy, arity-word}
use Rattle.task.proofs.RecordWords.{record-unknown, record-objects, record-zeros}
use Rattle.task.proofs.state.is_record.Goals as goal

pub returns-then-predicate_count-predicate : goal.returns-then-predicate_count-predicate
returns-then-predicate_count-predicate c =
    let w = c.args.table.now in
    let e = c.predicate_count.ensures in
    sym (record-unknown (task_of w) (of-table w c.requires.table_value).0 c.args.state.now c.args.i (omega arith))

pub arity-args-requires-clause-roomy : goal.arity-args-requires-clause-roomy
arity-args-requires-clause-roomy c = table-roomy _ c.requires.table_value

pub arity-args-requires-clause-p_bound : goal.arity-args-requires-clause-p_bound
arity-args-requires-clause-p_bound c =
    let e = arities-word _ (table-frame _ c.requires.table_value) in
    let n = c.predicate_count.ensures in
    omega (arith, c.wide.ensures)

pub returns-then-not-are_objects : goal.returns-then-not-are_objects
returns-then-not-are_objects c =
    let w = c.args.table.now in
    let count = c.predicate_count.ensures in
    let args = c.arity-args.ensures.value ∙ (ap (arity_in w) c.wide.ensures ∙
    arity-word w c.requires.table_value (get_or c.args.state.now (5 * c.args.i) 0) (omega arith)) in
    sym (record-objects (task_of w) (of-table w c.requires.table_value).0 c.args.state.now c.args.i _ _ args
    c.object_count.ensures (sym c.are_objects.ensures ∙ c.if-not-are_objects.true))

pub returns : goal.returns
returns c =
    let w = c.args.table.now in
    let count = c.predicate_count.ensures in
    let args = c.arity-args.ensures.value ∙ (ap (arity_in w) c.wide.ensures ∙
    arity-word w c.requires.table_value (get_or c.args.state.now (5 * c.args.i) 0) (omega arith)) in
    c.are_zero.ensures ∙
    sym (record-zeros (task_of w) (of-table w c.requires.table_value).0 c.args.state.now c.args.i _ _ args
    c.object_count.ensures (omega arith) (sym c.are_objects.ensures ∙ c.if-not-are_objects.false))
