-- The schema that is read is one of the table's.
use Rattle.std.proofs.Common.{arith}
use Rattle.task.proofs.TableReads.{table-roomy, counts-inside}
use Rattle.task.proofs.StartLaws.{schema-low, starts_none, starts-turn, starts-end}
use Rattle.task.proofs.running.schema_starts.Goals as goal

pub word-count-requires : goal.word-count-requires
word-count-requires c = omega (arith, counts-inside _ c.requires.table_value)

pub loop-k-init : goal.loop-k-init
loop-k-init c = starts_none _ c.requires.table_value _ c.requires.starts_len.0 c.requires.starts_len.1

pub schema_number-requires-clause-roomy : goal.schema_number-requires-clause-roomy
schema_number-requires-clause-roomy c = table-roomy _ c.requires.table_value

pub overflow_add-starts-in-loop-k : goal.overflow_add-starts-in-loop-k
overflow_add-starts-in-loop-k c =
    let low = schema-low _ c.requires.table_value c.loop-k.k (omega (arith, c.word-count.ensures)) in
    omega (arith, c.schema_number.ensures)

pub offset_bounds-starts-schema_number : goal.offset_bounds-starts-schema_number
offset_bounds-starts-schema_number c =
    let low = schema-low _ c.requires.table_value c.loop-k.k (omega (arith, c.word-count.ensures)) in
    omega (arith, c.schema_number.ensures)

pub bounds-starts-schema_number : goal.bounds-starts-schema_number
bounds-starts-schema_number c =
    let low = schema-low _ c.requires.table_value c.loop-k.k (omega (arith, c.word-count.ensures)) in
    omega (arith, c.schema_number.ensures)

pub loop-k-preserved : goal.loop-k-preserved
loop-k-preserved c =
    let inside = c.word-count.ensures.value in
    starts-turn _ c.requires.table_value _ _ _ (omega arith) c.schema_number.ensures c.loop-k.invariant

pub returns : goal.returns
returns c =
    let inside = c.word-count.ensures.value in
    (c.loop-k.invariant.size, starts-end _ c.requires.table_value c.loop-k.k _ (omega arith) c.loop-k.invariant)
