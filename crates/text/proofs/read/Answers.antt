-- A table that is too short is refused with 1 and left as found (`short-outcome`). For any other the outcome is what
-- the text reads as (`long-outcome`), which is what `read_task` gives.
use Rattle.std.proofs.Common.{arith, ◌∙◌}
use Rattle.task.proofs.Answers.{both}
use Rattle.task.proofs.Tables.{table_words-is}
use Rattle.text.proofs.ReadLoop.{short-outcome, long-outcome}
use Rattle.text.proofs.read.Goals as goal

pub returns-then-table-lt-TABLE_WORDS-clause-result_value : goal.returns-then-table-lt-TABLE_WORDS-clause-result_value
returns-then-table-lt-TABLE_WORDS-clause-result_value c =
    rw c.nowhere.ensures
    (both (short-outcome c.args.text.now c.args.table.now
    (omega (arith, c.if-table-lt-TABLE_WORDS.true, table_words-is)))).0

pub returns-then-table-lt-TABLE_WORDS-clause-table_after : goal.returns-then-table-lt-TABLE_WORDS-clause-table_after
returns-then-table-lt-TABLE_WORDS-clause-table_after c =
    (both (short-outcome c.args.text.now c.args.table.now
    (omega (arith, c.if-table-lt-TABLE_WORDS.true, table_words-is)))).1

pub read_task-requires : goal.read_task-requires
read_task-requires c = omega (arith, table_words-is, c.if-table-lt-TABLE_WORDS.false)

pub returns-clause-result_value : goal.returns-clause-result_value
returns-clause-result_value c =
    c.read_task.ensures.result_value ∙
    (both (long-outcome c.args.text.now c.args.table.now
    (omega (arith, table_words-is, c.if-table-lt-TABLE_WORDS.false)))).0

pub returns-clause-table_after : goal.returns-clause-table_after
returns-clause-table_after c =
    c.read_task.ensures.table_after ∙
    (both (long-outcome c.args.text.now c.args.table.now
    (omega (arith, table_words-is, c.if-table-lt-TABLE_WORDS.false)))).1
