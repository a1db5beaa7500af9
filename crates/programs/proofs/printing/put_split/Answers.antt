-- A split that is given lies as a table, whose text is put; a refusal is the one that is printed.
use Rattle.task.specs.Table.{task_of}
use Rattle.text.specs.Text.{write}
use Rattle.blocks.proofs.SplitWritten.{split-given}
use Rattle.programs.proofs.Answered.{table-zeros, split-printed, split-refused}
use Rattle.programs.proofs.Printed.{prints-same}
use Rattle.programs.proofs.printing.put_split.Goals as goal

pub put_task-requires-clause-table_value : goal.put_task-requires-clause-table_value
put_task-requires-clause-table_value c =
    (split-given c.args.table.now _ c.in-Ok.ensures.told c.in-Ok.ensures.written).split-table

pub returns-in-Ok : goal.returns-in-Ok
returns-in-Ok c =
    let given = split-given c.args.table.now _ c.in-Ok.ensures.told c.in-Ok.ensures.written in
    prints-same (split-printed write (task_of c.args.table.now) given.accepted) c.put_task.ensures

pub returns-in-Err : goal.returns-in-Err
returns-in-Err c =
    prints-same (split-refused c.args.table.now _ c.requires.table_value table-zeros c.in-Err.ensures.told write)
    c.put_refusal.ensures
