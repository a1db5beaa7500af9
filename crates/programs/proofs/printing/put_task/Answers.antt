-- The words are a table and the bytes lent hold the longest text, so that the outcome of writing is a result, whose
-- bytes and their number are what is printed.
use Rattle.programs.proofs.Answered.{task-written, written-printed}
use Rattle.programs.proofs.printing.put_task.Goals as goal

pub returns : goal.returns
returns c =
    let a = c.args in
    let p = c.requires in
    let h = c.write.ensures in
    written-printed _ _ c.write.result h.told h.written
    (task-written a.table.now a.out.now p.table_value p.longest_text_in_bounds) c.unwrap_or.ensures
