-- A text that is read lies as a table, and what is made of that is printed; a refusal is the one that is printed.
use Rattle.std.proofs.Common.{refl}
use Rattle.programs.specs.Printing.{made}
use Rattle.programs.proofs.Answered.{table-zeros, table-read, task-printed, refusal-printed, refusal-fits}
use Rattle.programs.proofs.tasks.put_made.Goals as goal

pub put_form-requires-clause-table_value : goal.put_form-requires-clause-table_value
put_form-requires-clause-table_value c =
    (table-read _ _ c.in-Ok.ensures.result_value c.in-Ok.ensures.table_after).is-table

pub put_refusal-requires : goal.put_refusal-requires
put_refusal-requires c = refusal-fits c.args.form c.requires

pub returns-in-Ok : goal.returns-in-Ok
returns-in-Ok c =
    let read = table-read _ _ c.in-Ok.ensures.result_value c.in-Ok.ensures.table_after in
    task-printed (made c.args.form) _ refl read c.put_form.ensures

pub returns-in-Err : goal.returns-in-Err
returns-in-Err c =
    refusal-printed (made c.args.form) _ refl _ table-zeros c.in-Err.ensures.result_value c.put_refusal.ensures
