use Rattle.task.proofs.TableReads.{table-roomy}
use Rattle.task.proofs.running.role_of.Goals as goal

pub row_of-requires-clause-roomy : goal.row_of-requires-clause-roomy
row_of-requires-clause-roomy c = table-roomy _ c.requires.table_value
