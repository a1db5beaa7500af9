-- `task::layout::object_count` meets its contract: word 0 is the number of objects of a table, and a table has it.
use mathlib.Core.Path.{sym}
use native.Mathlib.Omega.{arith}
use Rattle.task.proofs.TablesByIndex.{table-frame, objects-word}
use Rattle.task.proofs.TableReads.{counts-inside}
use Rattle.task.proofs.layout.object_count.Statement.{statement}
use Rattle.task.proofs.layout.object_count.Tie as tie

shared-slice-read-result : tie.Need-bounds-table-0
shared-slice-read-result c = let l = counts-inside c.args.table.now c.requires in omega arith

returns : tie.Need-returns
returns c = let w = c.args.table.now in sym (objects-word w (table-frame w c.requires))

pub object_count_spec : {M : Type 1} → statement M
object_count_spec = tie.close (tie.spec shared-slice-read-result returns)
