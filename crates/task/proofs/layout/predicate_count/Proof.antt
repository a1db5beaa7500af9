-- `task::layout::predicate_count` meets its contract: word 1 is the number of arities of a table, and a table has it.
use mathlib.Core.Path.{sym}
use native.Mathlib.Omega.{arith}
use Rattle.task.proofs.TablesByIndex.{table-frame, arities-word}
use Rattle.task.proofs.TableReads.{counts-inside}
use Rattle.task.proofs.layout.predicate_count.Statement.{statement}
use Rattle.task.proofs.layout.predicate_count.Tie as tie

shared-slice-read-result : tie.Need-bounds-table-1
shared-slice-read-result c = let l = counts-inside c.args.table.now c.requires in omega arith

returns : tie.Need-returns
returns c = let w = c.args.table.now in sym (arities-word w (table-frame w c.requires))

pub predicate_count_spec : {M : Type 1} → statement M
predicate_count_spec = tie.close (tie.spec shared-slice-read-result returns)
