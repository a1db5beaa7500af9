-- The part words of the first k rows are put, and no other word is touched.
use Rattle.text.specs.ReadCode.{PartsPut}
use Rattle.text.proofs.rows.put_parts.Given as goal

abbrev pub invariant-loop-k : goal.invariant-loop-k
invariant-loop-k l = PartsPut l.fn.table l.first l.k l.parts l.table
