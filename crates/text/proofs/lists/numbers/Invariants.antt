-- What was kept and counted so far is a beginning of the list, and the rest of the list is read at the cursor. The
-- measure is the bytes left.
use Rattle.std.proofs.Common.{◌-◌, length}
use Rattle.text.proofs.ListLoop.{ListSoFar}
use Rattle.text.proofs.lists.numbers.Given as goal

abbrev pub invariant-loop-n : goal.invariant-loop-n
invariant-loop-n l = ListSoFar l.text l.fn.from l.here l.count l.list

abbrev pub decreases-loop-n : goal.decreases-loop-n
decreases-loop-n l = length l.text - l.here.at
