-- What is read so far is what the definitions read (`SoFar`); the measure is the bytes left, since a line has one at
-- least.
use Rattle.std.proofs.Common.{◌-◌, length}
use Rattle.text.proofs.ReadLoop.{SoFar}
use Rattle.text.proofs.reader.read_task.Given as goal

abbrev pub invariant-loop-reason : goal.invariant-loop-reason
invariant-loop-reason l = SoFar l.text l.fn.table l.cursor l.counts l.table

abbrev pub decreases-loop-reason : goal.decreases-loop-reason
decreases-loop-reason l = length l.text - l.cursor.at
