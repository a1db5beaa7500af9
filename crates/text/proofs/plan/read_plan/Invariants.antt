-- Reading the whole text is reading on from the cursor with the steps read so far, whose words lie over the front of
-- the lent ones (`PlanSoFar`). The measure is what is left of the text.
use Rattle.std.proofs.Common.{◌-◌, length}
use Rattle.task.specs.Table.{task_of}
use Rattle.text.proofs.PlanLoop.{PlanSoFar}
use Rattle.text.proofs.plan.read_plan.Given as goal

abbrev pub invariant-loop-reason : goal.invariant-loop-reason
invariant-loop-reason l = PlanSoFar (task_of l.table) l.text l.fn.steps l.cursor l.n l.steps

abbrev pub decreases-loop-reason : goal.decreases-loop-reason
decreases-loop-reason l = length l.text - l.cursor.at
