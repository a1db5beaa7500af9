-- The first s schemas are counted.
use Rattle.task.specs.Table.{task_of}
use Rattle.tokens.specs.Acceptance.{SizesBefore}
use Rattle.tokens.proofs.measure.sizes_of.Given as goal

abbrev pub invariant-loop-s : goal.invariant-loop-s
invariant-loop-s l = SizesBefore (task_of l.fn.table) l.s l.sizes
