-- The schemas that end by atom k have their ends.
use Rattle.task.proofs.StartLaws.{StartsSo}
use Rattle.task.proofs.running.schema_starts.Given as goal

abbrev pub invariant-loop-k : goal.invariant-loop-k
invariant-loop-k l = StartsSo l.table l.k l.starts
