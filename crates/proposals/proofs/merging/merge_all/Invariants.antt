-- `proposals::merging::merge_all`: n of the atoms' parts are left, and whatever schema they belong to, merging them on
-- gives what the merging gives. A turn leaves one fewer, so n is the measure.
use Rattle.std.proofs.Common.{◌≡◌, ◌≤◌, ◌-◌, length}
use Rattle.task.specs.Limits.{most_schema_atoms}
use Rattle.proposals.specs.Scratch.{KeepsBehind}
use Rattle.proposals.proofs.MergingTurns.{MergingAny}
use Rattle.proposals.proofs.merging.merge_all.Given as goal

abbrev pub invariant-loop-a : goal.invariant-loop-a
invariant-loop-a l = record {
  few : l.n ≤ l.to - l.from;
  long : length l.parts ≡ most_schema_atoms;
  keeps : KeepsBehind l.fn.scratch l.scratch;
  merging : MergingAny l.width l.from (l.to - l.from) l.fn.parts l.fn.scratch l.n l.parts l.scratch;
}

abbrev pub decreases-loop-a : goal.decreases-loop-a
decreases-loop-a l = l.n
