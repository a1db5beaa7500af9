-- The numbers of the atoms before k stand.
use Prim.Native.Nat.{◌-◌, ◌≤◌}
use mathlib.Core.Path.{◌≡◌}
use lib.ListN.{length}
use Rattle.task.specs.Limits.{most_atoms}
use Rattle.task.specs.Spans.{ground_from, NumbersOf}
use Rattle.task.proofs.spans.ground_all.Given as goal

abbrev pub invariant-loop-k : goal.invariant-loop-k
invariant-loop-k l = record {
  to : l.k ≤ l.end;
  many : length l.numbers ≡ most_atoms;
  stand : NumbersOf (ground_from l.table l.steps l.i l.start) (l.k - l.start) l.numbers;
}
