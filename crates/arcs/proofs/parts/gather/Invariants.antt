use Rattle.std.proofs.Common.{◌≤◌}
use Rattle.task.specs.Limits.{most_parts}
use Rattle.arcs.specs.Stretches.{stretch_in}
use Rattle.arcs.proofs.Gathering.{Gathered}
use Rattle.arcs.proofs.parts.gather.Given as goal

-- count and arrays are those of the atoms before i
abbrev pub invariant-loop-i : goal.invariant-loop-i
invariant-loop-i l =
    (l.count ≤ most_parts) × Gathered (stretch_in l.table l.from l.i) l.preconditions l.tested l.named l.count
