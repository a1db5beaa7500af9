use Rattle.std.proofs.Common.{◌≡◌, length, replicate}
use Rattle.task.specs.Limits.{most_parts}
use Rattle.arcs.specs.Stretches.{Joins, stretch_in, pair_stretch_in, arcs_between}
use Rattle.arcs.proofs.before.arcs_of.Given as goal

-- the arcs from the atoms before i have joined the empty sets
abbrev pub invariant-loop-i : goal.invariant-loop-i
invariant-loop-i l =
    (length l.before ≡ most_parts) ×
    Joins
    (arcs_between (pair_stretch_in l.table l.pair l.end) (stretch_in l.table l.from l.i)
    (stretch_in l.table l.from l.to)) (replicate most_parts 0) l.before
