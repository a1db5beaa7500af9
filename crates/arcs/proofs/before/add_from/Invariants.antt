use Rattle.std.proofs.Common.{◌≡◌, List, [], ◌∷◌, length}
use Rattle.task.specs.Limits.{most_parts}
use Rattle.task.specs.Task.{Pair}
use Rattle.task.specs.Table.{atom_in}
use Rattle.arcs.specs.Stretches.{Joins, Pairing, stretch_in, arcs_between}
use Rattle.arcs.proofs.before.add_from.Given as goal

-- the arcs from atom i to the atoms before j have joined the sets
abbrev pub invariant-loop-j : goal.invariant-loop-j
invariant-loop-j l =
    (length l.before ≡ most_parts) × ((pairs : List Pair) → Pairing pairs l.paired l.partners →
    Joins (arcs_between pairs (atom_in l.table l.i ∷ []) (stretch_in l.table l.from l.j)) l.initial.before l.before)
