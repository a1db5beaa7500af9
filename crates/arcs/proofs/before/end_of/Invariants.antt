use Rattle.std.proofs.Common.{◌≤◌}
use Rattle.arcs.specs.Stretches.{NoneOf}
use Rattle.arcs.proofs.before.end_of.Given as goal

-- no atom from i on has one of the roles
abbrev pub invariant-loop-i : goal.invariant-loop-i
invariant-loop-i l = (l.from ≤ l.i) × NoneOf l.table l.roles l.i l.to
