-- The atoms from i on are distinct, and each has its predicate in the set of its role, so that those of them that have
-- the role of the atom before i are known to `repeats`.
use Prim.Native.Nat.{◌-◌, ◌≤◌}
use mathlib.Core.Path.{◌≡◌}
use mathlib.Core.Bool.{true}
use lib.ListN.{length}
use Rattle.task.specs.Task.{distinct}
use Rattle.task.specs.WordTests.{atoms_in}
use Rattle.task.proofs.Repeats.{SeenFrom}
use Rattle.task.proofs.table.schemas.atoms_differ.Given as goal

abbrev pub invariant-loop-i : goal.invariant-loop-i
invariant-loop-i l = record {
  from : l.first ≤ l.i;
  few : length l.seen ≡ 3;
  seen : SeenFrom l.table l.end l.i l.seen;
  differ : distinct (atoms_in l.table l.i (l.end - l.i)) ≡ true;
}
