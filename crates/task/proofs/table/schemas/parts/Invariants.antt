-- The parts are the set so far with those of the atoms left.
use Prim.Native.Nat.{◌-◌}
use lib.Dec.{eqb}
use Rattle.words.specs.Lists.{any}
use Rattle.task.specs.Table.{atom_in}
use Rattle.task.specs.WordTests.{atoms_in}
use Rattle.words.proofs.Loops.{SetLeft}
use Rattle.task.proofs.table.schemas.parts.Given as goal

abbrev pub invariant-loop-i : goal.invariant-loop-i
invariant-loop-i l =
    SetLeft (λ p k. eqb p (atom_in l.table k).part) l.end
    (λ p. any (λ a. eqb p a.part) (atoms_in l.table l.first (l.end - l.first))) l.set l.i
