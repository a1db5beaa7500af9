-- The parameters are the set so far with those that stand in the atoms left.
use Prim.Native.Nat.{◌-◌}
use Rattle.words.specs.Lists.{any}
use Rattle.task.specs.Task.{names}
use Rattle.task.specs.Table.{atom_in}
use Rattle.task.specs.WordTests.{atoms_in}
use Rattle.words.proofs.Loops.{SetLeft}
use Rattle.task.proofs.table.schemas.parameters.Given as goal

abbrev pub invariant-loop-i : goal.invariant-loop-i
invariant-loop-i l =
    SetLeft (λ x k. names x (atom_in l.table k)) l.end
    (λ x. any (names x) (atoms_in l.table l.first (l.end - l.first))) l.set l.i
