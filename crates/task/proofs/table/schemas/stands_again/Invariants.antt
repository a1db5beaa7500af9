-- The whole search is what is left of it from atom j on.
use Rattle.task.specs.Task.{same_atom}
use Rattle.task.specs.Table.{atom_in}
use Rattle.task.specs.WordTests.{stands_again}
use Rattle.words.proofs.Loops.{AnyLeft}
use Rattle.task.proofs.table.schemas.stands_again.Given as goal

abbrev pub invariant-loop-j : goal.invariant-loop-j
invariant-loop-j l =
    AnyLeft (λ k. same_atom (atom_in l.table l.i) (atom_in l.table k)) l.end (stands_again l.table l.i l.end) l.j
