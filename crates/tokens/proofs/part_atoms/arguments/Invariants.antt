-- The first k arguments were put, renumbered.
use Rattle.std.proofs.Common.{◌≡◌, ◌+◌, map, length, take}
use Rattle.task.specs.Table.{atom_in}
use Rattle.words.specs.Putting.{Puts}
use Rattle.tokens.specs.Writing.{new_number}
use Rattle.tokens.proofs.part_atoms.arguments.Given as goal

abbrev pub invariant-loop-k : goal.invariant-loop-k
invariant-loop-k l =
    (length l.out ≡ length l.fn.out) ×
    Puts l.fn.out l.fn.at (map (new_number l.fn.own) (take l.k (atom_in l.fn.table l.fn.i).args)) l.out (l.fn.at + l.k)
