-- The pars of the set's parameters below x were put.
use Rattle.std.proofs.Common.{◌≡◌, ◌+◌, ◌*◌, ◌≤◌, length}
use Rattle.task.specs.Limits.{atom_size}
use Rattle.words.specs.Putting.{Puts}
use Rattle.tokens.proofs.PartWords.{pars_up_to}
use Rattle.tokens.proofs.part_atoms.par_atoms.Given as goal

abbrev pub invariant-loop-x : goal.invariant-loop-x
invariant-loop-x l =
    let here = l.fn.here in
    (l.next ≤ l.fn.at + atom_size * l.x) × (length l.out ≡ length l.fn.out) ×
    Puts l.fn.out l.fn.at (pars_up_to here.own here.par l.fn.role here.number l.fn.which l.x) l.out l.next
