-- The atoms from the first to i are in the role, and those of them in the part were put.
use Rattle.std.proofs.Common.{◌≡◌, ℕ, ◌+◌, ◌*◌, ◌-◌, ◌≤◌, ◌<◌, length}
use Rattle.task.specs.Limits.{atom_size}
use Rattle.task.specs.Table.{atom_in}
use Rattle.words.specs.Putting.{Puts}
use Rattle.tokens.proofs.PartWords.{old_up_to}
use Rattle.tokens.proofs.part_atoms.old_atoms.Given as goal

abbrev pub invariant-loop-i : goal.invariant-loop-i
invariant-loop-i l =
    let here = l.fn.here in
    (l.next ≤ l.fn.at + atom_size * (l.i - here.from)) × (length l.out ≡ length l.fn.out) ×
    ((k : ℕ) → l.fn.first ≤ k → k < l.i → (atom_in l.fn.table k).role ≡ l.fn.role) ×
    Puts l.fn.out l.fn.at (old_up_to here.own l.fn.role here.part.0 l.fn.table here.number here.from l.i) l.out l.next
