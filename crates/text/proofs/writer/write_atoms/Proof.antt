-- `text::writer::write_atoms` meets its contract. The invariant of its loop: what is still to come is the lines from
-- atom k on. The measure is n less k.
use Rattle.task.specs.Limits.{atom_size}
use native.Mathlib.Omega.{arith}
use Prim.Native.Nat.{◌+◌, ◌-◌, ◌*◌, ◌≤◌}
use mathlib.Core.Path.{sym}
use Rattle.text.specs.TableLines.{AtomInside, atoms_text}
use Rattle.text.proofs.Onwards.{onwards}
use Rattle.text.proofs.AtomLines.{atom_line, atoms-onwards}
use Rattle.text.proofs.Writes.{Writing, writing_start, writing-long, writing-left, piece-fits, piece-written}
use Rattle.text.proofs.Writes.{pieces_end}
use Rattle.text.proofs.writer.write_atoms.Statement.{statement}
use Rattle.text.proofs.writer.write_atoms.Tie as tie

abbrev invariant-loop-k : tie.invariant-loop-k
invariant-loop-k text₀ at table base n next₀ k₀ text next k =
    (k ≤ n) × Writing text₀ next₀ (atoms_text table base n) (onwards (atom_line table base) k n) text next

abbrev decreases-loop-k : tie.decreases-loop-k
decreases-loop-k text₀ at table base n next₀ k₀ text next k = n - k

loop-holds : tie.Need-loop-k-init invariant-loop-k decreases-loop-k
loop-holds c =
    let args = c.args in (
      omega arith,
      writing-left (sym (atoms-onwards args.table.now args.base args.n))
          (writing_start c.requires.1),
    )

-- the function's entry, from the loop's head
abbrev start : tie.At-loop-k invariant-loop-k decreases-loop-k → tie.Start invariant-loop-k decreases-loop-k
start c = c.before.before.before

atom-inside : (c : tie.In-loop-k invariant-loop-k decreases-loop-k) →
    let args = (start c.before).args in
    AtomInside args.table.now (args.base + atom_size * c.loop-k.k)
atom-inside c = (start c.before).requires.0 c.loop-k.k c.loop-k-test.true

mul-write-atom : tie.Need-overflow_mul-k invariant-loop-k decreases-loop-k
mul-write-atom c = let h = atom-inside c.before in omega arith

add-write-atom : tie.Need-overflow_add-base invariant-loop-k decreases-loop-k
add-write-atom c = let h = atom-inside c.before in omega arith

write-atom-requires : tie.Need-write_atom-next-requires invariant-loop-k decreases-loop-k
write-atom-requires c κs =
    let at-loop = c in
    let args = (start at-loop.before.before).args in (
      atom-inside c.before,
      piece-fits (atom_line args.table.now args.base) at-loop.loop-k.k args.n at-loop.loop-k.invariant.1
          c.loop-k-test.true,
    )

loop-again : tie.Need-loop-k-preserved invariant-loop-k decreases-loop-k
loop-again c =
    let turn = c in
    let args = (start turn.before.before.before.before.before).args in (
      omega arith,
      piece-written (atom_line args.table.now args.base) turn.loop-k.k args.n
          turn.loop-k.invariant.1 turn.loop-k-test.true c.write_atom-next.ensures,
    )

same_length : tie.Need-shape_of-text invariant-loop-k decreases-loop-k
same_length c = writing-long c.loop-k.invariant.1

returns : tie.Need-returns invariant-loop-k decreases-loop-k
returns c =
    let args = (start c.before).args in
    pieces_end (atom_line args.table.now args.base) c.loop-k.k args.n c.loop-k.invariant.1
    (omega arith)

pub write_atoms_spec : {M : Type 1} → statement M
write_atoms_spec =
    tie.close
    (tie.spec invariant-loop-k decreases-loop-k loop-holds mul-write-atom add-write-atom write-atom-requires (λ c. omega arith)
    (λ c. omega arith) loop-again same_length returns)
