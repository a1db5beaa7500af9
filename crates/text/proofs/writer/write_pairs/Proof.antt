-- `text::writer::write_pairs` meets its contract. The invariant of its loop: what is still to come is the lines from
-- pair k on. The measure is m less k.
use native.Mathlib.Omega.{arith}
use Prim.Native.Nat.{◌-◌, ◌≤◌}
use mathlib.Core.Path.{sym}
use Rattle.text.specs.Lines.{bytes, line}
use Rattle.text.specs.TableLines.{pairs_text}
use Rattle.text.proofs.Writes.{Writing, writing_start, writing-long, writing-left, piece-fits, piece-written}
use Rattle.text.proofs.Writes.{pieces_end}
use Rattle.text.proofs.Onwards.{onwards}
use Rattle.text.proofs.SchemaLines.{pair_line, pairs-onwards, pair_inside}
use Rattle.text.proofs.writer.write_pairs.Statement.{statement}
use Rattle.text.proofs.writer.write_pairs.Tie as tie

abbrev invariant-loop-k : tie.invariant-loop-k
invariant-loop-k text₀ at table base m next₀ k₀ text next k =
    (k ≤ m) × Writing text₀ next₀ (pairs_text table base m) (onwards (pair_line table base) k m) text next

abbrev decreases-loop-k : tie.decreases-loop-k
decreases-loop-k text₀ at table base m next₀ k₀ text next k = m - k

loop-holds : tie.Need-loop-k-init invariant-loop-k decreases-loop-k
loop-holds c =
    let start = c in (
      omega arith,
      writing-left (sym (pairs-onwards start.args.table.now start.args.base start.args.m))
          (writing_start start.requires.1),
    )

-- the function's entry, from the loop's head
abbrev start : tie.At-loop-k invariant-loop-k decreases-loop-k → tie.Start invariant-loop-k decreases-loop-k
start c = c.before.before.before

mul-write-list-line : tie.Need-overflow_mul-k invariant-loop-k decreases-loop-k
mul-write-list-line c = omega (arith, (start c.before.before.before.before).requires.0)

add-write-list-line : tie.Need-overflow_add-base invariant-loop-k decreases-loop-k
add-write-list-line c = omega (arith, (start c.before.before.before.before).requires.0)

add-write-list-line-2 : tie.Need-overflow_add-base-in-loop-k invariant-loop-k decreases-loop-k
add-write-list-line-2 c = omega (arith, (start c.before.before.before.before).requires.0)

write-list-line-requires : tie.Need-write_list_line-next-requires invariant-loop-k decreases-loop-k
unfolding line bytes
write-list-line-requires c κs =
    let at-loop = c in
    let args = (start at-loop.before.before.before.before).args in (
      pair_inside args.table.now args.base (start at-loop.before.before.before.before).requires.0 at-loop.loop-k.k
          c.loop-k-test.true,
      piece-fits (pair_line args.table.now args.base) at-loop.loop-k.k args.m at-loop.loop-k.invariant.1
          c.loop-k-test.true,
    )

loop-again : tie.Need-loop-k-preserved invariant-loop-k decreases-loop-k
unfolding line bytes
loop-again c =
    let turn = c in
    let args = (start turn.before.before.before.before.before.before.before).args in (
      omega arith,
      piece-written (pair_line args.table.now args.base) turn.loop-k.k args.m
          turn.loop-k.invariant.1 turn.loop-k-test.true c.write_list_line-next.ensures,
    )

same_length : tie.Need-shape_of-text invariant-loop-k decreases-loop-k
same_length c = writing-long c.loop-k.invariant.1

returns : tie.Need-returns invariant-loop-k decreases-loop-k
returns c =
    let args = (start c.before).args in
    pieces_end (pair_line args.table.now args.base) c.loop-k.k args.m c.loop-k.invariant.1
    (omega arith)

pub write_pairs_spec : {M : Type 1} → statement M
write_pairs_spec =
    tie.close
    (tie.spec invariant-loop-k decreases-loop-k loop-holds mul-write-list-line add-write-list-line
    add-write-list-line-2 (λ c. omega arith) write-list-line-requires (λ c. omega arith) (λ c. omega arith)
    loop-again same_length returns)
