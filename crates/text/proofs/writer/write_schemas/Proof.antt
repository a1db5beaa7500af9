-- `text::writer::write_schemas` meets its contract. The invariant of its loop: a turn stands at schema s, and what is
-- still to come is the lines from schema s on. The measure is the number of schemas less s.
use Rattle.task.proofs.TableReads.{counts-inside}
use native.Mathlib.Omega.{arith}
use Prim.Native.Nat.{ℕ, ◌-◌, ◌≤◌}
use mathlib.Core.Path.{sym, ◌∙◌, ap}
use mathlib.Core.List.{List}
use lib.ListN.{length}
use Rattle.text.specs.declared.writer.Rows.{Rows}
use Rattle.text.specs.TableLines.{schemas_text}
use Rattle.text.proofs.TableText.{schema_lines_in, schemas-onwards}
use Rattle.text.proofs.SchemaTurns.{Turn, rows_from, turn-first, pairs-read, atoms-read, count-inside, Found}
use Rattle.text.proofs.SchemaTurns.{turn-found, lines-read}
use Rattle.text.proofs.Onwards.{onwards}
use Rattle.text.proofs.Writes.{writes-same, Writing, writing_start, writing-long, writing-left, piece-fits}
use Rattle.text.proofs.Writes.{piece-written, pieces_end}
use Rattle.text.proofs.writer.write_schemas.Statement.{statement}
use Rattle.text.proofs.writer.write_schemas.Tie as tie

abbrev invariant-loop-s : tie.invariant-loop-s
invariant-loop-s text₀ at table schemas pair₀ pairs-left₀ atom₀ atoms-left₀ next₀ s₀ text pair pairs-left atom atoms-left next
    s =
    (s ≤ schemas) × (Turn table schemas pair pairs-left atom atoms-left s ×
    Writing text₀ next₀ (schemas_text table) (onwards (schema_lines_in table) s schemas) text next)

abbrev decreases-loop-s : tie.decreases-loop-s
decreases-loop-s text₀ at table schemas pair₀ pairs-left₀ atom₀ atoms-left₀ next₀ s₀ text pair pairs-left atom atoms-left next s =
    schemas - s

word-requires : tie.Need-word-schemas-requires invariant-loop-s decreases-loop-s
word-requires c κs =
    let start = c in
    let l = counts-inside start.args.table.now start.requires.0 in
    omega arith

pairs-base-requires : tie.Need-pairs_base-pair-requires invariant-loop-s decreases-loop-s
pairs-base-requires c κs =
    let start = c in
    counts-inside start.args.table.now start.requires.0

word-requires-2 : tie.Need-word-pairs_left-requires invariant-loop-s decreases-loop-s
word-requires-2 c κs =
    let start = c in
    let l = counts-inside start.args.table.now start.requires.0 in
    omega arith

rows-base-requires : tie.Need-rows_base-atom-requires invariant-loop-s decreases-loop-s
rows-base-requires c κs =
    let start = c in
    counts-inside start.args.table.now start.requires.0

word-requires-3 : tie.Need-word-atoms_left-requires invariant-loop-s decreases-loop-s
word-requires-3 c κs =
    let start = c in
    let l = counts-inside start.args.table.now start.requires.0 in
    omega arith

loop-holds : tie.Need-loop-s-init invariant-loop-s decreases-loop-s
loop-holds c =
    let start = c in
    let w = start.args.table.now in
    let found = c.word-schemas.ensures.0 in
    let e = ap (onwards (schema_lines_in w) 0) found in (
      omega arith,
      (
        turn-first start.requires.0 found c.pairs_base-pair.ensures.0
            c.word-pairs_left.ensures.0 c.rows_base-atom.ensures.0 c.word-atoms_left.ensures.0,
        writing-left (sym (e ∙ schemas-onwards w)) (writing_start start.requires.1),
      ),
    )

-- what the loop's head knows: the function's entry, and the counts that were read
abbrev start : tie.At-loop-s invariant-loop-s decreases-loop-s → tie.Start invariant-loop-s decreases-loop-s
start c = c.before.before.before.before.before.before.before.before

abbrev words : tie.At-loop-s invariant-loop-s decreases-loop-s → List ℕ
words c = (start c).args.table.now

abbrev schemas : tie.At-loop-s invariant-loop-s decreases-loop-s → ℕ
schemas c = c.word-schemas.result

-- the rows that a turn finds, and what they are
abbrev turn : tie.After-params_of invariant-loop-s decreases-loop-s → tie.At-loop-s invariant-loop-s decreases-loop-s
turn c = c.before.before.before.before.before

abbrev rows : tie.After-params_of invariant-loop-s decreases-loop-s → Rows
rows c = rows_from (turn c).loop-s.pair c.rows_of-pairs.result (turn c).loop-s.atom
    c.rows_of-atoms.result

found : (c : tie.After-params_of invariant-loop-s decreases-loop-s) →
    Found (words (turn c)) (schemas (turn c)) (turn c).loop-s.pairs_left (turn c).loop-s.atoms_left (turn c).loop-s.s
    (rows c)
found c =
    turn-found (start (turn c)).requires.0 (turn c).loop-s.invariant.1.0 c.loop-s-test.true
    c.rows_of-pairs.ensures c.rows_of-atoms.ensures

rows-of-requires : tie.Need-rows_of-pairs-requires invariant-loop-s decreases-loop-s
rows-of-requires c κs = pairs-read (start c.before).requires.0 c.loop-s.invariant.1.0

rows-of-requires-2 : tie.Need-rows_of-atoms-requires invariant-loop-s decreases-loop-s
rows-of-requires-2 c κs = atoms-read (start c.before.before).requires.0 c.loop-s.invariant.1.0

params-of-requires : tie.Need-params_of-requires invariant-loop-s decreases-loop-s
params-of-requires c κs =
    let at-loop = c in
    count-inside (start at-loop.before.before.before.before).requires.0 at-loop.loop-s.invariant.1.0 c.loop-s-test.true

cast-write-schema : tie.Need-overflow_cast-params_of invariant-loop-s decreases-loop-s
cast-write-schema c = omega (arith, c.params_of.ensures.1)

write-schema-requires : tie.Need-write_schema-next-requires invariant-loop-s decreases-loop-s
write-schema-requires c κs =
    let e = ap length (lines-read (found c) c.params_of.ensures.0) in
    let r = piece-fits (schema_lines_in (words (turn c))) (turn c).loop-s.s (schemas (turn c)) (turn c).loop-s.invariant.1.1
    c.loop-s-test.true in
    ((found c).inside, omega arith)

-- what the turn found, from its end
abbrev ended : tie.After-slice_known-in-loop-s-1 invariant-loop-s decreases-loop-s → tie.After-params_of invariant-loop-s decreases-loop-s
ended c = c.before.before.before

mul-pair : tie.Need-overflow_mul-pair invariant-loop-s decreases-loop-s
mul-pair c = omega (arith, (found (ended c)).inside.pairs)

add-pair : tie.Need-overflow_add-pair invariant-loop-s decreases-loop-s
add-pair c = omega (arith, (found (ended c)).inside.pairs)

sub-pairs-left : tie.Need-overflow_sub-pairs_left invariant-loop-s decreases-loop-s
sub-pairs-left c = (ended c).rows_of-pairs.ensures.within

mul-atom : tie.Need-overflow_mul-atom invariant-loop-s decreases-loop-s
mul-atom c = omega (arith, (found (ended c)).atoms-end)

add-atom : tie.Need-overflow_add-atom invariant-loop-s decreases-loop-s
add-atom c = omega (arith, (found (ended c)).atoms-end)

sub-atoms-left : tie.Need-overflow_sub-atoms_left invariant-loop-s decreases-loop-s
sub-atoms-left c = (ended c).rows_of-atoms.ensures.within

loop-again : tie.Need-loop-s-preserved invariant-loop-s decreases-loop-s
loop-again c =
    let at-loop = turn (ended c) in (
      omega arith,
      (
        (found (ended c)).next,
        piece-written (schema_lines_in (words at-loop)) at-loop.loop-s.s (schemas at-loop) at-loop.loop-s.invariant.1.1
            (ended c).loop-s-test.true
            (writes-same (lines-read (found (ended c)) (ended c).params_of.ensures.0)
            c.write_schema-next.ensures),
      ),
    )

same_length : tie.Need-shape_of-text invariant-loop-s decreases-loop-s
same_length c = writing-long c.loop-s.invariant.1.1

returns : tie.Need-returns invariant-loop-s decreases-loop-s
returns c =
    pieces_end (schema_lines_in (words c.before)) c.loop-s.s (schemas c.before)
    c.loop-s.invariant.1.1 (omega arith)

pub write_schemas_spec : {M : Type 1} → statement M
write_schemas_spec =
    tie.close
    (tie.spec invariant-loop-s decreases-loop-s word-requires pairs-base-requires word-requires-2 rows-base-requires word-requires-3
    loop-holds rows-of-requires rows-of-requires-2 params-of-requires cast-write-schema write-schema-requires mul-pair
    add-pair sub-pairs-left mul-atom add-atom sub-atoms-left (λ c. omega arith) (λ c. omega arith) loop-again
    same_length returns)
