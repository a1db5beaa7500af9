-- `arcs::ends::schema_ends` meets its contract: the run found of the atoms that name schema s is that schema's, and
-- so is the one of the pairs.
use Rattle.arcs.proofs.ends.schema_ends.Tie as tie
use Prim.Native.Nat.{◌≤◌}
use native.Mathlib.Omega.{arith}
use lib.ListN.{length}
use Rattle.task.specs.Limits.{head_words}
use Rattle.task.proofs.TableReads.{counts-inside}
use Rattle.arcs.proofs.SchemaEnds.{atoms-room, pairs-room, atoms-end, pairs_end}
use Rattle.arcs.proofs.ends.schema_ends.Statement.{statement}

-- the counts lie in the table
counts : (s : tie.Start) → head_words ≤ length s.args.table.now
counts s = counts-inside s.args.table.now s.requires.0

word-requires : tie.Need-word-atoms-requires
word-requires c κs = omega (arith, counts c.before)

word-requires-2 : tie.Need-word-pairs-requires
word-requires-2 c κs = omega (arith, counts c.before.before)

rows-base-requires : tie.Need-rows_base-requires
rows-base-requires c κs = counts c.before.before.before

run-end-requires : tie.Need-run_end-requires
run-end-requires c κs =
    let s = c in
    atoms-room s.args.table.now s.requires.0 s.args.s s.requires.1.0 c.rows_base.ensures.0
    c.word-atoms.ensures.0 s.requires.1.1.0

pairs-base-requires : tie.Need-pairs_base-requires
pairs-base-requires c κs = counts c.before.before.before.before.before

run-end-requires-2 : tie.Need-run_end-requires-2
run-end-requires-2 c κs =
    let s = c in
    pairs-room s.args.table.now s.requires.0 s.args.s s.requires.1.0 c.pairs_base.ensures.0
    c.word-pairs.ensures.0 s.requires.1.1.1

returns : tie.Need-returns
returns c =
    let found = c in
    let n = found in
    let s = n in (
      atoms-end s.args.table.now s.requires.0 s.args.s s.requires.1.0 found.rows_base.ensures.0
          n.word-atoms.ensures.0 s.requires.1.1.0 found.run_end.ensures,
      pairs_end s.args.table.now s.requires.0 s.args.s s.requires.1.0 c.pairs_base.ensures.0
          n.word-pairs.ensures.0 s.requires.1.1.1 c.run_end-2.ensures,
    )

pub schema_ends_spec : {M : Type 1} → statement M
schema_ends_spec =
    tie.close
    (tie.spec word-requires word-requires-2 rows-base-requires run-end-requires pairs-base-requires run-end-requires-2
    returns)
