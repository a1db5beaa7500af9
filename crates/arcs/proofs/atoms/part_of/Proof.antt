-- `arcs::atoms::part_of` meets its contract.
-- Word 3 of an atom is its part. It is below its schema's number of parts, which is at most 16 in a table
-- (`part-below`).
use native.Mathlib.Omega.{arith}
use Rattle.arcs.proofs.Stretches.{atom-row, part-below}
use Rattle.arcs.proofs.atoms.part_of.Statement.{statement}
use Rattle.arcs.proofs.atoms.part_of.Tie as tie

row-of-requires : tie.Need-row_of-requires
row-of-requires c κs = atom-row c.requires

part-at-requires : tie.Need-part_at-requires
part-at-requires c κs = c.row_of.ensures.1

returns : tie.Need-returns
returns c =
    let at = c in
    let e = c.part_at.ensures.1 at.args.i c.row_of.ensures.0 in
    let b = part-below at.args.table.now at.args.i at.requires in
    (e, omega arith)

pub part_of_spec : {M : Type 1} → statement M
part_of_spec = tie.close (tie.spec row-of-requires part-at-requires returns)
