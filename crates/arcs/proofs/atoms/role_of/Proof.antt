-- `arcs::atoms::role_of` meets its contract: the word of a row is the atom's role, and a table's schema atoms have no
-- role but the three (`role-known`).
use native.Mathlib.Omega.{arith}
use Rattle.arcs.proofs.Stretches.{atom-row}
use Rattle.arcs.proofs.AtomWords.{role-known}
use Rattle.arcs.proofs.atoms.role_of.Statement.{statement}
use Rattle.arcs.proofs.atoms.role_of.Tie as tie

role-requires : tie.Need-role-requires
role-requires c κs = atom-row c.requires

returns : tie.Need-returns
returns c =
    let s = c in
    let e = c.role.ensures in
    (e, omega (arith, role-known s.args.table.now s.args.i s.requires))

pub role_of_spec : {M : Type 1} → statement M
role_of_spec = tie.close (tie.spec role-requires returns)
