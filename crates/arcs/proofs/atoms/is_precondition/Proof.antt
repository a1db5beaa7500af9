-- `arcs::atoms::is_precondition` meets its contract: the word of a row is the atom's role.
use Prim.Native.Nat.{ℕ}
use mathlib.Core.Path.{ap}
use lib.Dec.{eqb}
use Rattle.arcs.proofs.Stretches.{atom-row}
use Rattle.arcs.proofs.atoms.is_precondition.Statement.{statement}
use Rattle.arcs.proofs.atoms.is_precondition.Tie as tie

row-of-requires : tie.Need-row_of-requires
row-of-requires c κs = atom-row c.requires

role-at-requires : tie.Need-role_at-requires
role-at-requires c κs = c.row_of.ensures.1

returns : tie.Need-returns
returns c = ap (λ (x : ℕ). eqb x 0) (c.role_at.ensures.1 _ c.row_of.ensures.0)

pub is_precondition_spec : {M : Type 1} → statement M
is_precondition_spec = tie.close (tie.spec row-of-requires role-at-requires returns)
