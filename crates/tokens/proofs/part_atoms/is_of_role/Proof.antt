-- `tokens::part_atoms::is_of_role` meets its contract: word 1 of an atom is its role.
use Rattle.tokens.proofs.part_atoms.is_of_role.Tie as tie
use mathlib.Core.Path.{ap}
use lib.Dec.{eqb}
use borrow.Author.Rules.{rules}
use Rattle.arcs.proofs.Stretches.{atom-row}
use Rattle.tokens.proofs.part_atoms.is_of_role.Statement.{statement}

row-of-requires : tie.Need-row_of-requires
row-of-requires c κs = atom-row c.requires

returns : tie.Need-returns
returns c =
    ap (eqb c.args.role) (c.role_at.ensures.1 _ c.row_of.ensures.0)

pub is_of_role_spec : {M : Type 1} → statement M
is_of_role_spec = tie.close (tie.spec row-of-requires (λ c κs. search rules) returns)
