-- `arcs::atoms::has_role` meets its contract.
use mathlib.Core.Path.{◌∙◌, ap}
use native.Mathlib.Omega.{arith}
use Rattle.words.specs.Sets.{member}
use Rattle.arcs.proofs.atoms.has_role.Statement.{statement}
use Rattle.arcs.proofs.atoms.has_role.Tie as tie

has-requires : tie.Need-has-requires
has-requires c κs = let l = c.role_of.ensures.1 in omega arith

returns : tie.Need-returns
returns c =
    c.has.ensures ∙ ap (member c.args.roles) c.role_of.ensures.0

pub has_role_spec : {M : Type 1} → statement M
has_role_spec = tie.close (tie.spec (λ c κs. c.requires) has-requires returns)
