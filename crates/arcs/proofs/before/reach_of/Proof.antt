-- `arcs::before::reach_of` meets its contract: the roles, and where the last atom ends that has one of them.
use Rattle.arcs.proofs.before.reach_of.Statement.{statement}
use Rattle.arcs.proofs.before.reach_of.Tie as tie

returns : tie.Need-returns
returns c =
    let e = c.end_of.ensures in
    record { after = c.roles_after-after.ensures; behind = e.0; within = e.1; none = e.2 }

pub reach_of_spec : {M : Type 1} → statement M
reach_of_spec =
    tie.close (tie.spec (λ c κs. c.requires.0) (λ c κs. c.requires.1) returns)
