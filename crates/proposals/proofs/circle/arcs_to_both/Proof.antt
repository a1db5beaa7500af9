-- `proposals::circle::arcs_to_both` meets its contract: the union has the arcs to either part, and the two parts
-- themselves are taken out one after the other.
use borrow.Author.Rules.{rules}
use Rattle.proposals.proofs.ClosedArcs.{arcs-of-both}
use Rattle.proposals.proofs.circle.arcs_to_both.Statement.{statement}
use Rattle.proposals.proofs.circle.arcs_to_both.Tie as tie

returns : tie.Need-returns
returns c =
    let at-union = c in
    let first = at-union in
    arcs-of-both _ _ first.args.scratch.now _ _ _ first.arcs_to.ensures
    at-union.arcs_to-2.ensures at-union.union-both.ensures c.without.ensures
    c.without-2.ensures

pub arcs_to_both_spec : {M : Type 1} → statement M
arcs_to_both_spec =
    tie.close
    (tie.spec (λ c κs. search rules) (λ c κs. search rules) (λ c κs. search rules) (λ c κs. search rules)
    (λ c κs. search rules) returns)
