-- `words::sets::closed_up` meets its contract: below k the digits stay, and from it on each is the one above.
use borrow.Author.Rules.{rules}
use Rattle.words.proofs.LowestMembers.{member-closed}
use Rattle.words.proofs.sets.closed_up.Statement.{statement}
use Rattle.words.proofs.sets.closed_up.Tie as tie

returns : tie.Need-returns
returns c = λ j.
    let a = c.before.args in
    member-closed a.set c.below-low.result a.k j c.before.ranges.set.fits c.below-low.type_inv c.below-low.ensures

pub closed_up_spec : {M : Type 1} → statement M
closed_up_spec = tie.close (tie.spec (λ c κs. search rules) returns)
