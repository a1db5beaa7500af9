-- `words::sets::without_lowest` meets its contract: one less has every digit below the lowest set one turned, and it.
use native.Mathlib.Omega.{arith}
use Rattle.words.proofs.LowestMembers.{lowest-lost}
use Rattle.words.proofs.sets.without_lowest.Statement.{statement}
use Rattle.words.proofs.sets.without_lowest.Tie as tie

returns : tie.Need-returns
returns c = lowest-lost c.args.set c.ranges.set.fits c.requires

pub without_lowest_spec : {M : Type 1} → statement M
without_lowest_spec = tie.close (tie.spec (λ c. omega arith) returns)
