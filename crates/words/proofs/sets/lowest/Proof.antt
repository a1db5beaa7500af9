-- `words::sets::lowest` meets its contract: as many digits as the count stand below the lowest set digit.
use native.Mathlib.Omega.{arith}
use lib.Count.{trailing_le}
use Rattle.words.proofs.LowestMembers.{lowest-is}
use Rattle.words.proofs.sets.lowest.Statement.{statement}
use Rattle.words.proofs.sets.lowest.Tie as tie

returns : tie.Need-returns
returns c = lowest-is c.args.set c.ranges.set.fits c.requires

pub lowest_spec : {M : Type 1} → statement M
lowest_spec = tie.close (tie.spec (λ c. omega (arith, trailing_le 64 c.args.set)) returns)
