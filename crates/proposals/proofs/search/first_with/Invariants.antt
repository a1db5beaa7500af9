-- `proposals::search::first_with`: those of the others that had their turn can't be merged with a. In each turn the
-- lowest of those left is tried, so the measure is how many are left.
use Rattle.std.proofs.Common.{length}
use Rattle.words.specs.Sets.{members, set_bits}
use Rattle.proposals.proofs.PairTests.{Trying}
use Rattle.proposals.proofs.search.first_with.Given as goal

abbrev pub invariant-loop-rest : goal.invariant-loop-rest
invariant-loop-rest l = Trying l.width l.n l.scratch l.a l.others l.rest

abbrev pub decreases-loop-rest : goal.decreases-loop-rest
decreases-loop-rest l = length (members l.rest set_bits)
