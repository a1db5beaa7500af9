-- `proposals::search::first_pair`: of the narrow parts those left are the higher ones, and no other part can be merged
-- with one behind it. In each turn the lowest of those left is tried, so the measure is how many are left.
use Rattle.std.proofs.Common.{length}
use Rattle.words.specs.Sets.{members, set_bits}
use Rattle.proposals.proofs.PairTests.{Searching}
use Rattle.proposals.proofs.search.first_pair.Given as goal

abbrev pub invariant-loop-rest : goal.invariant-loop-rest
invariant-loop-rest l = Searching l.width l.n l.scratch l.initial.rest l.rest

abbrev pub decreases-loop-rest : goal.decreases-loop-rest
decreases-loop-rest l = length (members l.rest set_bits)
