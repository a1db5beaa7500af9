-- `proposals::sets::those`: of the numbers that had their turn those that pass are kept. The lowest of the rest is
-- taken out in each turn, so the measure is how many are left.
use Rattle.std.proofs.Common.{length}
use Rattle.words.specs.Sets.{members, set_bits}
use Rattle.proposals.proofs.Those.{Sifted}
use Rattle.proposals.proofs.sets.those.Given as goal

abbrev pub invariant-loop-rest : goal.invariant-loop-rest
invariant-loop-rest g l = Sifted (goal.F-post g l.passes) l.set l.rest l.kept

abbrev pub decreases-loop-rest : goal.decreases-loop-rest
decreases-loop-rest g l = length (members l.rest set_bits)
