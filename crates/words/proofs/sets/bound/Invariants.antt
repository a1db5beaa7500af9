use Rattle.std.proofs.Common.{◌≡◌, ◌≤◌}
use Rattle.words.specs.Sets.{members}
use Rattle.words.proofs.SetMembers.{above}
use Rattle.words.proofs.sets.bound.Given as goal

abbrev pub invariant-loop-k : goal.invariant-loop-k
invariant-loop-k l = (l.most ≤ l.k) × (l.most ≡ above (members l.set l.k))
