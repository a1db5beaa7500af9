-- `proposals::start::number`: the numbers of the atoms before i are put, and all other words are as lent.
use Rattle.std.proofs.Common.{◌≡◌, ◌-◌}
use Rattle.words.specs.Lists.{put, up_to}
use Rattle.proposals.proofs.start.number.Given as goal

abbrev pub invariant-loop-i : goal.invariant-loop-i
invariant-loop-i l = l.parts ≡ put l.fn.parts l.from (up_to (l.i - l.from))
