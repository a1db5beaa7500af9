-- `proposals::closing::merge_parameters`: the words before part q have their place, and those from it on stand as
-- before the loop.
use Rattle.proposals.proofs.MergedParameters.{MovedUp}
use Rattle.proposals.proofs.closing.merge_parameters.Given as goal

abbrev pub invariant-loop-q : goal.invariant-loop-q
invariant-loop-q l = MovedUp l.b l.initial.scratch l.q l.scratch
