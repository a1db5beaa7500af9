-- `proposals::closing::merge_arcs`: the words before part q are merged ones, and those from it on stand as before the
-- loop.
use Rattle.proposals.proofs.ClosedArcs.{Closing}
use Rattle.proposals.proofs.closing.merge_arcs.Given as goal

abbrev pub invariant-loop-q : goal.invariant-loop-q
invariant-loop-q l = Closing l.a l.b l.initial.scratch l.q l.scratch
