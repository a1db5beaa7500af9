-- `proposals::merging::renumber`: the numbers before atom i are those after the merge, all other words stand as found.
use Rattle.proposals.proofs.Renumbering.{Renumbered}
use Rattle.proposals.proofs.merging.renumber.Given as goal

abbrev pub invariant-loop-i : goal.invariant-loop-i
invariant-loop-i l = Renumbered l.a l.b l.from l.fn.parts l.i l.parts
