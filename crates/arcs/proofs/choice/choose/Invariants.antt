use Rattle.arcs.specs.Stretches.{ChosenBelow, chosen}
use Rattle.arcs.proofs.Choosing.{FoundFrom, Known}
use Rattle.arcs.proofs.choice.choose.Given as goal

-- the choice is the best among the ready parts from p on
abbrev pub invariant-loop-p : goal.invariant-loop-p
invariant-loop-p l =
    ChosenBelow l.count l.found ×
    FoundFrom (Known l.before l.counts l.tested l.bound l.unplaced l.count) l.unplaced l.count l.p (chosen l.found)
