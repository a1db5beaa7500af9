use Rattle.std.proofs.Common.{◌≡◌, length}
use Rattle.task.specs.Limits.{most_parameters}
use Rattle.arcs.specs.Stretches.{ArePartners, pair_stretch_in}
use Rattle.arcs.proofs.pairs.partners_of.Given as goal

-- the sets are those of the pairs before i
abbrev pub invariant-loop-i : goal.invariant-loop-i
invariant-loop-i l = (length l.partners ≡ most_parameters) × ArePartners (pair_stretch_in l.table l.from l.i) l.partners
