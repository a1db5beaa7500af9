-- `proposals::merging::renumber` meets its contract: each store renumbers one atom more.
use Rattle.std.proofs.Common.{arith}
use Rattle.proposals.proofs.Renumbering.{renumbered-none, renumbered-more, renumbered-end}
use Rattle.proposals.proofs.merging.renumber.Goals as goal

pub loop-i-init : goal.loop-i-init
loop-i-init c = renumbered-none _ _ _ _

pub loop-i-preserved : goal.loop-i-preserved
loop-i-preserved c = renumbered-more c.loop-i.invariant _ c.merged_number.ensures

pub returns : goal.returns
returns c = renumbered-end (omega arith) c.loop-i.invariant
