use Rattle.std.proofs.Common.{◌≡◌, length}
use Rattle.task.specs.Limits.{most_parts}
use Rattle.arcs.specs.Order.{placed_parts}
use Rattle.arcs.specs.Stretches.{IsBound, stretch_in, pair_stretch_in}
use Rattle.words.specs.Sets.{SetBelow, members}
use Rattle.arcs.proofs.Placing.{Placed}
use Rattle.arcs.proofs.orders.order_of.Given as goal

-- the order is the parts placed, then the order of the unplaced ones; `bound` has the parameters of those placed
abbrev pub invariant-loop-placed : goal.invariant-loop-placed
invariant-loop-placed l =
    (length l.parts ≡ most_parts) × SetBelow l.count l.unplaced ×
    Placed (pair_stretch_in l.table l.pair l.end) (stretch_in l.table l.from l.to) l.count l.parts l.unplaced l.placed ×
    IsBound (stretch_in l.table l.from l.to)
    (placed_parts (stretch_in l.table l.from l.to) (members l.unplaced l.count)) l.bound
