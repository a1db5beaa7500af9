use Rattle.std.proofs.Common.{arith}
use Rattle.arcs.proofs.before.end_of.Goals as goal

pub loop-i-init : goal.loop-i-init
loop-i-init c = let forward = c.requires.forward in (omega arith, λ k l m. absurd (omega arith))
