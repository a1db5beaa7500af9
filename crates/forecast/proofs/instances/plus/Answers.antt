-- The difference tells whether the sum reaches the limit.
use native.Mathlib.Omega.{arith}
use Rattle.forecast.proofs.Capped.{limit_is}
use Rattle.forecast.proofs.instances.plus.Goals as goal

pub returns-then-saturating_sub-x : goal.returns-then-saturating_sub-x
returns-then-saturating_sub-x c = omega (arith, limit_is)

pub returns-else-saturating_sub-x : goal.returns-else-saturating_sub-x
returns-else-saturating_sub-x c = omega (arith, limit_is)
