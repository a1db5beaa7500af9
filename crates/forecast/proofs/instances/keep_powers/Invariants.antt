use Rattle.forecast.specs.Forecast.{instance_limit}
use Rattle.forecast.specs.Capped.{PowersUpTo}
use Rattle.forecast.proofs.instances.keep_powers.Given as goal

abbrev pub invariant-loop-n : goal.invariant-loop-n
invariant-loop-n l = PowersUpTo instance_limit l.fn.objects l.n l.powers
