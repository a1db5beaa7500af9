-- The division tells whether the product reaches the limit.
use native.Mathlib.Omega.{arith}
use Rattle.forecast.specs.Forecast.{instance_limit}
use Rattle.forecast.proofs.Capped.{limit_is, times-fits, times-reaches}
use Rattle.forecast.proofs.instances.times.Goals as goal

pub returns-then-most-x : goal.returns-then-most-x
returns-then-most-x c =
    let reached = times-reaches instance_limit c.args.x c.args.objects c.requires.le_objects
    (omega (arith, c.if-most-x.true, c.requires.most_value)) in
    omega (arith, reached, limit_is)

pub overflow_mul-result : goal.overflow_mul-result
overflow_mul-result c =
    let fits = times-fits instance_limit c.args.x c.args.objects c.requires.le_objects (omega (arith, limit_is))
    (omega (arith, c.if-most-x.false, c.requires.most_value)) in
    omega (arith, fits, limit_is)

pub returns : goal.returns
returns c =
    let fits = times-fits instance_limit c.args.x c.args.objects c.requires.le_objects (omega (arith, limit_is))
    (omega (arith, c.if-most-x.false, c.requires.most_value)) in
    omega (arith, fits)
