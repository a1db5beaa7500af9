use Prim.Native.Nat.{ℕ, ◌-◌, ◌/◌}
use mathlib.Core.Path.{◌≡◌, ap}
use native.Mathlib.Omega.{arith}
use Rattle.forecast.specs.Forecast.{instance_limit}
use Rattle.forecast.proofs.Capped.{limit_is, powers-none, powers-more}
use Rattle.forecast.proofs.instances.keep_powers.Goals as goal

pub loop-n-init : goal.loop-n-init
loop-n-init c =
    powers-none instance_limit c.args.objects c.args.powers.now (omega (arith, limit_is)) (omega arith)

pub times-requires-clause-most_value : goal.times-requires-clause-most_value
times-requires-clause-most_value c =
    let e : 9223372036854775807 ≡ instance_limit - 1 = omega (arith, limit_is) in
    ap (λ (n : ℕ). n / c.args.objects) e

pub loop-n-preserved : goal.loop-n-preserved
loop-n-preserved c =
    let h = c.loop-n in
    powers-more instance_limit c.args.objects h.powers h.n c.times.result c.requires (omega arith) h.invariant
    c.times.ensures
