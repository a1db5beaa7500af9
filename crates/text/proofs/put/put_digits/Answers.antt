use Rattle.std.proofs.Common.{arith, ◌-◌}
use Rattle.text.proofs.DigitSteps.{some-digit}
use Rattle.text.proofs.PutDigits.{behind-start, behind-again, behind_more, behind-end}
use Rattle.text.proofs.put.put_digits.Goals as goal

pub loop-place-init : goal.loop-place-init
loop-place-init c =
    let s = some-digit c.args.n (omega arith) in
    (omega arith, behind-start c.args.text.now _ c.args.n (c.args.end - 1) (omega arith) (omega arith))

pub returns-then-rest-lt10 : goal.returns-then-rest-lt10
returns-then-rest-lt10 c =
    rw c.digit.ensures (behind-end c.loop-place.invariant.1 (omega arith) c.args.end (omega arith))

pub loop-place-preserved : goal.loop-place-preserved
loop-place-preserved c =
    let more = behind-again c.loop-place.invariant.1 (omega arith) in
    (omega arith, rw c.digit-in-loop-place.ensures (behind_more c.loop-place.invariant.1 (omega arith)))
