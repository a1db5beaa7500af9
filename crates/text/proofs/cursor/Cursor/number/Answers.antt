-- The next byte ends the number, or is one digit too many, or comes behind a leading 0, or joins.
use Rattle.std.proofs.Common.{arith}
use Rattle.text.proofs.DigitLoop.{no-digit-yet, sofar-small, one_more, none_read, number-done, too_long, leading-zero}
use Rattle.text.proofs.cursor.Cursor.number.Goals as goal
use Rattle.text.proofs.cursor.Cursor.number.Goals.{else-digits-eq1-via-then-digits-eq1+else-value-eq0}
use Rattle.text.proofs.cursor.Cursor.number.Goals.{else-digits-eq1-via-else-digits-eq1}

pub loop-digit-init : goal.loop-digit-init
loop-digit-init c = no-digit-yet _ _

pub returns-then-digits-eq-MOST_DIGITS : goal.returns-then-digits-eq-MOST_DIGITS
returns-then-digits-eq-MOST_DIGITS c =
    too_long c.loop-digit.invariant c.if-digits-eq-MOST_DIGITS.true c.in-Some.ensures

pub returns-then-value-eq0 : goal.returns-then-value-eq0
returns-then-value-eq0 c =
    leading-zero c.loop-digit.invariant c.if-digits-eq1.true c.if-value-eq0.true c.in-Some.ensures

pub overflow_mul-value : goal.overflow_mul-value
overflow_mul-value c = omega (arith, sofar-small c.loop-digit.invariant)

pub overflow_add-value : goal.overflow_add-value
overflow_add-value c = omega (arith, sofar-small c.loop-digit.invariant, c.in-Some.ensures.small)

pub loop-digit-preserved : goal.loop-digit-preserved
loop-digit-preserved c =
    one_more c.loop-digit.invariant (omega arith)
    (λ one zero. elim c.else-digits-eq1.branch [
      | else-digits-eq1-via-then-digits-eq1+else-value-eq0 w ↦ w.if-value-eq0.false zero
      | else-digits-eq1-via-else-digits-eq1 w ↦ w.if-digits-eq1.false one
    ])
    c.in-Some.ensures

pub returns-then-digits-eq0 : goal.returns-then-digits-eq0
returns-then-digits-eq0 c = none_read c.loop-digit.invariant c.in_default.ensures c.if-digits-eq0.true

pub returns : goal.returns
returns c = number-done c.loop-digit.invariant c.in_default.ensures c.if-digits-eq0.false
