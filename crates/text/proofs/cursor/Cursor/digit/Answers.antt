-- The text has ended (`no-digit-left`), or the byte here is below 48 or above 57, so no digit (`no-digit-here`), or it
-- is one of the ten (`digit-here`): its number is the byte less 48, and the cursor goes on by a byte in its line.
use Rattle.std.proofs.Common.{arith, ◌≡◌, ◌+◌, refl, ◌∙◌, get_or, add-one}
use Rattle.text.proofs.ReadersAt.{digit-here, no-digit-here, no-digit-left}
use Rattle.text.proofs.Digits.{is-digit}
use Rattle.text.proofs.DigitLoop.{other-no-digit}
use Rattle.text.proofs.cursor.Cursor.digit.Goals as goal

pub returns-in_err-byte : goal.returns-in_err-byte
returns-in_err-byte c =
    let l = c.in_err-byte.ensures.lookup in
    rw c.from_residual.ensures (no-digit-left c.args.text.now c.args.self.at (omega arith))

pub returns-then-not-is_ascii_digit : goal.returns-then-not-is_ascii_digit
returns-then-not-is_ascii_digit c =
    let l = c.in_ok-byte.ensures.lookup in
    let b = c.in_ok-byte.field-0.now in
    no-digit-here c.args.text.now c.args.self.at l.3.0
    (rw (← l.3.1 0) (other-no-digit b c.if-not-is_ascii_digit.ensures.cases))

pub returns : goal.returns
returns c =
    let text = c.args.text.now in
    let at = c.args.self.at in
    let l = c.in_ok-byte.ensures.lookup in
    let d = c.if-not-is_ascii_digit.ensures.cases in
    let b = l.3.1 0 in
    let e : 48 + c.from.result ≡ get_or text at 0 = omega (arith, c.from.ensures) in
    record {
      is = digit-here text at l.3.0 (is-digit _ (omega arith) (omega arith)) ∙ rw (e, add-one) refl;
      small = omega (arith, c.from.ensures);
      one = refl;
      moved = record { on = omega arith; inside = omega arith; line = refl };
    }
