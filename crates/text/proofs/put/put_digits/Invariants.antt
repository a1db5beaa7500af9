-- A place is left, the digits behind it stand, and those of `rest` end at it.
use Rattle.std.proofs.Common.{◌-◌, ◌≤◌, length}
use Rattle.text.specs.Lines.{digits}
use Rattle.text.proofs.PutDigits.{Behind}
use Rattle.text.proofs.put.put_digits.Given as goal

abbrev pub invariant-loop-place : goal.invariant-loop-place
invariant-loop-place l =
    (1 ≤ l.place) × Behind l.fn.text (l.fn.end - length (digits l.fn.n)) l.fn.n l.rest (l.place - 1) l.text
