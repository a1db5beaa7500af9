-- The digits so far are a number that the definition reads on with (`SoFar`); the measure is the digits that may still
-- come.
use Rattle.std.proofs.Common.{◌-◌}
use Rattle.text.proofs.DigitLoop.{SoFar}
use Rattle.text.proofs.cursor.Cursor.number.Given as goal

abbrev pub invariant-loop-digit : goal.invariant-loop-digit
invariant-loop-digit l = SoFar l.text l.fn.self l.behind l.value l.digits

abbrev pub decreases-loop-digit : goal.decreases-loop-digit
decreases-loop-digit l = 5 - l.digits
