-- The patterns are the powers of ten: a number from one on, and below the next, has one digit more than the power, and
-- five at most.
use Rattle.std.proofs.Common.{arith}
use Rattle.text.proofs.DigitSteps.{one-digit-long, digits_long, five-long}
use Rattle.text.proofs.put.number_size.Goals as goal

pub returns-in-0-to-9 : goal.returns-in-0-to-9
returns-in-0-to-9 c = let e = one-digit-long c.args.n (omega arith) in omega arith

pub returns-in-10-to-99 : goal.returns-in-10-to-99
returns-in-10-to-99 c = let e = digits_long 1 c.args.n (omega arith) (omega arith) (omega arith) in omega arith

pub returns-in-100-to-999 : goal.returns-in-100-to-999
returns-in-100-to-999 c = let e = digits_long 2 c.args.n (omega arith) (omega arith) (omega arith) in omega arith

pub returns-in-1000-to-9999 : goal.returns-in-1000-to-9999
returns-in-1000-to-9999 c = let e = digits_long 3 c.args.n (omega arith) (omega arith) (omega arith) in omega arith

pub returns-in_default : goal.returns-in_default
returns-in_default c = let e = five-long c.args.n (omega arith) in omega arith
