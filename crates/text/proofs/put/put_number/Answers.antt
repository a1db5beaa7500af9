use Rattle.std.proofs.Common.{arith}
use Rattle.text.proofs.PutDigits.{puts-ended}
use Rattle.text.proofs.put.put_number.Goals as goal

pub returns : goal.returns
returns c = puts-ended (omega arith) c.put_digits.ensures
