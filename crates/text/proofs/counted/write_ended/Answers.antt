-- Digits and a byte with room are put, one behind the other, and those without are counted alone.
use Rattle.std.proofs.Common.{refl, arith}
use Rattle.words.proofs.Puts.{puts-append}
use Rattle.text.proofs.PutDigits.{puts-ended}
use Rattle.text.proofs.Writes.{puts-writes}
use Rattle.text.proofs.counted.write_ended.Goals as goal

pub returns-then-end-text : goal.returns-then-end-text
returns-then-end-text c =
    let number = puts-ended {at = c.args.at} (omega arith) c.put_digits.ensures in
    puts-writes (puts-append number (record { words = c.put_byte.ensures.words; place = refl }))
