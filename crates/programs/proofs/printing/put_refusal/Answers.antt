-- The key, the number, the colon, the place and byte 10 are put one behind another, each of them within the bytes that
-- hold every text.
use Rattle.std.proofs.Common.{◌∙◌, ap₂, arith}
use Rattle.text.specs.Lines.{bytes, digits}
use Rattle.text.specs.TableLines.{longest_text}
use Rattle.text.proofs.DigitSteps.{at-most-five}
use Rattle.words.proofs.Puts.{puts-length, puts-append}
use Rattle.programs.specs.Programs.{refusal}
use Rattle.programs.proofs.Printed.{refusal_is, refusal-room, puts-prints, prints-same}
use Rattle.programs.proofs.printing.put_refusal.Goals as goal

pub put_bytes-at_number-requires : goal.put_bytes-at_number-requires
unfolding longest_text
put_bytes-at_number-requires c = let room = c.requires in omega arith

pub put_digits-at_colon-requires : goal.put_digits-at_colon-requires
unfolding longest_text digits
put_digits-at_colon-requires c =
    let room = c.requires in
    let key = c.put_bytes-at_number.ensures in
    let behind-key = key.place in
    let few = at-most-five c.from-number.result in
    omega (arith, puts-length key)

pub put_byte-at_place-requires : goal.put_byte-at_place-requires
unfolding longest_text digits
put_byte-at_place-requires c =
    let room = c.requires in
    let key = c.put_bytes-at_number.ensures in
    let number = c.put_digits-at_colon.ensures in
    let behind-key = key.place in
    let behind-number = number.place in
    let few = at-most-five c.from-number.result in
    omega (arith, puts-length key, puts-length number)

pub put_digits-at_end-requires : goal.put_digits-at_end-requires
unfolding longest_text digits
put_digits-at_end-requires c =
    let room = c.requires in
    let key = c.put_bytes-at_number.ensures in
    let number = c.put_digits-at_colon.ensures in
    let mark = c.put_byte-at_place.ensures in
    let behind-key = key.place in
    let behind-number = number.place in
    let behind-mark = mark.place in
    let few = at-most-five c.from-number.result in
    let also = at-most-five c.number-2.result in
    omega (arith, puts-length key, puts-length number, puts-length mark)

pub put_byte-requires : goal.put_byte-requires
unfolding longest_text digits
put_byte-requires c =
    let room = c.requires in
    let key = c.put_bytes-at_number.ensures in
    let number = c.put_digits-at_colon.ensures in
    let mark = c.put_byte-at_place.ensures in
    let place = c.put_digits-at_end.ensures in
    let behind-key = key.place in
    let behind-number = number.place in
    let behind-mark = mark.place in
    let behind-place = place.place in
    let few = at-most-five c.from-number.result in
    let also = at-most-five c.number-2.result in
    omega (arith, puts-length key, puts-length number, puts-length mark, puts-length place)

pub returns : goal.returns
unfolding bytes
returns c =
    let place = puts-append c.put_digits-at_end.ensures c.put_byte.ensures in
    let number = puts-append c.put_digits-at_colon.ensures (puts-append c.put_byte-at_place.ensures place) in
    let n = c.from-number.result in
    let p = c.number-2.result in
    prints-same
    (refusal_is n p ∙ ap₂ refusal (c.from-number.ensures ∙ c.number.ensures) c.number-2.ensures)
    (puts-prints (refusal-room n p c.requires) (puts-append c.put_bytes-at_number.ensures number))
