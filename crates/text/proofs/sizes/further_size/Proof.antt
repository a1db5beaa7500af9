-- `text::sizes::further_size` meets its contract: five digits at most and a comma are counted, as many bytes as a comma
-- and the digits.
use native.Mathlib.Omega.{arith}
use mathlib.Core.List.{[], ◌∷◌}
use lib.ListN.{length-append}
use Rattle.text.specs.Lines.{comma, digits}
use Rattle.text.proofs.DigitSteps.{at-most-five}
use Rattle.text.proofs.Writes.{writes-size}
use borrow.Author.Rules.{rules}
use Rattle.text.proofs.sizes.further_size.Statement.{statement}
use Rattle.text.proofs.sizes.further_size.Tie as tie

write-ended-requires : tie.Need-write_ended-requires
write-ended-requires c κs =
    let n = c.args.n in
    let five = at-most-five n in
    omega (arith, length-append (digits n) (comma ∷ []))

returns : tie.Need-returns
returns c =
    let size = writes-size c.write_ended.ensures in
    omega (arith, length-append (digits c.args.n) (comma ∷ []))

pub further_size_spec : {M : Type 1} → statement M
further_size_spec = tie.close (tie.spec (λ c. search rules) write-ended-requires returns)
