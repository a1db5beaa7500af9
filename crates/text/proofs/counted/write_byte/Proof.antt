-- `text::counted::write_byte` meets its contract: a byte with room is put, and one without is counted alone.
use native.Mathlib.Omega.{arith}
use mathlib.Core.Path.{refl}
use Rattle.text.proofs.Writes.{writes-counted}
use borrow.Author.Rules.{rules}
use Rattle.text.proofs.counted.write_byte.Statement.{statement}
use Rattle.text.proofs.counted.write_byte.Tie as tie

returns-2 : tie.Need-returns-else-end-text
returns-2 c = writes-counted refl (omega arith)

pub write_byte_spec : {M : Type 1} → statement M
write_byte_spec =
    tie.close
    (tie.spec (λ c. search rules) (λ c κs. search rules) (λ c. search rules) (λ c. search rules) returns-2)
