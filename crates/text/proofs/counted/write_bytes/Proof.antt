-- `text::counted::write_bytes` meets its contract: bytes with room are put, and those without are counted alone.
use native.Mathlib.Omega.{arith}
use mathlib.Core.Path.{refl}
use Rattle.text.proofs.Writes.{writes-counted}
use borrow.Author.Rules.{rules}
use Rattle.text.proofs.counted.write_bytes.Statement.{statement}
use Rattle.text.proofs.counted.write_bytes.Tie as tie

returns-2 : tie.Need-returns-else-end-text
returns-2 c = writes-counted refl (omega arith)

pub write_bytes_spec : {M : Type 1} → statement M
write_bytes_spec =
    tie.close
    (tie.spec (λ c. search rules) (λ c κs. search rules) (λ c. search rules) (λ c. search rules) returns-2)
