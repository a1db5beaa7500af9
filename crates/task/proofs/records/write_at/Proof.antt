-- `task::records::write_at` meets its contract.
-- Five stores, none of which changes another's word (`written`). The number is below 2 ^ 56, so its first digit is
-- below 2 ^ 16, and the others are below 1024: each cast keeps its digit.
use native.Mathlib.Omega.{arith}
use lib.ListN.{length-set}
use Rattle.task.proofs.Moves.{written}
use borrow.Author.Rules.{rules}
use Rattle.task.proofs.records.write_at.Statement.{statement}
use Rattle.task.proofs.records.write_at.Tie as tie

slice-write-state-2 : tie.Need-bounds-state-at-2
slice-write-state-2 c = simp length-set (omega arith)

slice-write-state-3 : tie.Need-bounds-state-at-3
slice-write-state-3 c = simp length-set (omega arith)

slice-write-state-4 : tie.Need-bounds-state-at-4
slice-write-state-4 c = simp length-set (omega arith)

slice-write-state-5 : tie.Need-bounds-state-at-5
slice-write-state-5 c = simp length-set (omega arith)

returns : tie.Need-returns
returns c = written _ _ _ c.requires.0

pub write_at_spec : {M : Type 1} → statement M
write_at_spec =
    tie.close
    (tie.spec (λ c. search rules) (λ c. search rules) (λ c. search rules) (λ c. search rules) (λ c. search rules)
    (λ c. search rules) slice-write-state-2 (λ c. search rules) (λ c. search rules) (λ c. search rules)
    slice-write-state-3 (λ c. search rules) (λ c. search rules) (λ c. search rules) slice-write-state-4
    (λ c. search rules) (λ c. search rules) (λ c. search rules) slice-write-state-5 (λ c. search rules) returns)
