-- `proposals::merging::merged_number` meets its contract: part b joins part a, a part behind b closes up, and one
-- before b stays. Each branch is a case of the definition.
use borrow.Author.Rules.{rules}
use mathlib.Core.Path.{sym}
use native.Mathlib.Omega.{arith}
use Rattle.proposals.proofs.MergedNumbers.{merged-below, merged-higher, merged-beyond}
use Rattle.proposals.proofs.merging.merged_number.Statement.{statement}
use Rattle.proposals.proofs.merging.merged_number.Tie as tie

returns : tie.Need-returns-then-part-b
returns c = sym (merged-higher _ _ _ c.if-part-b.true)

returns-2 : tie.Need-returns-then-b-part
returns-2 c = sym (merged-beyond _ _ _ c.if-b-part.true)

returns-3 : tie.Need-returns-else-b-part
returns-3 c = let apart = c.if-part-b.false in sym (merged-below _ _ _ (omega arith))

pub merged_number_spec : {M : Type 1} → statement M
merged_number_spec = tie.close (tie.spec (λ c. search rules) returns (λ c. search rules) returns-2 returns-3)
