-- `words::sets::up_to` meets its contract: all 64 digits of the greatest number are 1 (`member-ones`).
use mathlib.Core.Path.{◌∙◌, sym, ap}
use borrow.Author.Rules.{rules}
use lib.Dec.{ltb}
use Rattle.words.proofs.BitSets.{member-ones}
use Rattle.words.proofs.sets.up_to.Statement.{statement}
use Rattle.words.proofs.sets.up_to.Tie as tie

returns : tie.Need-returns-then-n-eq64
returns c = λ k. member-ones 64 k ∙ ap (ltb k) (sym c.if-n-eq64.true)

pub up_to_spec : {M : Type 1} → statement M
up_to_spec = tie.close (tie.spec returns (λ c κs. search rules) (λ c. search rules))
