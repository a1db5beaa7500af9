-- `task::layout::pair_of` meets its contract: the three words of a known pair lie in the table.
use native.Mathlib.Omega.{arith}
use borrow.Author.Rules.{rules}
use Rattle.task.specs.Layout.{pair_base}
use Rattle.task.proofs.layout.pair_of.Statement.{statement}
use Rattle.task.proofs.layout.pair_of.Tie as tie

returns : tie.Need-returns
unfolding pair_base
returns c = let base = c.pairs_base.ensures in (omega (arith, base.0), omega (arith, base.0))

pub pair_of_spec : {M : Type 1} → statement M
pair_of_spec = tie.close (tie.spec (λ c κs. search rules) (λ c. search rules) (λ c. search rules) returns)
