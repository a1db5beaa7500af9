-- `task::layout::pairs_base` meets its contract: the pairs follow the parameter counts.
use native.Mathlib.Omega.{arith}
use borrow.Author.Rules.{rules}
use Rattle.task.proofs.layout.pairs_base.Statement.{statement}
use Rattle.task.proofs.layout.pairs_base.Tie as tie

returns : tie.Need-returns
returns c =
    let base = c.params_base.ensures in
    (omega (arith, base.0, c.word.ensures.0), omega (arith, base.1, c.word.ensures.1))

pub pairs_base_spec : {M : Type 1} → statement M
pairs_base_spec = tie.close (tie.spec (λ c κs. search rules) (λ c κs. search rules) (λ c. search rules) returns)
