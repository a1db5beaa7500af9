-- `task::layout::params_base` meets its contract: they follow the arities.
use native.Mathlib.Omega.{arith}
use borrow.Author.Rules.{rules}
use Rattle.task.proofs.layout.params_base.Statement.{statement}
use Rattle.task.proofs.layout.params_base.Tie as tie

returns : tie.Need-returns
returns c = (omega (arith, c.word.ensures.0), omega (arith, c.word.ensures.1))

pub params_base_spec : {M : Type 1} → statement M
params_base_spec = tie.close (tie.spec (λ c κs. search rules) (λ c. search rules) returns)
