-- `task::layout::arguments` meets its contract: four words behind where its row begins.
use native.Mathlib.Omega.{arith}
use borrow.Author.Rules.{rules}
use Rattle.task.proofs.layout.arguments.Statement.{statement}
use Rattle.task.proofs.layout.arguments.Tie as tie

returns : tie.Need-returns
returns c = (omega (arith, c.row_of.ensures.0), omega (arith, c.row_of.ensures.1))

pub arguments_spec : {M : Type 1} → statement M
arguments_spec = tie.close (tie.spec (λ c κs. search rules) (λ c. search rules) returns)
