-- `task::layout::arity_of` meets its contract: the arities follow the head.
use borrow.Author.Rules.{rules}
use Rattle.task.specs.Layout.{arity_in}
use Rattle.task.proofs.layout.arity_of.Statement.{statement}
use Rattle.task.proofs.layout.arity_of.Tie as tie

returns : tie.Need-returns
unfolding arity_in
returns c = c.word.ensures.0

pub arity_of_spec : {M : Type 1} → statement M
arity_of_spec = tie.close (tie.spec (λ c. search rules) (λ c κs. search rules) returns)
