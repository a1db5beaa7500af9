-- `task::layout::role` meets its contract, by the word of its row.
use mathlib.Core.Path.{◌∙◌}
use borrow.Author.Rules.{rules}
use Rattle.task.proofs.layout.role.Statement.{statement}
use Rattle.task.proofs.layout.role.Tie as tie

returns : tie.Need-returns
returns c = c.wide.ensures ∙ c.role_at.ensures.1 _ c.row_of.ensures.0

pub role_spec : {M : Type 1} → statement M
role_spec = tie.close (tie.spec (λ c κs. search rules) (λ c κs. search rules) (λ c κs. search rules) returns)
