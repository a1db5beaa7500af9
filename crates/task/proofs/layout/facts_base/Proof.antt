-- `task::layout::facts_base` meets its contract: the initial atoms follow those of the schemas.
use mathlib.Core.Path.{◌∙◌, ap}
use borrow.Author.Rules.{rules}
use Rattle.task.specs.Layout.{atom_base}
use Rattle.task.proofs.layout.facts_base.Statement.{statement}
use Rattle.task.proofs.layout.facts_base.Tie as tie

returns : tie.Need-returns
unfolding atom_base
returns c =
    c.atom_base.ensures ∙ ap (atom_base c.args.table.now) c.word.ensures.0

pub facts_base_spec : {M : Type 1} → statement M
facts_base_spec = tie.close (tie.spec (λ c κs. search rules) (λ c κs. search rules) returns)
