-- An atom whose predicate is not in the set doesn't stand again.
use mathlib.Core.Path.{sym, ◌∙◌, ap}
use Rattle.words.specs.Sets.{member}
use Rattle.task.proofs.Repeats.{unseen}
use Rattle.task.proofs.table.schemas.repeats.Goals as goal

pub returns-else-has : goal.returns-else-has
returns-else-has c =
    c.if-has.false ∙
    unseen c.args.table.now c.args.end c.args.i c.args.behind c.requires.holds_behind
    (ap (member c.args.behind) (sym c.requires.bit_value) ∙ (sym c.has.ensures ∙ c.if-has.false))
