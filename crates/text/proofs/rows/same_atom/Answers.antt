-- Words 1 and 2 of the rows, role and predicate, are compared first: where they differ the rows do.
use Rattle.std.proofs.Common.{refl, sym, ◌∙◌}
use Rattle.text.specs.ReadCode.{row_same}
use Rattle.text.proofs.rows.same_atom.Goals as goal

pub returns-then-same_words : goal.returns-then-same_words
unfolding row_same
returns-then-same_words c =
    c.same_words-then-same_words.ensures ∙ sym (rw (sym c.same_words.ensures ∙ c.if-same_words.true) refl)

pub returns-else-same_words : goal.returns-else-same_words
unfolding row_same
returns-else-same_words c =
    c.if-same_words.false ∙ sym (rw (sym c.same_words.ensures ∙ c.if-same_words.false) refl)
