-- An atom that holds stays where it is none of those that go out (`stays-held`), and one that does not hold does not
-- stay (`stays-missing`). The rows of a state ascend, as `held` requires.
use mathlib.Core.Path.{sym, ◌∙◌}
use native.Mathlib.Omega.{arith}
use Rattle.task.proofs.SpanLaws.{rows_fit, rows-ascend}
use Rattle.task.proofs.SizeLaws.{span-absent, stays-held, stays-missing}
use Rattle.task.proofs.sizes.stays.Goals as goal

pub held-requires-clause-n_in_bounds : goal.held-requires-clause-n_in_bounds
held-requires-clause-n_in_bounds c = let (t, g, u) = c.requires in rows_fit u

pub held-requires-clause-rows_ascend : goal.held-requires-clause-rows_ascend
held-requires-clause-rows_ascend c = let (t, g, u) = c.requires in rows-ascend u

pub returns-then-held : goal.returns-then-held
returns-then-held c = λ t g u f d.
    stays-held _ _ f _ (sym (c.held.ensures t f d) ∙ c.if-held.true)
    (c.absent.ensures ∙ span-absent u _ _ (omega arith) d)

pub returns-else-held : goal.returns-else-held
returns-else-held c = λ t g u f d.
    c.if-held.false ∙ stays-missing _ _ f (sym (c.held.ensures t f d) ∙ c.if-held.false)
