-- An atom that is none of those that went out holds still where it holds now (`goes_first`), and one that went out does
-- not (`goes-again`).
use mathlib.Core.Path.{sym, ◌∙◌}
use Rattle.task.proofs.SizeLaws.{span-absent, goes_first, goes-again}
use Rattle.task.proofs.sizes.goes.Goals as goal

pub returns-then-absent : goal.returns-then-absent
returns-then-absent c = λ t g u a f d.
    goes_first _ _ f _ (sym (c.absent.ensures ∙ span-absent u _ _ c.requires.k_le_end d) ∙ c.if-absent.true)
    (c.holds_now.ensures t g u a f d)

pub returns-else-absent : goal.returns-else-absent
returns-else-absent c = λ t g u a f d.
    let out = c.if-absent.false in
    out ∙ goes-again _ _ f (sym (c.absent.ensures ∙ span-absent u _ _ c.requires.k_le_end d) ∙ out)
