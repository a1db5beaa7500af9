-- An atom that is none of those that came in is new where it does not stay (`comes-new`), and one that came in is not
-- new (`comes-again`). That no number of theirs is the atom's says that it is none of them (`span-absent`).
use mathlib.Core.Path.{sym, ◌∙◌}
use Rattle.task.proofs.SizeLaws.{span-absent, comes-new, comes-again}
use Rattle.task.proofs.sizes.comes.Goals as goal

pub returns-then-absent : goal.returns-then-absent
returns-then-absent c = λ t g u f d.
    comes-new _ _ f _ (sym (c.absent.ensures ∙ span-absent u _ _ c.requires.k_le_end d) ∙ c.if-absent.true)
    (c.stays.ensures t g u f d)

pub returns-else-absent : goal.returns-else-absent
returns-else-absent c = λ t g u f d.
    let out = c.if-absent.false in
    out ∙ comes-again _ _ f (sym (c.absent.ensures ∙ span-absent u _ _ c.requires.k_le_end d) ∙ out)
