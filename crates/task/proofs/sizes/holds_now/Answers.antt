-- An atom that is one of those that hold does (`one_holds`); any other is looked for.
use mathlib.Core.Path.{sym, ◌∙◌, ap}
use mathlib.Core.Bool.{not}
use Rattle.task.proofs.SpanLaws.{rows_fit, rows-ascend, adds-inside}
use Rattle.task.proofs.SizeLaws.{span-absent, one_holds}
use Rattle.task.proofs.sizes.holds_now.Goals as goal

pub held-requires-clause-n_in_bounds : goal.held-requires-clause-n_in_bounds
held-requires-clause-n_in_bounds c = let (t, g, u) = c.requires in rows_fit u

pub held-requires-clause-rows_ascend : goal.held-requires-clause-rows_ascend
held-requires-clause-rows_ascend c = let (t, g, u) = c.requires in rows-ascend u

pub returns-then-not-absent : goal.returns-then-not-absent
returns-then-not-absent c = λ t g u a f d.
    let out = c.if-not-absent.true in
    ap not out ∙ one_holds _ _ f a (sym (c.absent.ensures ∙ span-absent u _ _ (adds-inside u) d) ∙ out)
