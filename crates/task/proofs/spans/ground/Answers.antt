-- The arguments that the predicate has are objects of the step, the others 0.
use mathlib.Core.Path.{◌≡◌, ◌∙◌}
use native.Mathlib.Omega.{arith}
use Rattle.task.specs.Layout.{arity_in}
use Rattle.task.proofs.GroundWords.{read-pred, read-inside, read_number}
use Rattle.task.proofs.TableReads.{table-roomy}
use Rattle.task.proofs.spans.ground.Goals as goal

pub row_of-at-requires-clause-roomy : goal.row_of-at-requires-clause-roomy
row_of-at-requires-clause-roomy c = table-roomy _ c.requires.tabled

pub arity_of-arity-requires : goal.arity_of-arity-requires
arity_of-arity-requires c =
    read-pred _ _ _ _ c.requires _ _ c.row_of-at.ensures.value (c.from.ensures ∙ c.predicate_at-p.ensures.value)

pub argument-a-requires-clause-at_in_bounds_2 : goal.argument-a-requires-clause-at_in_bounds_2
argument-a-requires-clause-at_in_bounds_2 c =
    read-inside _ _ _ _ c.requires c.row_of-at.result c.from.result c.arity_of-arity.result c.row_of-at.ensures.value
    (c.from.ensures ∙ c.predicate_at-p.ensures.value) c.arity_of-arity.ensures 0 _ (omega arith)

pub argument-b-requires-clause-at_in_bounds_2 : goal.argument-b-requires-clause-at_in_bounds_2
argument-b-requires-clause-at_in_bounds_2 c =
    read-inside _ _ _ _ c.requires c.row_of-at.result c.from.result c.arity_of-arity.result c.row_of-at.ensures.value
    (c.from.ensures ∙ c.predicate_at-p.ensures.value) c.arity_of-arity.ensures 1 _ (omega arith)

pub argument-c-requires-clause-at_in_bounds_2 : goal.argument-c-requires-clause-at_in_bounds_2
argument-c-requires-clause-at_in_bounds_2 c =
    read-inside _ _ _ _ c.requires c.row_of-at.result c.from.result c.arity_of-arity.result c.row_of-at.ensures.value
    (c.from.ensures ∙ c.predicate_at-p.ensures.value) c.arity_of-arity.ensures 2 _ (omega arith)

pub argument-d-requires-clause-at_in_bounds_2 : goal.argument-d-requires-clause-at_in_bounds_2
argument-d-requires-clause-at_in_bounds_2 c =
    read-inside _ _ _ _ c.requires c.row_of-at.result c.from.result c.arity_of-arity.result c.row_of-at.ensures.value
    (c.from.ensures ∙ c.predicate_at-p.ensures.value) c.arity_of-arity.ensures 3 _ (omega arith)

pub returns : goal.returns
returns c =
    let p = c.predicate_at-p.result in
    let e : c.arity_of-arity.result ≡ arity_in c.args.table.now p = let z = c.from.ensures in
    let h = c.arity_of-arity.ensures in cc in
    read_number _ _ _ _ c.requires c.row_of-at.result p c.arity_of-arity.result c.row_of-at.ensures.value
    c.predicate_at-p.ensures.value e _ _ _ _ _ c.argument-a.ensures c.argument-b.ensures c.argument-c.ensures
    c.argument-d.ensures c.number_of.ensures
