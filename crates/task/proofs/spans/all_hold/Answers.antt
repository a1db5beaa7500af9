use mathlib.Core.Path.{ap}
use mathlib.Core.Bool.{not}
use Rattle.task.specs.Spans.{span}
use Rattle.words.proofs.Loops.{all-mapped, all_yes, all-no, all-ends}
use Rattle.task.proofs.SpanLaws.{rows_fit, rows-ascend, precondition-inside, atom-found}
use Rattle.task.proofs.spans.all_hold.Goals as goal

pub loop-k-init : goal.loop-k-init
unfolding span
loop-k-init c = λ t g u. all-mapped _ _ _ _

pub find-row-requires-clause-n_in_bounds : goal.find-row-requires-clause-n_in_bounds
find-row-requires-clause-n_in_bounds c = let (t, g, u) = c.requires in rows_fit u

pub find-row-requires-clause-rows_ascend : goal.find-row-requires-clause-rows_ascend
find-row-requires-clause-rows_ascend c = let (t, g, u) = c.requires in rows-ascend u

pub is_row-requires : goal.is_row-requires
is_row-requires c = let (t, g, u) = c.requires in rows_fit u

pub returns-then-not-is_row : goal.returns-then-not-is_row
returns-then-not-is_row c = λ t g u.
    all-no (c.loop-k.invariant t g u) c.loop-k-test.true
    (atom-found u (precondition-inside u c.loop-k-test.true) c.find-row.ensures c.is_row.ensures) (ap not c.if-not-is_row.true)

pub loop-k-preserved : goal.loop-k-preserved
loop-k-preserved c = λ t g u.
    all_yes (c.loop-k.invariant t g u) c.loop-k-test.true
    (atom-found u (precondition-inside u c.loop-k-test.true) c.find-row.ensures c.is_row.ensures) (ap not c.if-not-is_row.false)

pub returns : goal.returns
returns c = λ t g u. all-ends (c.loop-k.invariant t g u) c.loop-k-test.false
