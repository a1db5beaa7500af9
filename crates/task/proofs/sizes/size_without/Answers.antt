use mathlib.Core.Path.{sym, ◌∙◌, ap}
use native.Mathlib.Omega.{arith}
use lib.ListN.{length}
use Rattle.task.proofs.StateWords.{length-state_in}
use Rattle.task.proofs.Changes.{remove-nothing}
use Rattle.task.proofs.SpanLaws.{facts-asc, atom-known}
use Rattle.task.proofs.SizeLaws.{size-goes, size-stays, count-start, count_turn, count-end}
use Rattle.task.proofs.sizes.size_without.Goals as goal
use Rattle.task.proofs.sizes.size_without.Goals.{then-goes, else-goes}

pub loop-k-init : goal.loop-k-init
loop-k-init c = λ t g u a.
    count-start g _ _ _ _ u.deletes (sym (ap length (remove-nothing _) ∙ length-state_in _ _ _))

pub overflow_sub-size : goal.overflow_sub-size
overflow_sub-size c =
    let (t, g, u, a) = c.requires in
    let e = size-goes _ _ _ (facts-asc u) (sym (c.goes.ensures t g u a _ (atom-known u c.loop-k.k c.loop-k-test.true)) ∙
    c.if-goes.true) in
    let z = (c.loop-k.invariant t g u a).is in
    omega arith

pub loop-k-preserved : goal.loop-k-preserved
loop-k-preserved c = λ t g u a.
    let so = c.loop-k.invariant t g u a in
    let z = so.is in
    let l = c.loop-k-test.true in
    let e = sym (c.goes.ensures t g u a _ (atom-known u c.loop-k.k l)) in
    elim c.if-goes.branch [
      | then-goes w ↦
          let q = size-goes _ _ _ (facts-asc u) (e ∙ w.if-goes.true) in
          let s = w.size-is in count_turn g _ so l (omega arith)
      | else-goes w ↦
          let q = size-stays _ _ _ (facts-asc u) (e ∙ w.if-goes.false) in
          let s = w.size-is in count_turn g _ so l (omega arith)
    ]

pub returns : goal.returns
returns c = λ t g u a. count-end g _ (c.loop-k.invariant t g u a) c.loop-k-test.false
