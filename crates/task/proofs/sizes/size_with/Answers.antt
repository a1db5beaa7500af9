use mathlib.Core.Path.{sym, ◌∙◌, ap}
use native.Mathlib.Omega.{arith}
use lib.ListN.{length}
use borrow.Author.Tests.{not-true, not-false}
use Rattle.task.proofs.SpanLaws.{rows_fit, facts-asc, few-before, add-inside, atom-known, insert-nothing}
use Rattle.task.proofs.SizeLaws.{size-grows, size_same, few-come, count-start, count_turn, count-end, removed-asc}
use Rattle.task.proofs.sizes.size_with.Goals as goal
use Rattle.task.proofs.sizes.size_with.Goals.{then-comes, else-comes}

pub loop-k-init : goal.loop-k-init
loop-k-init c = λ t g u e. count-start g _ _ _ _ u.adds (e ∙ ap length (sym (insert-nothing _)))

pub overflow_add-total : goal.overflow_add-total
overflow_add-total c =
    let (t, g, u, e) = c.requires in
    let z = (c.loop-k.invariant t g u e).is in
    let b = few-come u c.loop-k.k in
    let l = rows_fit u in
    let k = few-before u (add-inside u c.loop-k-test.true) in
    omega (arith, c.well_formed)

pub loop-k-preserved : goal.loop-k-preserved
loop-k-preserved c = λ t g u e.
    let so = c.loop-k.invariant t g u e in
    let z = so.is in
    let l = c.loop-k-test.true in
    let q = sym (c.comes.ensures t g u _ (atom-known u c.loop-k.k (add-inside u l))) in
    let asc = removed-asc _ (facts-asc u) in
    elim c.if-comes.branch [
      | then-comes w ↦
          let y = size-grows _ _ _ asc (not-true _ (q ∙ w.if-comes.true)) in
          let s = w.total-is in count_turn g _ so l (omega arith)
      | else-comes w ↦
          let y = size_same _ _ _ asc (not-false _ (q ∙ w.if-comes.false)) in
          let s = w.total-is in count_turn g _ so l (omega arith)
    ]

pub returns : goal.returns
returns c = λ t g u e. count-end g _ (c.loop-k.invariant t g u e) c.loop-k-test.false
