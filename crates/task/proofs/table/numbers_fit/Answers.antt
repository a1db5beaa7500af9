use Prim.Native.Nat.{ℕ, ◌+◌, ◌*◌}
use mathlib.Core.Path.{refl}
use mathlib.Core.Logic.{⊎_elim}
use native.Mathlib.Omega.{arith}
use lib.ListN.{get_or}
use Rattle.task.specs.Layout.{head_in}
use Rattle.task.specs.WordTests.{in_file_order}
use Rattle.words.proofs.Loops.{all-up-to, all_more, all-fails, all-ends}
use Rattle.task.proofs.FileOrder.{number-low, number-high, number-right, number-first, number-next}
use Rattle.task.proofs.table.numbers_fit.Goals as goal

pub loop-i-init : goal.loop-i-init
unfolding in_file_order
loop-i-init c = (all-up-to refl, number-first (λ i. get_or c.args.table.now (c.args.base + c.args.size * i) 0))

pub returns-then-number-before : goal.returns-then-number-before
returns-then-number-before c =
    let row : ℕ → ℕ = λ i. get_or c.args.table.now (c.args.base + c.args.size * i) 0 in
    let schemas = (head_in c.args.table.now).schemas in
    let e = c.word-number.ensures.value in
    let f = c.word-schemas.ensures.value in
    let before = c.loop-i.invariant.1 in
    all-fails c.loop-i.invariant.0 c.loop-i-test.true
    (⊎_elim (λ l. number-low row schemas c.args.count c.loop-i.i c.loop-i.before before (omega arith))
    (λ l. number-high row schemas c.args.count c.loop-i.i c.loop-i.before before (omega arith))
    c.then-number-before.either)

pub loop-i-preserved : goal.loop-i-preserved
loop-i-preserved c =
    let row : ℕ → ℕ = λ i. get_or c.args.table.now (c.args.base + c.args.size * i) 0 in
    let e = c.word-number.ensures.value in
    let f = c.word-schemas.ensures.value in
    let low = c.if-number-before.false in
    let high = c.if-schemas-number.false in (
      all_more c.loop-i.invariant.0 c.loop-i-test.true
          (number-right row (head_in c.args.table.now).schemas c.args.count c.loop-i.i c.loop-i.before c.loop-i.invariant.1
          (omega arith) (omega arith)),
      number-next row c.loop-i.i c.word-number.result e,
    )

pub returns : goal.returns
returns c = all-ends c.loop-i.invariant.0 c.loop-i-test.false
