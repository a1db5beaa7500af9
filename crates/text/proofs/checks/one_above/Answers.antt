-- Each number is below 16, so one more fits.
use Rattle.std.proofs.Common.{arith, ltb, get_or, refl}
use Rattle.std.proofs.lemmas.Grind.{common_steps}
use borrow.Author.Tests.{ltb-true}
use Rattle.words.proofs.Lists.{all_in, in-get_or}
use Rattle.text.specs.ReadCode.{one_above}
use Rattle.text.proofs.WordTests.{above_more}
use Rattle.text.proofs.checks.one_above.Goals as goal

pub loop-number-init : goal.loop-number-init
unfolding one_above
loop-number-init c = refl

pub overflow_add-number : goal.overflow_add-number
overflow_add-number c =
    let list = c.args.list.now in
    let k = c.loop-number.number-index in
    let low = ltb-true (get_or list k 0) 16
    (all_in (λ a. ltb a 16) c.requires (in-get_or list k 0 (omega arith))) in
    omega arith

pub loop-number-preserved : goal.loop-number-preserved
loop-number-preserved c =
    let so_far = c.loop-number.invariant in
    let more = above_more c.args.list.now c.loop-number.number-index (omega arith) in
    grind (arith, common_steps)
