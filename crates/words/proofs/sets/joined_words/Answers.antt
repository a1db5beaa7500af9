use Rattle.words.proofs.Loops.{set-between, set_more, set-ends, with_number}
use Rattle.words.proofs.sets.joined_words.Goals as goal

pub loop-i-init : goal.loop-i-init
loop-i-init c = set-between c.args.table.now c.args.mask c.args.from c.args.to

pub loop-i-preserved : goal.loop-i-preserved
loop-i-preserved c =
    set_more c.loop-i.invariant c.loop-i-test.true (with_number _ _ _ c.with-set.ensures c.word.ensures.value)

pub returns : goal.returns
returns c = set-ends c.loop-i.invariant c.loop-i-test.false
