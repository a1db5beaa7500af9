use Rattle.std.proofs.Common.{sym, ◌∙◌, ap₂}
use lib.Dec.{ltb}
use Rattle.words.proofs.Comparing.{less-start, less-more, less-decides, less-ends}
use Rattle.words.proofs.runs.less_words.Goals as goal

pub loop-k-init : goal.loop-k-init
loop-k-init c = less-start

pub returns-then-x-y : goal.returns-then-x-y
returns-then-x-y c =
    let x = c.word-x.ensures.value in
    let y = c.word-y.ensures.value in
    ap₂ ltb x y ∙ less-decides c.loop-k.invariant c.loop-k-test.true (λ e. c.if-x-y.true (x ∙ (e ∙ sym y)))

pub loop-k-preserved : goal.loop-k-preserved
loop-k-preserved c =
    less-more c.loop-k.invariant c.loop-k-test.true
    (sym c.word-x.ensures.value ∙ (c.if-x-y.false ∙ c.word-y.ensures.value))

pub returns : goal.returns
returns c = less-ends c.loop-k.invariant c.loop-k-test.false
