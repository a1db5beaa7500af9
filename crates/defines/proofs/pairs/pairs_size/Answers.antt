-- No sum wraps, as the whole text is short (`sizes-fit`).
use Rattle.std.proofs.Common.{length, arith, rules, ◌∙◌, ap}
use borrow.Author.Tests.{tests}
use Rattle.std.proofs.lemmas.Iterator.{serves_from_Range}
use Rattle.words.proofs.Chains.{sum_fits, sum_ran}
use Rattle.task.specs.Layout.{head_in}
use Rattle.task.proofs.TableReads.{counts-inside}
use Rattle.defines.specs.ByWords.{apart_in}
use Rattle.defines.proofs.PieceSums.{pieces-sum}
use Rattle.defines.proofs.Sizes.{sizes-fit}
use Rattle.defines.proofs.PairItems.{pairs-all}
use Rattle.defines.proofs.pairs.pairs_size.Goals as goal

pub word-count-requires : goal.word-count-requires
word-count-requires c = omega (arith, counts-inside _ c.requires)

pub sum-requires-clause-can : goal.sum-requires-clause-can
sum-requires-clause-can c = (tt, serves_from_Range (λ x q k. search (rules, tests)) (λ x l m. search (rules, tests)))

pub sum-requires-clause-fits : goal.sum-requires-clause-fits
sum-requires-clause-fits c =
    let w = c.args.table.now in
    let piece = apart_in w in
    let e = pieces-sum piece c.word-count.result c.word-count.ensures.value in
    let f = sizes-fit w c.requires in
    let a = ap length (pairs-all w (head_in w).pairs) in
    sum_fits (λ k. length (piece k)) c.map.ensures.source c.map.ensures.closure (λ x b q k. search (rules, tests))
    (omega arith)

pub returns : goal.returns
returns c =
    let piece = apart_in c.args.table.now in
    sum_ran (λ k. length (piece k)) c.map.ensures.source c.map.ensures.closure c.sum.ensures.ran
    (λ x b q k. search (rules, tests)) ∙
    (pieces-sum piece _ c.word-count.ensures.value ∙ ap length (pairs-all c.args.table.now _))
