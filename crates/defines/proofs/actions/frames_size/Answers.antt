-- No sum wraps, as the whole text is short (`sizes-fit`).
use Rattle.std.proofs.Common.{length, arith, rules, ◌∙◌}
use borrow.Author.Tests.{tests}
use Rattle.std.proofs.lemmas.Iterator.{serves_from_Range}
use Rattle.words.proofs.Chains.{sum_fits, sum_ran}
use Rattle.task.proofs.TableReads.{counts-inside}
use Rattle.defines.specs.ByWords.{frame_in}
use Rattle.defines.proofs.PieceSums.{pieces-sum}
use Rattle.defines.proofs.Sizes.{sizes-fit}
use Rattle.defines.proofs.actions.frames_size.Goals as goal

pub word_at-schemas-requires : goal.word_at-schemas-requires
word_at-schemas-requires c = omega (arith, counts-inside _ c.requires)

pub sum-requires-clause-can : goal.sum-requires-clause-can
sum-requires-clause-can c = (tt, serves_from_Range (λ x q k. search (rules, tests)) (λ x l m. search (rules, tests)))

pub sum-requires-clause-fits : goal.sum-requires-clause-fits
sum-requires-clause-fits c =
    let w = c.args.table.now in
    let piece = frame_in w in
    let e = pieces-sum piece c.word_at-schemas.result c.word_at-schemas.ensures in
    let f = sizes-fit w c.requires in
    sum_fits (λ k. length (piece k)) c.map.ensures.source c.map.ensures.closure (λ x b q k. search (rules, tests))
    (omega arith)

pub returns : goal.returns
returns c =
    let piece = frame_in c.args.table.now in
    sum_ran (λ k. length (piece k)) c.map.ensures.source c.map.ensures.closure c.sum.ensures.ran
    (λ x b q k. search (rules, tests)) ∙ pieces-sum piece _ c.word_at-schemas.ensures
