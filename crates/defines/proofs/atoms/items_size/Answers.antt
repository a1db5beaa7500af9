-- No sum wraps, as the whole text is short (`sizes-fit`).
use Rattle.std.proofs.Common.{length, arith, rules, ◌∙◌, ap}
use borrow.Author.Tests.{tests}
use Rattle.std.proofs.lemmas.Iterator.{serves_from_Range}
use Rattle.words.proofs.Chains.{sum_fits, sum_ran}
use Rattle.task.specs.Layout.{atom_total}
use Rattle.defines.specs.ByWords.{item_in}
use Rattle.defines.proofs.PieceSums.{pieces-sum}
use Rattle.defines.proofs.Sizes.{sizes-fit}
use Rattle.defines.proofs.TableItems.{items-all}
use Rattle.defines.proofs.atoms.items_size.Goals as goal

pub sum-requires-clause-can : goal.sum-requires-clause-can
sum-requires-clause-can c = (tt, serves_from_Range (λ x q k. search (rules, tests)) (λ x l m. search (rules, tests)))

pub sum-requires-clause-fits : goal.sum-requires-clause-fits
sum-requires-clause-fits c =
    let w = c.args.table.now in
    let piece = item_in w in
    let e = pieces-sum piece c.atom_count-count.result c.atom_count-count.ensures in
    let f = sizes-fit w c.requires in
    let a = ap length (items-all w (atom_total w)) in
    sum_fits (λ k. length (piece k)) c.map.ensures.source c.map.ensures.closure (λ x b q k. search (rules, tests))
    (omega arith)

pub returns : goal.returns
returns c =
    let piece = item_in c.args.table.now in
    sum_ran (λ k. length (piece k)) c.map.ensures.source c.map.ensures.closure c.sum.ensures.ran
    (λ x b q k. search (rules, tests)) ∙
    (pieces-sum piece _ c.atom_count-count.ensures ∙ ap length (items-all c.args.table.now _))
