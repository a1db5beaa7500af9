-- `proposals::search::first_pair` meets its contract: each turn tries the lowest part that is left with those behind it.
use Rattle.words.proofs.SetLoops.{left_in, lowest-fewer}
use Rattle.proposals.specs.Scratch.{pair_found}
use Rattle.proposals.proofs.PairTests.{behind, searching-below, searching-first, searching-next, searching-found}
use Rattle.proposals.proofs.PairTests.{searching-ends}
use Rattle.proposals.proofs.search.first_pair.Goals as goal

pub loop-rest-init : goal.loop-rest-init
loop-rest-init c = searching-first _ _ _ _ c.narrow_parts-rest.ensures

pub first_with-requires-clause-set_below : goal.first_with-requires-clause-set_below
first_with-requires-clause-set_below c k m =
    searching-below _ _ _ c.loop-rest.invariant k
    (left_in _ _ _ (c.without_lowest-rest.ensures _ c.lowest-a.ensures) k m)

pub first_with-requires-clause-by_index : goal.first_with-requires-clause-by_index
first_with-requires-clause-by_index c =
    let l = c.lowest-a.ensures in
    behind _ _ _ c.loop-rest.invariant l _ (c.without_lowest-rest.ensures _ l)

pub returns-in-Some-clause-result_value : goal.returns-in-Some-clause-result_value
unfolding pair_found
returns-in-Some-clause-result_value c =
    let l = c.lowest-a.ensures in
    let (a, b) = c.in-Some.ensures.behind in
    searching-found _ _ _ c.loop-rest.invariant l _ (c.without_lowest-rest.ensures _ l) a b
    c.in-Some.ensures.by_index_2

pub loop-rest-smaller : goal.loop-rest-smaller
loop-rest-smaller c =
    let l = c.lowest-a.ensures in
    lowest-fewer l _ (c.without_lowest-rest.ensures _ l)

pub loop-rest-preserved : goal.loop-rest-preserved
loop-rest-preserved c =
    let l = c.lowest-a.ensures in
    searching-next _ _ _ c.loop-rest.invariant l _ (c.without_lowest-rest.ensures _ l) c.in_default.ensures.by_index_2

pub returns-clause-result_value : goal.returns-clause-result_value
unfolding pair_found
returns-clause-result_value c = searching-ends _ _ _ c.loop-rest.invariant c.loop-rest-test.false
