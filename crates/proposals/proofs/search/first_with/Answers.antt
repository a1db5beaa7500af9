-- `proposals::search::first_with` meets its contract: each turn tries the lowest of the others that are left.
use Rattle.std.proofs.Common.{◌<◌, sym, ◌∙◌}
use Rattle.words.proofs.SetLoops.{lowest-fewer}
use Rattle.proposals.proofs.PairTests.{trying-first, trying-next, trying-found, trying-ends}
use Rattle.proposals.proofs.search.first_with.Goals as goal
use Rattle.proposals.proofs.search.first_with.Goals.{After-lowest-b}

pub loop-rest-init : goal.loop-rest-init
loop-rest-init c = trying-first _ _ _ _ _

-- the lowest is one of the others
known : (c : After-lowest-b) → (c.args.a < c.lowest-b.result) × (c.lowest-b.result < c.args.n)
known c =
    let m = c.loop-rest.invariant.left _ c.lowest-b.ensures.is-in in
    (c.requires.by_index _ m, c.requires.set_below _ m)

pub can_merge-requires-clause-n_le_most_atoms : goal.can_merge-requires-clause-n_le_most_atoms
can_merge-requires-clause-n_le_most_atoms c = let (a, b) = known c in (c.requires.n_le_most_atoms, a, b)

pub returns-then-can_merge-clause-behind : goal.returns-then-can_merge-clause-behind
returns-then-can_merge-clause-behind c = known (goal.at.returns-then-can_merge-clause-behind c).After-lowest-b

pub returns-then-can_merge-clause-by_index_2 : goal.returns-then-can_merge-clause-by_index_2
returns-then-can_merge-clause-by_index_2 c = λ s ps named play. (
  sym (c.can_merge.ensures s ps named play) ∙ c.if-can_merge.true,
  trying-found _ _ _ c.loop-rest.invariant c.lowest-b.ensures s ps named play,
)

pub loop-rest-smaller : goal.loop-rest-smaller
loop-rest-smaller c =
    let l = c.lowest-b.ensures in
    lowest-fewer l _ (c.without_lowest-rest.ensures _ l)

pub loop-rest-preserved : goal.loop-rest-preserved
loop-rest-preserved c =
    let l = c.lowest-b.ensures in
    trying-next _ _ _ c.loop-rest.invariant l _ (c.without_lowest-rest.ensures _ l)
    (λ s ps named play. sym c.if-can_merge.false ∙ c.can_merge.ensures s ps named play)

pub returns-clause-by_index_2 : goal.returns-clause-by_index_2
returns-clause-by_index_2 c = trying-ends _ _ _ c.loop-rest.invariant c.loop-rest-test.false
