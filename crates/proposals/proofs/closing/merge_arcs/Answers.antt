-- `proposals::closing::merge_arcs` meets its contract: part a's word takes in part b's first, and what a turn reads is
-- at or behind part q, so that no turn before has written it.
use Rattle.std.proofs.Common.{arith}
use Rattle.proposals.proofs.CameFrom.{came-below}
use Rattle.proposals.proofs.Scratches.{keeps-room, arcs-inside, arcs-set-keeps}
use Rattle.proposals.proofs.ClosedArcs.{closing-start, closing-turn, closing_end}
use Rattle.proposals.proofs.closing.merge_arcs.Goals as goal

pub bounds-scratch-a : goal.bounds-scratch-a
bounds-scratch-a c = arcs-inside c.requires.scratch_words_in_bounds (omega arith)

pub loop-q-init : goal.loop-q-init
loop-q-init c = closing-start _ _ _

pub arcs_to-requires-clause-q_lt_most_atoms : goal.arcs_to-requires-clause-q_lt_most_atoms
arcs_to-requires-clause-q_lt_most_atoms c =
    omega (arith, came-below c.args.b c.args.n c.loop-q.q (omega arith), c.came_from.ensures)

pub bounds-scratch-q : goal.bounds-scratch-q
bounds-scratch-q c =
    let keeps = arcs-set-keeps c.args.scratch.now c.args.a (omega arith) c.arcs_to_both.result in
    arcs-inside (keeps-room c.loop-q.invariant.keeps (keeps-room keeps c.requires.scratch_words_in_bounds)) (omega arith)

pub loop-q-preserved : goal.loop-q-preserved
loop-q-preserved c =
    let keeps = arcs-set-keeps c.args.scratch.now c.args.a (omega arith) c.arcs_to_both.result in
    closing-turn c.loop-q.invariant (keeps-room keeps c.requires.scratch_words_in_bounds) (omega arith)
    c.came_from.ensures c.arcs_to.ensures _ c.merged_set.ensures

pub returns : goal.returns
returns c =
    let (few, l, m) = c.requires.n_le_most_atoms in
    closing_end _ _ l _ _ c.arcs_to_both.ensures m few c.requires.scratch_words_in_bounds c.loop-q.invariant
    (omega arith)
