-- `proposals::closing::merge_parameters` meets its contract: part a has the parameters of both first, and each turn
-- moves one word up.
use Rattle.std.proofs.Common.{arith}
use Rattle.proposals.proofs.Scratches.{keeps-room, parameters-inside, parameters-set-keeps}
use Rattle.proposals.proofs.MergedParameters.{moved_none, moved_more, parameters-merged}
use Rattle.proposals.proofs.closing.merge_parameters.Goals as goal

pub bounds-scratch-a : goal.bounds-scratch-a
bounds-scratch-a c = parameters-inside c.requires.scratch_words_in_bounds (omega arith)

pub loop-q-init : goal.loop-q-init
loop-q-init c = moved_none _ _

pub bounds-scratch-q : goal.bounds-scratch-q
bounds-scratch-q c =
    let keeps = parameters-set-keeps c.args.scratch.now c.args.a (omega arith) c.union.result in
    parameters-inside (keeps-room c.loop-q.invariant.keeps (keeps-room keeps c.requires.scratch_words_in_bounds))
    (omega arith)

pub loop-q-preserved : goal.loop-q-preserved
loop-q-preserved c =
    let keeps = parameters-set-keeps c.args.scratch.now c.args.a (omega arith) c.union.result in
    moved_more c.loop-q.invariant (keeps-room keeps c.requires.scratch_words_in_bounds) (omega arith)
    c.parameters_to-in-loop-q.ensures

pub returns : goal.returns
returns c =
    let (few, l, m) = c.requires.n_le_most_atoms in
    parameters-merged l m few c.requires.scratch_words_in_bounds c.parameters_to.ensures c.parameters_to-2.ensures _
    c.union.ensures c.loop-q.invariant (omega arith)
