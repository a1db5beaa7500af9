use Rattle.task.proofs.SpanLaws.{rows_fit, rows-ascend, known_small, known-room, insert-start}
use Rattle.task.proofs.SpanLaws.{next_known, insert-turn, insert-end, rest-fits}
use Rattle.task.proofs.spans.insert_rest.Goals as goal

pub loop-k-init : goal.loop-k-init
loop-k-init c = λ t g u. insert-start u _ c.requires.from_le_deletes

pub put_in-left-requires-clause-n_in_bounds : goal.put_in-left-requires-clause-n_in_bounds
put_in-left-requires-clause-n_in_bounds c =
    let (t, g, u, room) = c.requires.by_index in rows_fit (c.loop-k.invariant t g u).way

pub put_in-left-requires-clause-rows_ascend : goal.put_in-left-requires-clause-rows_ascend
put_in-left-requires-clause-rows_ascend c =
    let (t, g, u, room) = c.requires.by_index in rows-ascend (c.loop-k.invariant t g u).way

pub put_in-left-requires-clause-by_index : goal.put_in-left-requires-clause-by_index
put_in-left-requires-clause-by_index c =
    let (t, g, u, room) = c.requires.by_index in
    let so = c.loop-k.invariant t g u in
    let known = next_known so c.loop-k-test.true in
    (known-room known _ (rest-fits so c.loop-k-test.true room), known_small known)

pub loop-k-preserved : goal.loop-k-preserved
loop-k-preserved c = λ t g u.
    let so = c.loop-k.invariant t g u in
    insert-turn so c.loop-k-test.true c.put_in-left.auto.state
    (c.put_in-left.ensures _ _ (next_known so c.loop-k-test.true))

pub returns : goal.returns
returns c = λ t g u. insert-end (c.loop-k.invariant t g u) c.loop-k-test.false
