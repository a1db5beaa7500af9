use Rattle.std.proofs.Common.{arith}
use Rattle.std.proofs.Math.Seq.{get_or-take, length-take-le}
use Rattle.text.proofs.RowTests.{part-put}
use Rattle.text.proofs.rows.put_parts.Goals as goal

pub loop-k-preserved : goal.loop-k-preserved
loop-k-preserved c =
    let (room, enough) = c.requires.n_in_bounds in
    let few = length-take-le c.args.n c.args.parts.now enough in
    rw (get_or-take c.args.n c.args.parts.now c.loop-k.k 0 (omega arith)) (part-put c.loop-k.invariant (omega arith))
