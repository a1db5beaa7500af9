use Rattle.task.specs.Table.{pair_in}
use Rattle.task.proofs.PairOrder.{pair-tuples}
use Rattle.task.proofs.table.pairs.pair_less.Goals as goal

pub returns : goal.returns
returns c =
    let e = pair-tuples (pair_in c.args.table.now c.args.i) (pair_in c.args.table.now c.args.j) in
    let l = c.lt.ensures in
    let a = c.lower.ensures in let b = c.higher.ensures in let d = c.lower-2.ensures in let f = c.higher-2.ensures in cc
