use Rattle.std.proofs.Common.{arith}
use Rattle.task.specs.Table.{atom_in}
use Rattle.tokens.proofs.PartWords.{arguments-end}
use Rattle.tokens.proofs.part_atoms.arguments.Goals as goal

pub returns-clause-puts : goal.returns-clause-puts
returns-clause-puts c =
    let a = c.args in
    let n = c.argument_count-count.ensures in
    let h = c.loop-k in
    (arguments-end a.out.now a.at a.own (atom_in a.table.now a.i).args h.k h.out _ h.invariant.1 (omega arith)
    n.value (omega arith) c.fill.ensures).0
