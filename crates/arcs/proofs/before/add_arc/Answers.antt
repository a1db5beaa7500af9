use Rattle.std.proofs.Common.{arith, sym, ◌∙◌}
use Rattle.task.specs.Table.{atom_in}
use Rattle.arcs.proofs.ArcSets.{one-part-joins, no-arc-joins, arc-joins}
use Rattle.arcs.proofs.before.add_arc.Goals as goal

pub returns-then-not-gives_arc-clause-joins : goal.returns-then-not-gives_arc-clause-joins
returns-then-not-gives_arc-clause-joins c = λ pairs h.
    no-arc-joins pairs (atom_in c.args.table.now c.args.i) (atom_in c.args.table.now c.args.j)
    (c.gives_arc.ensures pairs h) c.if-not-gives_arc.true c.args.before.now

pub returns-then-p-q-clause-joins : goal.returns-then-p-q-clause-joins
returns-then-p-q-clause-joins c = λ pairs h.
    let p = c.part_of.ensures in
    let q = c.part_of-2.ensures in
    arc-joins pairs (atom_in c.args.table.now c.args.i) (atom_in c.args.table.now c.args.j)
    (c.gives_arc.ensures pairs h) c.if-not-gives_arc.false c.args.before.now c.with.result c.from-p.result c.from-q.result
    (c.from-p.ensures ∙ p.result_value) (c.from-q.ensures ∙ q.result_value) (omega arith) c.if-p-q.true c.with.ensures

pub returns-else-p-q-clause-joins : goal.returns-else-p-q-clause-joins
returns-else-p-q-clause-joins c = λ pairs h.
    one-part-joins pairs (atom_in c.args.table.now c.args.i) (atom_in c.args.table.now c.args.j)
    (sym (c.from-p.ensures ∙ c.part_of.ensures.result_value) ∙
    (c.if-p-q.false ∙ (c.from-q.ensures ∙ c.part_of-2.ensures.result_value))) c.args.before.now
