use Rattle.std.proofs.Common.{arith, List, [], ◌+◌, ◌∷◌, sym, subst}
use Rattle.task.specs.Task.{Atom}
use Rattle.task.specs.Table.{atom_in}
use Rattle.arcs.specs.Stretches.{Joins, arcs_between}
use Rattle.arcs.proofs.ArcSets.{none_after, to-more}
use Rattle.arcs.proofs.Stretches.{rows-one}
use Rattle.arcs.proofs.before.add_from.Goals as goal

pub loop-j-init : goal.loop-j-init
loop-j-init c =
    let a = c.args in (
      c.requires.before_len,
      λ pairs h.
          none_after pairs a.table.now (atom_in a.table.now a.i) a.from a.from (λ k l m. absurd (omega arith))
          a.before.now,
    )

pub loop-j-preserved : goal.loop-j-preserved
loop-j-preserved c =
    let a = c.args in
    let h = c.loop-j in
    let w = a.table.now in
    let atom = atom_in w a.i in
    let later = c.add_arc.new.before in (
      c.add_arc.ensures.before_len_2,
      λ pairs p.
          to-more pairs w a.from h.j (h.j + 1) (omega arith) (omega arith) atom a.before.now h.before later
          (h.invariant.1 pairs p)
          (subst (λ (bs : List Atom). Joins (arcs_between pairs (atom ∷ []) bs) h.before later)
          (sym (rows-one (atom_in w) h.j)) (c.add_arc.ensures.joins pairs p)),
    )
