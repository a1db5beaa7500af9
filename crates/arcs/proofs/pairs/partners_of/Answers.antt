use Rattle.std.proofs.Common.{arith, refl, List, replicate, sym, subst, ◌∙◌}
use lib.ListN.{set, length-set}
use Rattle.task.specs.Limits.{most_parameters}
use Rattle.task.specs.Task.{Pair}
use Rattle.task.specs.Table.{pair_in}
use Rattle.task.proofs.TableReads.{table-roomy}
use Rattle.arcs.specs.Stretches.{ArePartners, pair_stretch_in}
use Rattle.arcs.proofs.Stretches.{rows_none, rows_more}
use Rattle.arcs.proofs.Partners.{pair-within, partners-none, partners-more}
use Rattle.arcs.proofs.pairs.partners_of.Goals as goal

pub loop-i-init : goal.loop-i-init
loop-i-init c = (
  refl,
  subst (λ (qs : List Pair). ArePartners qs (replicate most_parameters 0))
      (sym (rows_none (pair_in c.args.table.now) c.args.from)) (partners-none most_parameters),
)

pub lower-x-requires-clause-roomy : goal.lower-x-requires-clause-roomy
lower-x-requires-clause-roomy c = table-roomy _ c.requires.table

pub higher-y-requires-clause-roomy : goal.higher-y-requires-clause-roomy
higher-y-requires-clause-roomy c = table-roomy _ c.requires.table

pub offset_bounds-partners-y : goal.offset_bounds-partners-y
offset_bounds-partners-y c = omega (arith, pair-within c.requires c.loop-i-test.true c.lower-x.ensures c.higher-y.ensures)

pub bounds-partners-y : goal.bounds-partners-y
bounds-partners-y c = omega (arith, pair-within c.requires c.loop-i-test.true c.lower-x.ensures c.higher-y.ensures)

pub with-requires : goal.with-requires
with-requires c = omega (arith, pair-within c.requires c.loop-i-test.true c.lower-x.ensures c.higher-y.ensures)

pub offset_bounds-partners-y-in-loop-i : goal.offset_bounds-partners-y-in-loop-i
offset_bounds-partners-y-in-loop-i c = omega (arith, pair-within c.requires c.loop-i-test.true c.lower-x.ensures c.higher-y.ensures)

pub bounds-partners-y-in-loop-i : goal.bounds-partners-y-in-loop-i
bounds-partners-y-in-loop-i c = omega (arith, pair-within c.requires c.loop-i-test.true c.lower-x.ensures c.higher-y.ensures)

pub offset_bounds-partners-x : goal.offset_bounds-partners-x
offset_bounds-partners-x c = omega (arith, pair-within c.requires c.loop-i-test.true c.lower-x.ensures c.higher-y.ensures)

pub bounds-partners-x : goal.bounds-partners-x
bounds-partners-x c = omega (arith, pair-within c.requires c.loop-i-test.true c.lower-x.ensures c.higher-y.ensures)

pub with-requires-in-loop-i : goal.with-requires-in-loop-i
with-requires-in-loop-i c = omega (arith, pair-within c.requires c.loop-i-test.true c.lower-x.ensures c.higher-y.ensures)

pub offset_bounds-partners-x-in-loop-i : goal.offset_bounds-partners-x-in-loop-i
offset_bounds-partners-x-in-loop-i c = omega (arith, pair-within c.requires c.loop-i-test.true c.lower-x.ensures c.higher-y.ensures)

pub bounds-partners-x-in-loop-i : goal.bounds-partners-x-in-loop-i
bounds-partners-x-in-loop-i c = omega (arith, pair-within c.requires c.loop-i-test.true c.lower-x.ensures c.higher-y.ensures)

pub loop-i-preserved : goal.loop-i-preserved
loop-i-preserved c =
    let w = c.args.table.now in
    let h = c.loop-i in
    let x = c.lower-x in
    let y = c.higher-y in
    let r = c.with in
    let s = c.with-in-loop-i in
    let l = pair-within c.requires c.loop-i-test.true x.ensures y.ensures in
    let one = set h.partners y.result r.result in
    let both = set one x.result s.result in (
      length-set one x.result s.result ∙ (length-set h.partners y.result r.result ∙ h.invariant.0),
      subst (λ (qs : List Pair). ArePartners qs both) (sym (rows_more (pair_in w) c.args.from h.i (omega arith)))
          (partners-more (pair_stretch_in w c.args.from h.i) (pair_in w h.i) x.ensures y.ensures h.partners
          h.invariant.1 (omega (arith, l, h.invariant.0)) (omega (arith, l, h.invariant.0)) r.result s.result
          r.ensures s.ensures),
    )
