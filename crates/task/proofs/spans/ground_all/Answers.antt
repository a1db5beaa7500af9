use mathlib.Core.Path.{◌∙◌}
use native.Mathlib.Omega.{arith}
use lib.ListN.{length-set}
use Rattle.task.proofs.GroundWords.{span-atom, numbers_more}
use Rattle.task.proofs.spans.ground_all.Goals as goal

pub loop-k-init : goal.loop-k-init
loop-k-init c =
    record { to = c.requires.span_of.ordered; many = c.requires.start_bound.1; stand = λ k l. absurd (omega arith) }

pub ground-requires : goal.ground-requires
ground-requires c = span-atom _ _ _ _ _ c.requires.span_of _ c.loop-k.auto.k c.loop-k-test.true

pub loop-k-preserved : goal.loop-k-preserved
loop-k-preserved c =
    let x = c.args in
    let a = c.loop-k.auto.k in
    let z = c.loop-k.invariant.many in
    let l = c.loop-k-test.true in
    let few = c.requires.start_bound.0 in
    record {
      to = omega arith;
      many = length-set _ _ _ ∙ z;
      stand = numbers_more x.table.now x.steps.now x.i x.start c.loop-k.k c.loop-k.numbers c.ground.result a (omega arith)
          c.ground.ensures c.loop-k.invariant.stand;
    }

pub returns : goal.returns
returns c =
    let e = c.loop-k-test.false in
    (c.loop-k.invariant.many, λ j l. c.loop-k.invariant.stand j (omega arith))
