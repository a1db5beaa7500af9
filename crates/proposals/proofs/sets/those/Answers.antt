-- `proposals::sets::those` meets its contract: each turn tests the lowest number of the rest and takes it out.
use Rattle.words.proofs.SetLoops.{lowest-fewer}
use Rattle.proposals.proofs.Those.{sifted-none, sifted-passes, sifted-fails, sifted-all}
use Rattle.proposals.proofs.sets.those.Goals as goal

pub loop-rest-init : goal.loop-rest-init
loop-rest-init g c = sifted-none _ c.args.set

pub passes-requires : goal.passes-requires
passes-requires g c =
    let l = c.lowest-p.ensures in
    c.requires _ l.below (c.loop-rest.invariant.left _ l.is-in)

pub loop-rest-smaller-then-passes : goal.loop-rest-smaller-then-passes
loop-rest-smaller-then-passes g c =
    let l = c.lowest-p.ensures in
    lowest-fewer l _ (c.without_lowest-rest.ensures _ l)

pub loop-rest-preserved-then-passes : goal.loop-rest-preserved-then-passes
loop-rest-preserved-then-passes g c =
    let l = c.lowest-p.ensures in
    sifted-passes c.loop-rest.invariant l _ (c.without_lowest-rest.ensures _ l) c.passes.ensures c.if-passes.true
    c.with-kept.ensures

pub loop-rest-smaller : goal.loop-rest-smaller
loop-rest-smaller g c =
    let l = c.lowest-p.ensures in
    lowest-fewer l _ (c.without_lowest-rest.ensures _ l)

pub loop-rest-preserved : goal.loop-rest-preserved
loop-rest-preserved g c =
    let l = c.lowest-p.ensures in
    sifted-fails c.loop-rest.invariant l _ (c.without_lowest-rest.ensures _ l) c.passes.ensures c.if-passes.false

pub returns-clause-within : goal.returns-clause-within
returns-clause-within g c = c.loop-rest.invariant.within

pub returns-clause-tested : goal.returns-clause-tested
returns-clause-tested g c = sifted-all c.loop-rest.invariant c.loop-rest-test.false
