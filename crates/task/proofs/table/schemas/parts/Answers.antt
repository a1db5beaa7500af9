use native.Mathlib.Omega.{arith}
use lib.Dec.{eqb}
use Rattle.task.specs.Table.{atom_in}
use Rattle.words.proofs.Loops.{set-mapped, set_more, set-ends, with_number}
use Rattle.task.proofs.SchemaWords.{part-below}
use Rattle.task.proofs.table.schemas.parts.Goals as goal

pub loop-i-init : goal.loop-i-init
loop-i-init c = set-mapped (λ p a. eqb p a.part) (atom_in c.args.table.now) c.args.first c.args.end

pub with-set-requires : goal.with-set-requires
with-set-requires c =
    let l = part-below c.args.table.now c.loop-i.i c.args.first c.args.end c.loop-i.auto.i c.loop-i-test.true in
    omega (arith, c.part.ensures.value)

pub loop-i-preserved : goal.loop-i-preserved
loop-i-preserved c =
    set_more c.loop-i.invariant c.loop-i-test.true (with_number _ _ _ c.with-set.ensures c.part.ensures.value)

pub returns : goal.returns
returns c = set-ends c.loop-i.invariant c.loop-i-test.false
