use Rattle.std.proofs.Common.{get_or, eqb}
use Rattle.words.specs.Words.{zeros_at}
use Rattle.words.proofs.BitSets.{or-zero}
use Rattle.words.proofs.Ranges.{all-joins, all-joined}
use Rattle.words.proofs.runs.zeros.Goals as goal

pub loop-i-preserved : goal.loop-i-preserved
unfolding zeros_at
loop-i-preserved c =
    all-joins (λ k. eqb (get_or c.args.table.now k 0) 0) _ _ (eqb c.loop-i.joined 0) c.loop-i.invariant
    c.loop-i-test.true (or-zero c.loop-i.joined (get_or c.args.table.now c.loop-i.i 0))

pub returns : goal.returns
unfolding zeros_at
returns c =
    all-joined (λ k. eqb (get_or c.args.table.now k 0) 0) _ _ (eqb c.loop-i.joined 0) c.loop-i.invariant
    c.loop-i-test.false
