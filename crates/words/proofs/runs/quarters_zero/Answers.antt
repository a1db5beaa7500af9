use Rattle.std.proofs.Common.{eqb, ◌∙◌}
use Rattle.words.proofs.Ranges.{all-joins, all-joined}
use Rattle.words.proofs.Quarters.{FourZero, four-joined, quarters-zero}
use Rattle.words.proofs.runs.quarters_zero.Goals as goal

pub loop-k-preserved : goal.loop-k-preserved
loop-k-preserved c =
    all-joins (FourZero c.args.table.now c.args.from _ _ _) _ _ (eqb c.loop-k.joined 0) c.loop-k.invariant
    c.loop-k-test.true
    (four-joined c.loop-k.joined c.word_at.ensures c.word_at-in-loop-k.ensures c.word_at-in-loop-k-2.ensures
    c.word_at-in-loop-k-3.ensures)

pub returns : goal.returns
returns c =
    all-joined (FourZero c.args.table.now c.args.from _ _ _) _ _ (eqb c.loop-k.joined 0) c.loop-k.invariant
    c.loop-k-test.false ∙
    quarters-zero c.args.table.now c.args.from c.args.quarter
