use Rattle.std.proofs.Common.{rules, tests}
use Rattle.words.proofs.Chains.{all_ran}
use Rattle.words.proofs.Loops.{all-mapped}
use Rattle.task.proofs.table.pairs.each_pair_fits.Goals as goal

pub returns : goal.returns
returns c = all_ran (all-mapped _ _ _ _) c.all.ensures.ran (λ x b q k. search (rules, tests))
