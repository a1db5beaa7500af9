use Rattle.std.proofs.Common.{rules, tests}
use Rattle.words.proofs.Chains.{all_ran}
use Rattle.words.proofs.Loops.{all-between}
use Rattle.words.proofs.runs.all_below.Goals as goal

pub returns : goal.returns
returns c = all_ran (all-between _ _ _ _) c.all.ensures.ran (λ x b q k. search (rules, tests))
