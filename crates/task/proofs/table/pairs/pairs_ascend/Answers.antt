use Rattle.std.proofs.Common.{rules, tests}
use Rattle.words.proofs.Chains.{all_ran}
use Rattle.task.proofs.PairOrder.{pairs_start}
use Rattle.task.proofs.table.pairs.pairs_ascend.Goals as goal

pub returns : goal.returns
returns c = all_ran (pairs_start _ _ _) c.all.ensures.ran (λ x b q k. search (rules, tests))
