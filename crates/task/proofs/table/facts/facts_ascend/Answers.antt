use Rattle.std.proofs.Common.{rules, tests}
use Rattle.words.proofs.Chains.{all_ran}
use Rattle.task.proofs.AtomRuns.{ascend-start}
use Rattle.task.proofs.table.facts.facts_ascend.Goals as goal

pub returns : goal.returns
returns c = all_ran (ascend-start _ _ _) c.all.ensures.ran (λ x b q k. search (rules, tests))
