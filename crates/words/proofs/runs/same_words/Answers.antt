use Rattle.std.proofs.Common.{rules, tests}
use Rattle.words.proofs.Comparing.{same_start}
use Rattle.words.proofs.Chains.{all_ran}
use Rattle.words.proofs.runs.same_words.Goals as goal

pub returns : goal.returns
returns c = all_ran (same_start _ _ _ _) c.all.ensures.ran (λ x b q k. search (rules, tests))
