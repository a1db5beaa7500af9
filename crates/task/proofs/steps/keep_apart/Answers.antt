use Rattle.std.proofs.Common.{refl, rules, tests}
use Rattle.words.proofs.Chains.{all_ran}
use Rattle.words.proofs.Loops.{all-up-to}
use Rattle.task.proofs.steps.keep_apart.Goals as goal

pub returns : goal.returns
returns c = all_ran (all-up-to refl) c.all.ensures.ran (λ x b q k. search (rules, tests))
