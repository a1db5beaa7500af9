use Rattle.std.proofs.Common.{rules, tests}
use Rattle.words.proofs.Chains.{all_ran}
use Rattle.words.proofs.Loops.{all_start}
use Rattle.task.proofs.table.schemas.atoms_fit.Goals as goal

pub returns : goal.returns
returns c = all_ran (all_start) c.all.ensures.ran (λ x b q k. search (rules, tests))
