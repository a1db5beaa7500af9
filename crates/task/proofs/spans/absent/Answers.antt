use Rattle.std.proofs.Common.{rules, tests}
use Rattle.words.proofs.Chains.{all_ran}
use mathlib.Core.Bool.{not}
use lib.Dec.{eqb}
use Rattle.words.proofs.Loops.{all-between}
use Rattle.task.proofs.spans.absent.Goals as goal

pub returns : goal.returns
returns c = all_ran (all-between (λ a. not (eqb a c.args.number)) _ _ _) c.all.ensures.ran (λ x b q k. search (rules, tests))
