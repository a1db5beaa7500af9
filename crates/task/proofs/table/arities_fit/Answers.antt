use Rattle.std.proofs.Common.{rules, tests}
use Rattle.words.proofs.Chains.{all_ran}
use mathlib.Core.Path.{sym}
use Rattle.words.proofs.Loops.{all-up-to}
use Rattle.task.specs.WordTests.{arities_fit}
use Rattle.task.proofs.table.arities_fit.Goals as goal

pub returns : goal.returns
unfolding arities_fit
returns c = all_ran (all-up-to (sym c.word-predicates.ensures.value)) c.all.ensures.ran (λ x b q k. search (rules, tests))
