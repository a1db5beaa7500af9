-- What is cleared are 13 words for each of 100 steps, which `plan_words` is (`plan_words-is`), and that many are lent.
use Rattle.std.proofs.Common.{arith, sym}
use Rattle.text.proofs.PlanSteps.{plan_words-is}
use Rattle.text.proofs.WroteWords.{wrote-all}
use Rattle.text.proofs.plan.refused.Goals as goal

pub clear-requires : goal.clear-requires
clear-requires c = omega (arith, plan_words-is, c.requires)

pub returns-clause-wrote : goal.returns-clause-wrote
returns-clause-wrote c = wrote-all (sym plan_words-is) c.clear.ensures
