-- The six tests are those of the definition, in its order.
use Rattle.std.proofs.Common.{arith}
use Rattle.std.proofs.lemmas.Grind.{common_steps}
use Rattle.words.specs.Lists.{every}
use Rattle.tokens.specs.Acceptance.{are_within}
use Rattle.tokens.proofs.measure.are_within.Goals as goal

pub returns-then-goal-le-MOST_GOAL : goal.returns-then-goal-le-MOST_GOAL
unfolding are_within every
returns-then-goal-le-MOST_GOAL c = grind (arith, common_steps)

pub returns-else-goal-le-MOST_GOAL : goal.returns-else-goal-le-MOST_GOAL
unfolding are_within every
returns-else-goal-le-MOST_GOAL c = grind (arith, common_steps)
