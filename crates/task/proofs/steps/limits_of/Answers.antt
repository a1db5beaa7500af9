-- Twelve times the count of objects, put over the front of 24 ones.
use Rattle.std.proofs.Common.{rules}
use Rattle.task.specs.StepTests.{limits_for}
use Rattle.task.proofs.steps.limits_of.Goals as goal

pub returns : goal.returns
unfolding limits_for
returns c = search rules
