-- The two runs test all words.
use Rattle.task.proofs.StepLimits.{two_runs}
use Rattle.task.proofs.steps.are_within.Goals as goal

pub returns : goal.returns
returns c = λ objects e. two_runs objects _ _ _ _ c.requires.1 e _ _ c.beyond-front.ensures c.beyond-back.ensures
