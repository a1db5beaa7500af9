-- The schema is stored, the objects are put behind it, and zeros behind them.
use Rattle.text.proofs.PlanSteps.{step-put}
use Rattle.text.proofs.plan.put_step.Goals as goal

pub returns : goal.returns
returns c =
    step-put c.args.steps.now c.args.at c.args.schema c.args.objects.now _ _ c.requires.step_size_in_bounds
    c.requires.schema_lt_word_bound.1 c.put_words.ensures c.clear.ensures
