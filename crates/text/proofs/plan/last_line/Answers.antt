-- A body that isn't 1 is refused with 3 (`not-one`), and 1 ends the plan with the steps read (`end-taken`). It is lent
-- no words, so whatever they are, they stay.
use Rattle.std.proofs.Common.{refl}
use Rattle.text.specs.Plan.{end_line, take_plan_line}
use Rattle.text.proofs.LineTurns.{not-one, turn-ends}
use Rattle.text.proofs.PlanLoop.{end-taken, end-wrong}
use Rattle.text.proofs.plan.last_line.Goals as goal

pub returns-in_default : goal.returns-in_default
returns-in_default c t xs w =
    (not-one end_line _ (take_plan_line t xs) c.in_default.ensures (end-wrong t xs), refl)

pub returns : goal.returns
returns c t xs w = (
  record {
    is = λ k next.
        turn-ends end_line _ (take_plan_line t xs) _ _ c.in-Some.ensures.is k next xs (end-taken t xs _ refl);
    line = c.in-Some.ensures.line;
  },
  refl,
)
