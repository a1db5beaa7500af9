-- A line that is refused, which has the words cleared, and one that ends reading give the answer; another adds a step.
use Rattle.task.specs.declared.refusals.Reason.TheVariants.{OutOfForm}
use Rattle.std.proofs.Common.{ℕ, [], ◌∷◌, ap, sym, ◌∙◌}
use Rattle.task.specs.Answers.{result}
use Rattle.task.proofs.Answers.{both}
use Rattle.task.proofs.Tables.{of-table}
use Rattle.text.proofs.PlanLoop.{plan-begins, plan-refuses, plan-goes, plan-left-over, plan-whole, plan-stored}
use Rattle.text.proofs.PlanLoop.{plan-cleared}
use Rattle.text.proofs.PlanAnswers.{read-outcome, told-turned-back, refused-outcome}
use Rattle.text.proofs.plan.read_plan.Goals as goal

pub loop-reason-init : goal.loop-reason-init
loop-reason-init c = rw c.start-cursor.ensures (plan-begins _ _ _)

pub returns-in-Err-clause-told : goal.returns-in-Err-clause-told
returns-in-Err-clause-told c =
    let s = c.loop-reason.invariant in
    told-turned-back _ _ _ _ c.in-Err.reason
    (plan-refuses _ _ _ s _ (c.in-Err.ensures s.steps s.count).0) c.refused.ensures.value

pub returns-in-Err-clause-words : goal.returns-in-Err-clause-words
returns-in-Err-clause-words c =
    let s = c.loop-reason.invariant in
    let (refuses, same) = c.in-Err.ensures s.steps s.count in
    plan-cleared _ _ _ s c.requires.plan_words_in_bounds same c.refused.ensures.wrote ∙
    (both (refused-outcome _ _ _ _ _ (plan-refuses _ _ _ s _ refuses))).1

pub returns-then-next-text-clause-told : goal.returns-then-next-text-clause-told
returns-then-next-text-clause-told c =
    let s = c.loop-reason.invariant in
    let turned = rw c.in-Ok-Finish.field-0-is at c.in-Ok-Finish.ensures in
    let left = rw c.in-Ok-Finish.field-0-is at c.if-next-text.true in
    let value = rw c.in-Ok-Finish.field-0-is at c.refused-then-next-text.ensures.value in
    told-turned-back _ _ _ _ OutOfForm (plan-left-over _ _ _ s (turned s.steps s.count).0 left) value

pub returns-then-next-text-clause-words : goal.returns-then-next-text-clause-words
returns-then-next-text-clause-words c =
    let s = c.loop-reason.invariant in
    let turned = rw c.in-Ok-Finish.field-0-is at c.in-Ok-Finish.ensures in
    let left = rw c.in-Ok-Finish.field-0-is at c.if-next-text.true in
    let (ends, same) = turned s.steps s.count in
    plan-cleared _ _ _ s c.requires.plan_words_in_bounds same c.refused-then-next-text.ensures.wrote ∙
    (both (refused-outcome _ _ _ _ _ (plan-left-over _ _ _ s ends left))).1

pub returns-in-Ok-Finish-clause-told : goal.returns-in-Ok-Finish-clause-told
returns-in-Ok-Finish-clause-told c =
    let s = c.loop-reason.invariant in
    let turned = rw c.in-Ok-Finish.field-0-is at c.in-Ok-Finish.ensures in
    let end = rw c.in-Ok-Finish.field-0-is at c.if-next-text.false in
    ap (λ (n : ℕ). result (n ∷ [])) (sym s.count) ∙
    (both (read-outcome _ _ _ _ (plan-whole _ _ _ s (turned s.steps s.count).0 end))).0

pub returns-in-Ok-Finish-clause-words : goal.returns-in-Ok-Finish-clause-words
returns-in-Ok-Finish-clause-words c =
    let s = c.loop-reason.invariant in
    let turned = rw c.in-Ok-Finish.field-0-is at c.in-Ok-Finish.ensures in
    let end = rw c.in-Ok-Finish.field-0-is at c.if-next-text.false in
    let (ends, same) = turned s.steps s.count in
    let well = (of-table c.args.table.now c.requires.table_value).0 in
    same ∙ (plan-stored _ _ _ s well c.requires.plan_words_in_bounds ∙
    (both (read-outcome _ _ _ _ (plan-whole _ _ _ s ends end))).1)

pub loop-reason-preserved : goal.loop-reason-preserved
loop-reason-preserved c =
    let s = c.loop-reason.invariant in
    let turned = rw c.in-Ok-GoOn.field-0-is at c.in-Ok-GoOn.ensures in
    let well = (of-table c.args.table.now c.requires.table_value).0 in
    rw c.in-Ok-GoOn.field-0-is (plan-goes _ _ _ s well (turned s.steps s.count))
