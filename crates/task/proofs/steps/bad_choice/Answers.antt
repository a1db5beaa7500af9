-- A step that is none stops the look (`choice-none`), and one that is joins those before it (`choice-known`).
use Rattle.std.proofs.Common.{◌≡◌, false, rules, tests}
use Rattle.std.proofs.lemmas.Iterator.{first_from_Range}
use Rattle.task.specs.Table.{task_of}
use Rattle.task.specs.Run.{is_step_at}
use Rattle.task.specs.Choices.{ChoiceAt}
use Rattle.task.proofs.ChoiceSteps.{choice-none, choice-known, choice-found}
use Rattle.task.proofs.steps.bad_choice.Goals as goal

pub returns : goal.returns
returns c =
    let w = c.args.table.now in
    let steps = c.args.steps.now in
    choice-found w steps c.args.begun c.find.result
    (first_from_Range _ _ _ _ (λ i. is_step_at (task_of w) steps i ≡ false) (ChoiceAt w steps) c.find.ensures.ran
    (λ x q k. search (rules, tests, choice-none))
    (λ x q k. search (rules, tests, choice-known)))
