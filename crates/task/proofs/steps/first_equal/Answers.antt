use Rattle.std.proofs.Common.{◌≡◌, true, false, rules, tests}
use Rattle.std.proofs.lemmas.Iterator.{first_from_Range}
use Rattle.task.specs.StepTests.{rows_apart}
use Rattle.task.proofs.TableReads.{counts-inside}
use Rattle.task.proofs.ChoiceSteps.{equal-found}
use Rattle.task.proofs.steps.first_equal.Goals as goal

pub pairs_base-base-requires : goal.pairs_base-base-requires
pairs_base-base-requires c = counts-inside _ c.requires.table_value

pub returns : goal.returns
returns c =
    let w = c.args.table.now in
    let steps = c.args.steps.now in
    equal-found w steps c.args.end c.find.result
    (first_from_Range _ _ _ _ (λ i. rows_apart w steps i ≡ false) (λ i. rows_apart w steps i ≡ true) c.find.ensures.ran
    (λ x q k. search (rules, tests)) (λ x q k. search (rules, tests)))
