-- Without pairs the first look tells (`choice-bad`), and with them both do (`equal-tells`).
use Rattle.std.proofs.Common.{sym, ◌∙◌, arith}
use Rattle.task.proofs.TableReads.{counts-inside}
use Rattle.task.proofs.ChoiceSteps.{before-end, choice-bad, equal-tells}
use Rattle.task.proofs.steps.first_bad.Goals as goal

pub word-pairs-requires : goal.word-pairs-requires
word-pairs-requires c = omega (arith, counts-inside _ c.requires)

pub returns-then-pairs-eq0 : goal.returns-then-pairs-eq0
returns-then-pairs-eq0 c =
    choice-bad c.args.table.now c.args.steps.now _ _ c.begun_steps-begun.ensures
    (sym c.word-pairs.ensures.value ∙ c.if-pairs-eq0.true) c.bad_choice-choice.ensures

pub first_equal-requires-clause-whole : goal.first_equal-requires-clause-whole
first_equal-requires-clause-whole c =
    λ k l. (before-end c.args.table.now c.args.steps.now _ _ c.bad_choice-choice.ensures k (omega arith)).0

pub returns : goal.returns
returns c =
    c.or.ensures ∙
    equal-tells c.args.table.now c.args.steps.now _ _ _ c.begun_steps-begun.ensures c.bad_choice-choice.ensures
    (rw (← c.unwrap_or.ensures) c.first_equal.ensures)
