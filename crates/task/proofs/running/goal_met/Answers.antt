use Rattle.std.proofs.Common.{arith, rules, tests}
use Rattle.words.proofs.Chains.{all_ran}
use Rattle.task.proofs.TableReads.{counts-inside}
use Rattle.task.proofs.GoalLaws.{goal-start}
use Rattle.task.proofs.running.goal_met.Goals as goal

pub word-requires : goal.word-requires
word-requires c = omega (arith, counts-inside _ c.requires.table_value)

pub word-requires-2 : goal.word-requires-2
word-requires-2 c = omega (arith, counts-inside _ c.requires.table_value)

pub word-requires-3 : goal.word-requires-3
word-requires-3 c = omega (arith, counts-inside _ c.requires.table_value)

pub returns : goal.returns
returns c =
    let e = c.word.ensures.value in
    let e₂ = c.word-2.ensures.value in
    let e₃ = c.word-3.ensures.value in
    all_ran (goal-start _ _ _ _ (omega arith) (omega arith)) c.all.ensures.ran (λ x b q k. search (rules, tests))
