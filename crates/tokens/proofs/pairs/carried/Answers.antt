use Rattle.std.proofs.Common.{◌∙◌, rules, tests}
use Rattle.task.specs.Table.{pair_in}
use Rattle.words.proofs.Chains.{count_ran}
use Rattle.tokens.specs.Writing.{carries}
use Rattle.tokens.proofs.SplitSizes.{taken-rows}
use Rattle.tokens.proofs.pairs.carried.Goals as goal

pub returns-clause-value : goal.returns-clause-value
returns-clause-value c =
    let a = c.args in
    let w = a.table.now in
    count_ran (λ i. carries a.own (pair_in w i)) c.filter.ensures.source c.filter.ensures.closure c.count.ensures.ran
    (λ x b q k. search (rules, tests)) ∙
    taken-rows (pair_in w) (carries a.own) a.from a.to
