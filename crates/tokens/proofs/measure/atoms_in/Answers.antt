use Rattle.std.proofs.Common.{eqb, ap, length, ◌∙◌, rules, tests}
use Rattle.task.specs.Table.{atom_in}
use Rattle.words.proofs.Chains.{count_ran}
use Rattle.words.proofs.Lists.{filter_same}
use Rattle.words.proofs.Sums.{eqb-turn}
use Rattle.tokens.proofs.SplitSizes.{taken-rows}
use Rattle.tokens.proofs.measure.atoms_in.Goals as goal

pub returns-clause-value : goal.returns-clause-value
returns-clause-value c =
    let a = c.args in
    let w = a.table.now in
    count_ran (λ i. eqb (atom_in w i).part a.part.0) c.filter.ensures.source c.filter.ensures.closure
    c.count.ensures.ran
    (λ x b q k. search (rules, tests)) ∙
    (ap length (filter_same _ _ _ (λ i k. eqb-turn (atom_in w i).part a.part.0)) ∙
    taken-rows (atom_in w) (λ r. eqb a.part.0 r.part) a.from a.to)
