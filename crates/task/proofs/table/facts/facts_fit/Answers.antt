-- Ground atoms first, whose predicates are then known.
use Prim.Native.Nat.{◌-◌}
use mathlib.Core.Path.{sym, ◌∙◌}
use native.Mathlib.Omega.{arith}
use Rattle.task.specs.WordTests.{fact_words_fit}
use Rattle.words.proofs.Ranges.{all_from}
use Rattle.task.proofs.AtomWords.{fact-known}
use Rattle.task.proofs.table.facts.facts_fit.Goals as goal

pub facts_ascend-requires-clause-known_in : goal.facts_ascend-requires-clause-known_in
facts_ascend-requires-clause-known_in c =
    let given = c.args in
    let w = given.table.now in λ i a b.
    fact-known w given.wanted i
    (all_from (fact_words_fit w given.wanted) given.first (given.end - given.first)
    (sym c.each_fact_fits.ensures ∙ c.if-each_fact_fits.true) i a (omega arith))
