-- The digits of four words at most make no sum wrap.
use Rattle.std.proofs.Common.{ℕ, ◌+◌, List, length, get_or, arith, rules, refl, sym, ◌∙◌, ap}
use borrow.Author.Tests.{tests}
use Rattle.words.specs.Words.{words_at}
use Rattle.words.proofs.Chains.{sum_fits, sum_ran}
use Rattle.words.proofs.Words.{length-words_at}
use Rattle.text.specs.Lines.{digits}
use Rattle.defines.proofs.MarkedNames.{words-pieces, digits-few}
use Rattle.defines.proofs.PieceSums.{pieces-sum}
use Rattle.defines.proofs.names.words_size.Goals as goal

-- the digits of word k of those from a place on
abbrev word_digits : List ℕ → ℕ → ℕ → List ℕ
word_digits w from k = digits (get_or w (from + k) 0)

pub sum-requires-clause-fits : goal.sum-requires-clause-fits
sum-requires-clause-fits c =
    let w = c.args.table.now in
    let from = c.args.from in
    let n = c.args.n in
    let e = pieces-sum (word_digits w from) n refl in
    let p = ap length (words-pieces digits w from n) in
    let d = digits-few (words_at w from n) in
    let l = length-words_at w from n in
    let few = c.requires.n_le_most_arity in
    sum_fits (λ k. length (word_digits w from k)) c.map.ensures.source c.map.ensures.closure
    (λ x b q k. search (rules, tests)) (omega arith)

pub returns : goal.returns
returns c =
    let w = c.args.table.now in
    let from = c.args.from in
    let n = c.args.n in
    sum_ran (λ k. length (word_digits w from k)) c.map.ensures.source c.map.ensures.closure c.sum.ensures.ran
    (λ x b q k. search (rules, tests)) ∙
    (pieces-sum (word_digits w from) n refl ∙ sym (ap length (words-pieces digits w from n)))
