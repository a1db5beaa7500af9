use Rattle.std.proofs.Common.{arith, rules, tests}
use Rattle.std.proofs.lemmas.Iterator.{serves_from_Range}
use Rattle.words.proofs.Chains.{all_ran}
use Rattle.tokens.proofs.KeptSchema.{schema-small, kept-pair-stretch}
use Rattle.tokens.proofs.KeptPairs.{each-kept}
use Rattle.tokens.proofs.pairs.pairs_kept.Goals as goal

pub pair_of-requires : goal.pair_of-requires
pair_of-requires c = omega (arith, schema-small c.requires)

pub pair_end_of-requires : goal.pair_end_of-requires
pair_end_of-requires c = schema-small c.requires

pub all-requires-clause-callable : goal.all-requires-clause-callable
all-requires-clause-callable c =
    let p = kept-pair-stretch c.requires c.pair_of.ensures c.pair_end_of.ensures in
    let k = p.known in
    serves_from_Range (λ x q r. search (rules, tests)) (λ x a b. search (rules, tests))

pub returns : goal.returns
returns c =
    all_ran (each-kept c.requires c.pair_of.ensures c.pair_end_of.ensures) c.all.ensures.ran
    (λ x b q k. search (rules, tests))
