use Rattle.std.proofs.Common.{rules, tests}
use Rattle.std.proofs.lemmas.Iterator.{serves_from_Range}
use Rattle.task.specs.Table.{pair_in}
use Rattle.words.proofs.Chains.{any_ran}
use Rattle.tokens.proofs.KeptSchema.{schema-small, count_small}
use Rattle.tokens.proofs.KeptPairs.{some-carries}
use Rattle.tokens.proofs.pairs.some_part_carries.Goals as goal

pub count_of-requires : goal.count_of-requires
count_of-requires c = schema-small c.requires.schema_kept

pub any-requires-clause-callable : goal.any-requires-clause-callable
any-requires-clause-callable c =
    let l = schema-small c.requires.schema_kept in
    let n = count_small c.requires.schema_kept in
    serves_from_Range (λ x q r. search (rules, tests)) (λ x a b. search (rules, tests))

pub returns : goal.returns
returns c =
    any_ran (some-carries c.requires.schema_kept (pair_in c.args.table.now c.args.i) c.count_of.ensures)
    c.any.ensures.ran
    (λ x b q k. search (rules, tests))
