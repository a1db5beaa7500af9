use Rattle.std.proofs.Common.{◌≡◌, ℕ, ap, ◌∙◌, arith, rules, tests, not}
use Rattle.std.proofs.lemmas.Iterator.{serves_from_Range}
use Rattle.task.specs.Run.{schema_at}
use Rattle.task.specs.Table.{task_of}
use Rattle.task.proofs.TableReads.{counts-inside}
use Rattle.words.specs.Lists.{first, up_to}
use Rattle.words.proofs.Chains.{find_up_to}
use Rattle.tokens.specs.Split.{pairs_kept}
use Rattle.tokens.proofs.KeptSchema.{schemas-told, one-kept}
use Rattle.tokens.proofs.pairs.first_parted.Goals as goal

pub word-schemas-requires : goal.word-schemas-requires
word-schemas-requires c = omega (arith, counts-inside c.args.table.now c.requires.table_value)

pub find-requires-clause-callable : goal.find-requires-clause-callable
find-requires-clause-callable c =
    serves_from_Range (λ x q r. search (rules, tests))
    (λ x a b.
    let k = one-kept c.args.table.now c.requires.table_value c.word-schemas.ensures.value c.requires.parts_kept b in
    search (rules, tests))

pub returns : goal.returns
returns c =
    let t = task_of c.args.table.now in
    let n = schemas-told c.args.table.now c.requires.table_value c.word-schemas.ensures.value in
    let f = find_up_to {p = λ s. not (pairs_kept (schema_at t s))} _ c.find.ensures.ran
    (λ x b q k. search (rules, tests)) in
    let m : c.map.result ≡ c.find.result = search (rules, tests) in
    m ∙ (f ∙ ap (λ (k : ℕ). first (λ s. not (pairs_kept (schema_at t s))) (up_to k)) n)
