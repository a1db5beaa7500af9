use Prim.Native.Nat.{ℕ, ◌+◌, ◌<◌}
use mathlib.Core.Path.{◌≡◌, refl, sym, ◌∙◌, ap}
use native.Mathlib.Omega.{arith}
use lib.ListN.{length}
use Rattle.std.specs.declared.ops.Range.{Range}
use Rattle.std.specs.Iterator.Adapters.{map_source}
use Rattle.std.proofs.Common.{rules}
use Rattle.std.proofs.lemmas.Iterator.{serves_from_Range}
use Rattle.std.proofs.lemmas.Iterator.Consumers.{fold_from_yields_List}
use Rattle.words.specs.Lists.{up_to}
use Rattle.words.proofs.Sums.{total}
use Rattle.task.specs.Table.{task_of}
use Rattle.task.proofs.TableReads.{counts-inside}
use Rattle.task.proofs.TablesByIndex.{table-frame, schemas-word}
use Rattle.tokens.specs.Kept.{SchemaKept}
use Rattle.tokens.specs.Acceptance.{part_schemas}
use Rattle.forecast.specs.Forecast.{instance_limit, instances_of}
use Rattle.forecast.specs.Capped.{capped}
use Rattle.forecast.proofs.Capped.{added_capped}
use Rattle.forecast.proofs.GroundInstances.{by_split}
use Rattle.forecast.proofs.RangeSums.{mapped_road}
use Rattle.forecast.proofs.instances.instances_after.Goals as goal

pub word-requires : goal.word-requires
word-requires c = omega (arith, counts-inside c.args.table.now c.requires.accepted_parts.1.table)

-- each schema is as it is kept
pub fold-requires-clause-can : goal.fold-requires-clause-can
fold-requires-clause-can c =
    let w = c.args.table.now in
    let A = c.requires.accepted_parts.1 in
    let all = schemas-word w (table-frame w A.table) in
    let last : (map_source c.map.result).end ≡ c.word.result = ap (λ (r : Range ℕ). r.end) c.map.ensures.source in (
      tt,
      serves_from_Range (λ x q k. search rules)
          (λ x lo hi.
          let known : x < length (task_of w).schemas = omega (arith, all, c.word.ensures.value, last) in
          let kept : SchemaKept w x c.args.kept.now = record { table = A.table; known = known; all = A.parts } in
          search rules),
    )

pub returns : goal.returns
returns c =
    let w = c.args.table.now in
    let t = task_of w in
    let n = c.word.result in
    let all = c.word.ensures.value ∙ sym (schemas-word w (table-frame w c.requires.accepted_parts.1.table)) in
    let whole = λ (s : ℕ). instances_of t.objects (part_schemas t s) in
    let some = λ (s : ℕ). capped instance_limit (whole s) in
    fold_from_yields_List _ (λ x y. capped instance_limit (x + y)) 0 c.fold.result c.fold.ensures.ran
    (mapped_road some n c.map.ensures.source c.map.ensures.closure (λ x r q k. search rules))
    (λ a x b q k. search rules) ∙
    added_capped instance_limit whole some n (λ s l. refl) ∙
    ap (λ (k : ℕ). capped instance_limit (total whole (up_to k))) all ∙ ap (capped instance_limit) (sym (by_split t))
