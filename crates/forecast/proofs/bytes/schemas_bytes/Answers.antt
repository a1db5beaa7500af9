use Prim.Native.Nat.{ℕ, ◌<◌}
use mathlib.Core.Path.{◌≡◌, sym, ◌∙◌, ap}
use native.Mathlib.Omega.{arith}
use lib.ListN.{length}
use Rattle.std.specs.declared.ops.Range.{Range}
use Rattle.std.specs.Iterator.Adapters.{map_source}
use Rattle.std.proofs.Common.{rules}
use Rattle.std.proofs.lemmas.Iterator.{serves_from_Range}
use Rattle.std.proofs.lemmas.Iterator.Consumers.{sum_by_from_yields_List, fits_by_from_yields_list}
use Rattle.words.specs.Lists.{up_to}
use Rattle.words.proofs.Sums.{total}
use Rattle.task.specs.Table.{task_of}
use Rattle.task.proofs.TableReads.{counts-inside}
use Rattle.task.proofs.TablesByIndex.{table-frame, schemas-word}
use Rattle.forecast.proofs.RangeSums.{counted_total, mapped_road}
use Rattle.forecast.proofs.SplitText.{total-within, parts_bytes, by-schema}
use Rattle.forecast.proofs.bytes.schemas_bytes.Goals as goal

pub word-requires : goal.word-requires
word-requires c = omega (arith, counts-inside c.args.table.now c.requires.accepted_kept.table)

-- each schema's bytes fit, since those of all do
pub sum-requires-clause-can : goal.sum-requires-clause-can
sum-requires-clause-can c =
    let w = c.args.table.now in
    let t = task_of w in
    let all = schemas-word w (table-frame w c.requires.accepted_kept.table) in
    let last : (map_source c.map.result).end ≡ c.word.result = ap (λ (r : Range ℕ). r.end) c.map.ensures.source in (
      tt,
      serves_from_Range (λ x q k. search rules)
          (λ x lo hi.
          let known : x < length t.schemas = omega (arith, all, c.word.ensures.value, last) in
          let small : parts_bytes t x < 18446744073709551616 =
          omega (arith, total-within (parts_bytes t) x (length t.schemas) known, by-schema t, c.requires.table_bound) in
          search rules),
    )

-- the schemas' bytes are all
pub sum-requires-clause-fits : goal.sum-requires-clause-fits
sum-requires-clause-fits c =
    let w = c.args.table.now in
    let t = task_of w in
    let n = c.word.result in
    let all = c.word.ensures.value ∙ sym (schemas-word w (table-frame w c.requires.accepted_kept.table)) in
    let whole = ap (λ (k : ℕ). total (parts_bytes t) (up_to k)) all ∙ sym (by-schema t) in
    fits_by_from_yields_list (parts_bytes t) _ c.map.result _
    (mapped_road (parts_bytes t) n c.map.ensures.source c.map.ensures.closure (λ x r q k. search rules))
    (omega (arith, counted_total (parts_bytes t) n, whole, c.requires.table_bound))

pub returns : goal.returns
returns c =
    let w = c.args.table.now in
    let t = task_of w in
    let n = c.word.result in
    let all = c.word.ensures.value ∙ sym (schemas-word w (table-frame w c.requires.accepted_kept.table)) in
    sum_by_from_yields_List (parts_bytes t) _ c.map.result c.sum.result c.sum.ensures.ran
    (mapped_road (parts_bytes t) n c.map.ensures.source c.map.ensures.closure (λ x r q k. search rules)) ∙
    counted_total (parts_bytes t) n ∙ ap (λ (k : ℕ). total (parts_bytes t) (up_to k)) all ∙ sym (by-schema t)
