use Prim.Native.Nat.{ℕ, ◌<◌}
use mathlib.Core.Path.{◌≡◌, sym, ◌∙◌, ap}
use native.Mathlib.Omega.{arith}
use lib.ListN.{length}
use Rattle.std.specs.declared.ops.Range.{Range}
use Rattle.std.specs.Iterator.Adapters.{map_source}
use Rattle.std.proofs.Common.{rules}
use Rattle.std.proofs.lemmas.Iterator.{serves_from_Range}
use Rattle.std.proofs.lemmas.Iterator.Consumers.{sum_by_from_yields_List, fits_by_from_yields_list}
use Rattle.words.specs.Lists.{up_to}
use Rattle.words.proofs.Sums.{total}
use Rattle.task.specs.Table.{task_of}
use Rattle.tokens.specs.Split.{orders}
use Rattle.tokens.proofs.KeptSchema.{schema-small, counted}
use Rattle.tokens.proofs.Splitting.{schema-kept}
use Rattle.forecast.proofs.RangeSums.{counted_total, mapped_road}
use Rattle.forecast.proofs.SplitText.{total-within, part_bytes, by_part}
use Rattle.forecast.proofs.bytes.parts_bytes.Goals as goal

pub count_of-requires : goal.count_of-requires
count_of-requires c = schema-small (schema-kept c.requires.accepted_kept c.args.s c.requires.s_in_bounds)

-- each part's bytes fit, since those of all do
pub sum-requires-clause-can : goal.sum-requires-clause-can
sum-requires-clause-can c =
    let t = task_of c.args.table.now in
    let s = c.args.s in
    let all = counted (schema-kept c.requires.accepted_kept s c.requires.s_in_bounds) in
    let last : (map_source c.map.result).end ≡ c.count_of.result = ap (λ (r : Range ℕ). r.end) c.map.ensures.source in (
      tt,
      serves_from_Range (λ x q k. search rules)
          (λ x lo hi.
          let known : x < length (orders t s) = omega (arith, all, c.count_of.ensures, last) in
          let small : part_bytes t s x < 18446744073709551616 =
          omega (arith, total-within (part_bytes t s) x (length (orders t s)) known, by_part t s, c.requires.s_bound) in
          search rules),
    )

-- the parts' bytes are those of the schema
pub sum-requires-clause-fits : goal.sum-requires-clause-fits
sum-requires-clause-fits c =
    let t = task_of c.args.table.now in
    let s = c.args.s in
    let n = c.count_of.result in
    let all = c.count_of.ensures ∙ counted (schema-kept c.requires.accepted_kept s c.requires.s_in_bounds) in
    let whole = ap (λ (k : ℕ). total (part_bytes t s) (up_to k)) all ∙ sym (by_part t s) in
    fits_by_from_yields_list (part_bytes t s) _ c.map.result _
    (mapped_road (part_bytes t s) n c.map.ensures.source c.map.ensures.closure (λ x r q k. search rules))
    (omega (arith, counted_total (part_bytes t s) n, whole, c.requires.s_bound))

pub returns : goal.returns
returns c =
    let t = task_of c.args.table.now in
    let s = c.args.s in
    let n = c.count_of.result in
    let all = c.count_of.ensures ∙ counted (schema-kept c.requires.accepted_kept s c.requires.s_in_bounds) in
    sum_by_from_yields_List (part_bytes t s) _ c.map.result c.sum.result c.sum.ensures.ran
    (mapped_road (part_bytes t s) n c.map.ensures.source c.map.ensures.closure (λ x r q k. search rules)) ∙
    counted_total (part_bytes t s) n ∙ ap (λ (k : ℕ). total (part_bytes t s) (up_to k)) all ∙ sym (by_part t s)
