use Prim.Native.Nat.{ℕ, ◌+◌, ◌<◌, ◌^◌}
use mathlib.Core.Path.{◌≡◌, sym, ◌∙◌, ap}
use native.Mathlib.Omega.{arith}
use lib.ListN.{get_or}
use Rattle.std.specs.declared.ops.Range.{Range}
use Rattle.std.specs.Iterator.Adapters.{map_source}
use Rattle.std.proofs.Common.{rules}
use Rattle.std.proofs.lemmas.Iterator.{serves_from_Range}
use Rattle.std.proofs.lemmas.Iterator.Consumers.{fold_from_yields_List}
use Rattle.words.specs.Lists.{up_to}
use Rattle.words.proofs.Sums.{total}
use Rattle.task.specs.Limits.{most_parts}
use Rattle.task.specs.Table.{task_of}
use Rattle.tokens.specs.Kept.{kept_count}
use Rattle.tokens.specs.Split.{orders, split_schema}
use Rattle.tokens.specs.Writing.{set_size}
use Rattle.tokens.proofs.KeptSchema.{schema-small, count_small, counted}
use Rattle.forecast.specs.Forecast.{instance_limit}
use Rattle.forecast.specs.Capped.{capped}
use Rattle.forecast.proofs.Capped.{added_capped}
use Rattle.forecast.proofs.GroundInstances.{by_part, set-params, set-few}
use Rattle.forecast.proofs.RangeSums.{mapped_road}
use Rattle.forecast.proofs.instances.parts_instances.Goals as goal

pub count_of-requires : goal.count_of-requires
count_of-requires c = schema-small c.requires.schema_kept

-- a part has few parameters
pub fold-requires-clause-can : goal.fold-requires-clause-can
fold-requires-clause-can c =
    let K = c.requires.schema_kept in
    let small = schema-small K in
    let last : (map_source c.map.result).end ≡ c.count_of.result = ap (λ (r : Range ℕ). r.end) c.map.ensures.source in (
      tt,
      serves_from_Range (λ x q k. search rules)
          (λ x lo hi.
          let known : x < kept_count c.args.kept.now c.args.s = omega (arith, c.count_of.ensures, last) in
          let within : x < most_parts = omega (arith, known, count_small K) in
          let few = set-few K x known in
          search rules),
    )

pub returns : goal.returns
returns c =
    let K = c.requires.schema_kept in
    let t = task_of c.args.table.now in
    let s = c.args.s in
    let n = c.count_of.result in
    let all = c.count_of.ensures ∙ counted K in
    let power = λ (j : ℕ). get_or c.args.powers.now (set_size c.args.kept.now s j) 0 in
    let whole = λ (j : ℕ). t.objects ^ (split_schema t s (orders t s) j).params in
    let kept : (j : ℕ) → j < n → power j ≡ capped instance_limit (whole j) = λ j l.
    let known : j < kept_count c.args.kept.now s = omega (arith, c.count_of.ensures) in
    c.requires.are_powers.power (set_size c.args.kept.now s j) (set-few K j known) ∙
    ap (λ (k : ℕ). capped instance_limit (t.objects ^ k)) (set-params K j known) in
    fold_from_yields_List _ (λ x y. capped instance_limit (x + y)) 0 c.fold.result c.fold.ensures.ran
    (mapped_road power n c.map.ensures.source c.map.ensures.closure (λ x r q k. search rules))
    (λ a x b q k. search rules) ∙
    added_capped instance_limit whole power n kept ∙
    ap (λ (k : ℕ). capped instance_limit (total whole (up_to k))) all ∙ ap (capped instance_limit) (sym (by_part t s))
