use Prim.Native.Nat.{ℕ, ◌+◌, ◌≤◌, ◌<◌, ◌^◌}
use mathlib.Core.Path.{◌≡◌, sym, ◌∙◌, ap}
use native.Mathlib.Omega.{arith}
use lib.ListN.{length, get_or}
use Rattle.std.specs.declared.ops.Range.{Range}
use Rattle.std.specs.Iterator.Adapters.{map_source}
use Rattle.std.proofs.Common.{rules}
use Rattle.std.proofs.lemmas.Iterator.{serves_from_Range}
use Rattle.std.proofs.lemmas.Iterator.Consumers.{fold_from_yields_List}
use Rattle.words.specs.Lists.{up_to}
use Rattle.words.proofs.Sums.{total}
use Rattle.task.specs.Limits.{most_parameters}
use Rattle.task.specs.Layout.{params_in}
use Rattle.task.specs.Table.{task_of}
use Rattle.task.specs.Run.{param_count}
use Rattle.task.proofs.TableReads.{counts-inside, params-inside, params-word}
use Rattle.task.proofs.TablesByIndex.{table-frame, schemas-word}
use Rattle.forecast.specs.Forecast.{instance_limit}
use Rattle.forecast.specs.Capped.{capped}
use Rattle.forecast.proofs.Capped.{added_capped}
use Rattle.forecast.proofs.GroundInstances.{by_schema, params-few}
use Rattle.forecast.proofs.RangeSums.{mapped_road}
use Rattle.forecast.proofs.instances.instances_before.Goals as goal

pub word-requires : goal.word-requires
word-requires c = omega (arith, counts-inside c.args.table.now c.requires.table_value)

-- a table's schema has few parameters
pub fold-requires-clause-can : goal.fold-requires-clause-can
fold-requires-clause-can c =
    let w = c.args.table.now in
    let h = c.requires.table_value in
    let all = schemas-word w (table-frame w h) in
    let last : (map_source c.map.result).end ≡ c.word.result = ap (λ (r : Range ℕ). r.end) c.map.ensures.source in (
      tt,
      serves_from_Range (λ x q k. search rules)
          (λ x lo hi.
          let known : x < length (task_of w).schemas = omega (arith, all, c.word.ensures.value, last) in
          let inside = params-inside w h x known in
          let few : params_in w x ≤ most_parameters = omega (arith, params-word w h x known, params-few w h x known) in
          search rules),
    )

pub returns : goal.returns
returns c =
    let w = c.args.table.now in
    let h = c.requires.table_value in
    let t = task_of w in
    let n = c.word.result in
    let all = c.word.ensures.value ∙ sym (schemas-word w (table-frame w h)) in
    let power = λ (s : ℕ). get_or c.args.powers.now (params_in w s) 0 in
    let whole = λ (s : ℕ). t.objects ^ param_count t s in
    let kept : (s : ℕ) → s < n → power s ≡ capped instance_limit (whole s) = λ s l.
    let known : s < length t.schemas = omega (arith, all) in
    let few : params_in w s ≤ most_parameters = omega (arith, params-word w h s known, params-few w h s known) in
    c.requires.are_powers.power (params_in w s) few ∙
    ap (λ (k : ℕ). capped instance_limit (t.objects ^ k)) (params-word w h s known) in
    fold_from_yields_List _ (λ x y. capped instance_limit (x + y)) 0 c.fold.result c.fold.ensures.ran
    (mapped_road power n c.map.ensures.source c.map.ensures.closure (λ x r q k. search rules))
    (λ a x b q k. search rules) ∙
    added_capped instance_limit whole power n kept ∙
    ap (λ (k : ℕ). capped instance_limit (total whole (up_to k))) all ∙ ap (capped instance_limit) (sym (by_schema t))
