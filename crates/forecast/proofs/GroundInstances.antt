-- The instances of schemas, added up as the code counts them: schema by schema of the task, part by part of its split.
-- A part has as many parameters as the set kept for it has members.
use Prim.Native.Nat.{ℕ, ◌+◌, ◌^◌, ◌≤◌, ◌<◌}
use mathlib.Core.Path.{◌≡◌, sym, ◌∙◌, ap}
use mathlib.Core.Bool.{true}
use mathlib.Core.List.{List, map}
use native.Mathlib.Omega.{arith}
use lib.ListN.{length, get_or}
use borrow.Author.Tests.{leb-true}
use Rattle.words.specs.Lists.{sum, up_to}
use Rattle.words.specs.Sets.{members, word_bits}
use Rattle.words.proofs.Lists.{tabulate, map-map, length-up_to}
use Rattle.words.proofs.Sums.{total, total-concat_map}
use Rattle.words.proofs.Ascending.{filter-le}
use Rattle.task.specs.Limits.{most_parameters}
use Rattle.task.specs.Task.{Schema, Task, no_schema}
use Rattle.task.specs.Run.{schema_at, param_count}
use Rattle.task.specs.Table.{task_of, is_table}
use Rattle.task.proofs.Tests.{schema-tests}
use Rattle.arcs.proofs.AtomWords.{schema-fits}
use Rattle.tokens.specs.Split.{has, params_of, own, orders, split_schema, split_task}
use Rattle.tokens.specs.Kept.{kept_count, kept_own, SchemaKept}
use Rattle.tokens.specs.Acceptance.{part_schemas}
use Rattle.tokens.specs.Writing.{set_size}
use Rattle.tokens.proofs.KeptSchema.{counted, kept-fits, kept-params}
use Rattle.tokens.proofs.ParPlaces.{own-listed}
use Rattle.forecast.specs.Forecast.{instances, instances_of}

-- ---- sums
module _ (t : Task) where
  -- of the task, by schema
  pub by_schema : instances t ≡ total (λ s. t.objects ^ param_count t s) (up_to (length t.schemas))
  unfolding instances instances_of param_count schema_at up_to
  by_schema =
      let power : Schema → ℕ = λ s. t.objects ^ s.params in
      let all = tabulate (schema_at t) 0 t.schemas no_schema (λ k l. let e : 0 + k ≡ k = omega arith in ap (schema_at t) e) in
      ap (λ (ss : List Schema). sum (map power ss)) (sym all) ∙ ap sum (map-map power (schema_at t) (up_to (length t.schemas)))

  -- of the schemas that schema s becomes, by part
  pub by_part : (s : ℕ) → instances_of t.objects (part_schemas t s) ≡
      total (λ j. t.objects ^ (split_schema t s (orders t s) j).params) (up_to (length (orders t s)))
  unfolding instances_of
  by_part s =
      let power : Schema → ℕ = λ u. t.objects ^ u.params in
      ap sum (map-map power (split_schema t s (orders t s)) (up_to (length (orders t s))))

  -- of its split, by schema
  pub by_split : instances (split_task t) ≡
      total (λ s. instances_of t.objects (part_schemas t s)) (up_to (length t.schemas))
  unfolding instances instances_of split_task
  by_split =
      let power : Schema → ℕ = λ u. t.objects ^ u.params in
      total-concat_map power (part_schemas t) (up_to (length t.schemas))

-- ---- parameters
-- a table's schema has few
pub params-few : (w : List ℕ) → is_table w ≡ true → (s : ℕ) → s < length (task_of w).schemas →
    param_count (task_of w) s ≤ most_parameters
unfolding param_count
params-few w h s l =
    let old = schema_at (task_of w) s in
    leb-true old.params most_parameters (schema-tests (task_of w).arities old (schema-fits w h s l)).params

-- the set kept for a part of it has the part's parameters, and no more
module _ {w : List ℕ} {s : ℕ} {kept : List ℕ} (K : SchemaKept w s kept) (j : ℕ) (l : j < kept_count kept s) where
  abbrev t : Task
  t = task_of w

  listed : members (kept_own kept s j) word_bits ≡ own t s (orders t s) j
  listed =
      own-listed t s (orders t s) j word_bits (kept-fits K) (kept-params K) (kept_own kept s j)
      (λ x. K.all.params s j x K.known (omega (arith, counted K)))

  pub set-params : set_size kept s j ≡ (split_schema t s (orders t s) j).params
  unfolding split_schema
  set-params = ap length listed

  pub set-few : set_size kept s j ≤ most_parameters
  unfolding own params_of param_count
  set-few =
      let p = get_or (orders t s) j 0 in
      omega (
        arith,
        ap length listed,
        filter-le (λ x. has (schema_at t s) x p) (up_to (schema_at t s).params),
        length-up_to (schema_at t s).params,
        params-few w K.table s K.known,
      )
