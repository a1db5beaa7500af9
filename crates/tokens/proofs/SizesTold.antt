-- The sizes of the split, once every schema is counted; and by them, whether the split passes a limit.
use Prim.Native.Nat.{ℕ, suc, ◌+◌, ◌*◌, ◌≤◌, ◌<◌}
use mathlib.Core.Path.{◌≡◌, refl, ◌∙◌, ap}
use mathlib.Core.Bool.{Bool, true}
use mathlib.Core.List.{List, [], ◌∷◌, map}
use native.Mathlib.Omega.{arith}
use lib.ListN.{length, take}
use lib.Dec.{leb}
use lib.Seq.{take-length}
use borrow.Author.Tests.{leb-true}
use Rattle.words.specs.Lists.{all, every, filter, last_or, sum, up_to, concat_map}
use Rattle.words.specs.Sets.{word_bits}
use Rattle.words.proofs.Lists.{In, here, there, all_in, filter-in, up_to-in}
use Rattle.task.specs.Limits.{most_atoms, most_parameters, most_parts, most_schemas}
use Rattle.task.specs.Layout.{head_in}
use Rattle.task.specs.Task.{Schema, Task, part_count, schema_atoms, schema_fits, schema_pairs}
use Rattle.task.specs.Table.{task_of, is_table}
use Rattle.task.proofs.Tables.{of-table}
use Rattle.task.proofs.TablesByIndex.{table-frame, arities-word, init-word, goal-word}
use Rattle.task.proofs.Tests.{schema-tests, task-tests}
use Rattle.tokens.specs.Split.{parts, later_parts, shared, shared_bound, maximum, par_count, split_task, limit_tests}
use Rattle.tokens.specs.Split.{within_limits}
use Rattle.tokens.specs.Acceptance.{part_schemas, largest_of, SizesBefore, SizesCounted, SizesTold, are_within}
use Rattle.tokens.specs.declared.measure.Sizes.{Sizes}
use Rattle.tokens.proofs.Predicates.{predicate-count}
use Rattle.tokens.proofs.Sizes.{init-count, goal-count}
use Rattle.tokens.proofs.KeptSchemas.{schemas-few}
use Rattle.tokens.proofs.SplitSizes.{few-largest}

module _ (t : Task) (r : Sizes) (n : ℕ) (all-counted : n ≡ length t.schemas) (counted : SizesBefore t n r) where
  all-taken : take n t.schemas ≡ t.schemas
  all-taken = ap (λ (k : ℕ). take k t.schemas) all-counted ∙ take-length t.schemas

  later-told : r.later ≡ later_parts t.schemas
  later-told = counted.later ∙ ap later_parts all-taken

  pars-told : r.pars ≡ par_count t
  unfolding par_count
  pars-told = counted.pars ∙ ap (λ (ss : List Schema). maximum (map shared_bound ss)) all-taken

  schemas-told : r.schemas ≡ length (split_task t).schemas
  unfolding split_task
  schemas-told = counted.schemas ∙ ap (λ (k : ℕ). length (concat_map (part_schemas t) (up_to k))) all-counted

  atoms-told : r.atoms ≡ schema_atoms (split_task t).schemas
  unfolding split_task
  atoms-told = counted.atoms ∙ ap (λ (k : ℕ). schema_atoms (concat_map (part_schemas t) (up_to k))) all-counted

  pairs-told : r.pairs ≡ schema_pairs (split_task t).schemas
  unfolding split_task
  pairs-told = counted.pairs ∙ ap (λ (k : ℕ). schema_pairs (concat_map (part_schemas t) (up_to k))) all-counted

  largest-told : r.largest ≡ largest_of (split_task t).schemas
  unfolding split_task
  largest-told = counted.largest ∙ ap (λ (k : ℕ). largest_of (concat_map (part_schemas t) (up_to k))) all-counted

  pub sizes-counted : SizesCounted t r
  sizes-counted = record {
    later = later-told;
    pars = pars-told;
    schemas = schemas-told;
    atoms = atoms-told;
    largest = largest-told;
    pairs = pairs-told;
  }

-- ---- what is told is what is counted, and whether all limits are kept
pub sizes-told : (t : Task) (r : Sizes) → SizesCounted t r → (within : Bool) → within ≡ within_limits (split_task t) →
    SizesTold t
    (record {
      later = r.later;
      pars = r.pars;
      schemas = r.schemas;
      atoms = r.atoms;
      largest = r.largest;
      pairs = r.pairs;
      within = within;
    })
sizes-told t r counted within e = record {
  later = counted.later;
  pars = counted.pars;
  schemas = counted.schemas;
  atoms = counted.atoms;
  largest = counted.largest;
  pairs = counted.pairs;
  within = e;
}

-- so whoever is told the sizes may ask for the limits again
pub told-counted : (t : Task) (r : Sizes) → SizesTold t r → SizesCounted t r
told-counted t r told = record {
  later = told.later;
  pars = told.pars;
  schemas = told.schemas;
  atoms = told.atoms;
  largest = told.largest;
  pairs = told.pairs;
}

-- ---- what a schema may have bounds how many new predicates there are
last-below : (n d : ℕ) (xs : List ℕ) → d ≤ n → ((x : ℕ) → In x xs → x < n) → last_or (map suc xs) d ≤ n
unfolding last_or
last-below n d [] l k = l
last-below n d (x ∷ xs) l k = last-below n (suc x) xs (omega (arith, k x (here refl))) (λ y i. k y (there i))

shared-few : (s : Schema) → shared_bound s ≤ s.params
unfolding shared_bound
shared-few s =
    last-below s.params 0 (filter (shared s) (up_to s.params)) (omega arith)
    (λ x i. up_to-in s.params x (filter-in (shared s) (up_to s.params) x i).0)

module _ (arities : List ℕ) where
  later-few : (ss : List Schema) → ((s : Schema) → In s ss → schema_fits arities s ≡ true) →
      later_parts ss ≤ most_parts * length ss
  unfolding later_parts parts sum
  later-few [] h = omega arith
  later-few (s ∷ ss) h =
      let few = leb-true (part_count s.atoms) most_parts (schema-tests arities s (h s (here refl))).parts in
      omega (arith, later-few ss (λ u i. h u (there i)))

  pars-few : (ss : List Schema) → ((s : Schema) → In s ss → schema_fits arities s ≡ true) →
      maximum (map shared_bound ss) ≤ word_bits
  unfolding maximum
  pars-few [] h = omega arith
  pars-few (s ∷ ss) h =
      let few = leb-true s.params most_parameters (schema-tests arities s (h s (here refl))).params in
      omega (arith, shared-few s, pars-few ss (λ u i. h u (there i)))

-- ---- whether they pass a limit
module _ (w : List ℕ) (h : is_table w ≡ true) (r : Sizes) (counted : SizesCounted (task_of w) r) where
  abbrev t : Task
  t = task_of w

  all-fit : (s : Schema) → In s t.schemas → schema_fits t.arities s ≡ true
  all-fit s i = all_in (schema_fits t.arities) (task-tests t (of-table w h).0).fit i

  pub few-later : r.later ≤ most_parts * most_schemas
  few-later = omega (arith, counted.later, later-few t.arities t.schemas all-fit, schemas-few w h)

  pub few-pars : r.pars ≤ word_bits
  unfolding par_count
  few-pars = omega (arith, counted.pars, pars-few t.arities t.schemas all-fit)

  predicates-told : (head_in w).predicates + 1 + r.later + r.pars ≡ length (split_task t).arities
  predicates-told =
      let e = predicate-count t in
      let a = arities-word w (table-frame w h) in
      let l = counted.later in
      let p = counted.pars in
      omega arith

  init-told : (head_in w).initial_atoms + 1 ≡ length (split_task t).init
  init-told = let e = init-count t in let a = init-word w (table-frame w h) in omega arith

  goal-told : (head_in w).goal_atoms + 1 ≡ length (split_task t).goal
  goal-told = let e = goal-count t in let a = goal-word w (table-frame w h) in omega arith

  few-told : leb r.largest most_atoms ≡ all (λ (s : Schema). leb (length s.atoms) most_atoms) (split_task t).schemas
  few-told = ap (λ (n : ℕ). leb n most_atoms) counted.largest ∙ few-largest (split_task t).schemas

  pub within-told : are_within ((head_in w).predicates + 1 + r.later + r.pars) r.schemas r.atoms r.largest
      ((head_in w).initial_atoms + 1)
      ((head_in w).goal_atoms + 1) r.pairs ≡ within_limits (split_task t)
  unfolding are_within within_limits limit_tests every
  within-told =
      rw (predicates-told, counted.schemas, counted.atoms, few-told, init-told, goal-told, counted.pairs) refl
