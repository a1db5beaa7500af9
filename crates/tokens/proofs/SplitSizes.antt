-- The sizes of the split as the code counts them: the atoms of a part one by one, the parts of a schema one by one, and
-- schema by schema. Each size is of a list that grows at its end.
use Prim.Native.Nat.{ℕ, zero, suc, ◌+◌, ◌-◌, ◌≤◌, ◌<◌, max}
use mathlib.Core.Path.{◌≡◌, refl, sym, ◌∙◌, ap, ap₂}
use mathlib.Core.Bool.{Bool, cond, ◌&&◌}
use mathlib.Core.List.{List, [], ◌∷◌, ◌++◌, map, append-nil}
use native.Mathlib.Omega.{arith}
use native.Mathlib.Decide.{dec_lt}
use native.Mathlib.Numerals.{add-one}
use lib.ListN.{length, get_or, take, length-append, length-map}
use lib.Seq.{take-suc}
use lib.Dec.{eqb, leb}
use borrow.Author.Tests.{le-leb, lt-leb}
use Rattle.words.specs.Lists.{all, filter, sum, concat_map, up_to, up_from}
use Rattle.task.specs.Limits.{most_atoms, most_parts}
use Rattle.task.specs.Task.{Atom, Schema, Task, no_schema}
use Rattle.task.specs.Run.{schema_at}
use Rattle.task.specs.Table.{task_of}
use Rattle.words.proofs.Lists.{append-concat_map, length-up_to, map-append, sum-append, up_to-suc}
use Rattle.words.specs.Sets.{member, members, word_bits}
use Rattle.arcs.specs.Stretches.{stretch, stretch_in}
use Rattle.tokens.specs.Split.{has, parts, later_parts, shared_bound, maximum, orders, lone, first_here, last_here}
use Rattle.tokens.specs.Split.{later_here, split_schema}
use Rattle.tokens.specs.Acceptance.{ParsHere, part_schemas, largest_of, SchemaSized, SizesBefore}
use Rattle.tokens.specs.declared.pars.Pars.{Pars}
use Rattle.tokens.specs.declared.measure.Measured.{Measured}
use Rattle.tokens.specs.declared.measure.Sizes.{Sizes}
use Rattle.tokens.proofs.Accepted.{later-step}
use Rattle.words.proofs.Sums.{total, length-keep}
use Rattle.tokens.proofs.Sizes.{atoms_of, pars_of, part-size}
use Rattle.tokens.proofs.KeptSchema.{kept-atoms, kept-fits, kept-params, counted}
use Rattle.tokens.proofs.ParPlaces.{picked-listed}
use Rattle.tokens.specs.Kept.{kept_start, kept_end, kept_count, kept_part, SchemaKept}

-- ---- the rows of a stretch that a test takes
abbrev pub in_part_count : ℕ → List Atom → ℕ
in_part_count p atoms = length (filter (λ a. eqb p a.part) atoms)

module _ {A B : Type 0} (p : B → Bool) (f : A → B) where
  filtered-map : (xs : List A) → length (filter (λ x. p (f x)) xs) ≡ length (filter p (map f xs))
  unfolding filter
  filtered-map [] = refl
  filtered-map (x ∷ xs) = omega (
    arith,
    filtered-map xs,
    length-keep (p (f x)) x (filter (λ x. p (f x)) xs),
    length-keep (p (f x)) (f x) (filter p (map f xs)),
  )

-- as many as a test takes of their indices
pub taken-rows : {Row : Type 0} (row : ℕ → Row) (test : Row → Bool) (from to : ℕ) →
    length (filter (λ i. test (row i)) (up_from from (to - from))) ≡ length (filter test (stretch row from to))
unfolding stretch
taken-rows row test from to = filtered-map test row (up_from from (to - from))

-- ---- a part of the split
module _ {w : List ℕ} {s : ℕ} {kept : List ℕ} (K : SchemaKept w s kept) where
  abbrev t : Task
  t = task_of w

  abbrev o : List ℕ
  o = orders (task_of w) s

  pub part-counted : {from to : ℕ} → from ≡ kept_start kept s → to ≡ kept_end kept s → (p j : ℕ) → p ≡ kept_part kept s j →
      j < kept_count kept s → (r : Pars) (old : ℕ) → ParsHere t s o j r → old ≡ in_part_count p (stretch_in w from to) →
      length (split_schema t s o j).atoms ≡
      old + 1 + length (members r.later word_bits) +
      cond (eqb (kept_count kept s) 1) 0
      (1 + length (members r.first word_bits) + (1 + length (members r.last word_bits)))
  unfolding lone
  part-counted begins stops p j is-part l r old here e =
      let n = counted K in
      let size = part-size t s o j (kept-fits K) in
      let atoms : old ≡ atoms_of (schema_at t s) (get_or o j 0) =
      e ∙ ap₂ in_part_count (is-part ∙ K.all.part s j K.known (omega arith)) (sym (kept-atoms K begins stops)) in
      let later = pars r.later (later_here t s o j) here.later in
      let first = pars r.first (first_here t s o j) here.first in
      let last = pars r.last (last_here t s o j) here.last in
      let more = (1 + pars_of t s o j (first_here t s o j)) + (1 + pars_of t s o j (last_here t s o j)) in
      let Lone-is = ap (λ (n : ℕ). cond (eqb n 1) 0 more) n in
      let tokens = ap₂ (λ (a b : ℕ). cond (eqb (kept_count kept s) 1) 0 (1 + a + (1 + b))) first last in
      omega arith
    where
      pars : (set : ℕ) (test : ℕ → Bool) → ((x : ℕ) → member set x ≡ has (schema_at t s) x (get_or o j 0) && test x) →
          length (members set word_bits) ≡ pars_of t s o j test
      pars set test h = ap length (picked-listed t s o j word_bits (kept-fits K) (kept-params K) set test h)

-- ---- the parts of a schema, and schema by schema
-- what is added up over schemas, as their atoms and their pairs are
sums-append : (size : Schema → ℕ) (xs ys : List Schema) → total size (xs ++ ys) ≡ total size xs + total size ys
sums-append size xs ys = ap sum (map-append size xs ys) ∙ sum-append (map size xs) (map size ys)

maximum-append : (xs ys : List ℕ) → maximum (xs ++ ys) ≡ max (maximum xs) (maximum ys)
unfolding maximum
maximum-append [] ys = omega arith
maximum-append (x ∷ xs) ys = let e = maximum-append xs ys in omega arith

maximum-more : (xs : List ℕ) (y : ℕ) → maximum (xs ++ (y ∷ [])) ≡ max (maximum xs) y
unfolding maximum
maximum-more xs y = let e = maximum-append xs (y ∷ []) in omega arith

largest-append : (xs ys : List Schema) → largest_of (xs ++ ys) ≡ max (largest_of xs) (largest_of ys)
largest-append xs ys =
    ap maximum (map-append (λ (s : Schema). length s.atoms) xs ys) ∙
    maximum-append (map (λ (s : Schema). length s.atoms) xs) (map (λ (s : Schema). length s.atoms) ys)

-- the largest has few enough where all have
pub few-largest : (xs : List Schema) → leb (largest_of xs) most_atoms ≡ all (λ s. leb (length s.atoms) most_atoms) xs
unfolding maximum all
few-largest [] = refl
few-largest (x ∷ xs) =
    both-leb (length x.atoms) (largest_of xs) most_atoms ∙
    ap (λ b. leb (length x.atoms) most_atoms && b) (few-largest xs)
  where
    both-leb : (a b n : ℕ) → leb (max a b) n ≡ leb a n && leb b n
    both-leb a b n = elim (dec_lt n a) [
      | yes l ↦ rw (lt-leb a n l, lt-leb (max a b) n (omega arith)) refl
      | no l ↦ elim (dec_lt n b) [
        | yes k ↦ rw (le-leb a n (omega arith), lt-leb b n k, lt-leb (max a b) n (omega arith)) refl
        | no k ↦ rw (le-leb a n (omega arith), le-leb b n (omega arith), le-leb (max a b) n (omega arith)) refl
      ]
    ]

module _ (t : Task) (s : ℕ) where
  -- the schemas of the first j parts
  abbrev pub parts_up_to : ℕ → List Schema
  parts_up_to j = map (split_schema t s (orders t s)) (up_to j)

  parts_more : (j : ℕ) → parts_up_to (j + 1) ≡ parts_up_to j ++ (split_schema t s (orders t s) j ∷ [])
  parts_more j =
      ap parts_up_to (add-one j) ∙ ap (map (split_schema t s (orders t s))) (up_to-suc j) ∙
      map-append (split_schema t s (orders t s)) (up_to j) (j ∷ [])

  pub part-sum-none : (size : Schema → ℕ) → total size (parts_up_to 0) ≡ 0
  unfolding up_to up_from sum
  part-sum-none size = refl

  pub part-largest-none : largest_of (parts_up_to 0) ≡ 0
  unfolding up_to up_from maximum
  part-largest-none = refl

  pub part-sum-more : (size : Schema → ℕ) (j : ℕ) →
      total size (parts_up_to (j + 1)) ≡ total size (parts_up_to j) + size (split_schema t s (orders t s) j)
  unfolding sum
  part-sum-more size j =
      let u = split_schema t s (orders t s) j in
      let z : size u + 0 ≡ size u = omega arith in
      ap (total size) (parts_more j) ∙ sums-append size (parts_up_to j) (u ∷ []) ∙
      ap (λ n. total size (parts_up_to j) + n) z

  -- nothing adds up to nothing
  pub part-sum-nothing : (size : Schema → ℕ) → ((j : ℕ) → size (split_schema t s (orders t s) j) ≡ 0) → (j : ℕ) →
      total size (parts_up_to j) ≡ 0
  part-sum-nothing size h zero = part-sum-none size
  part-sum-nothing size h (suc j) =
      let e = ap (λ (n : ℕ). total size (parts_up_to n)) (add-one j) in
      omega (arith, part-sum-more size j, part-sum-nothing size h j, h j)

  pub part-largest-more : (j : ℕ) →
      largest_of (parts_up_to (j + 1)) ≡
      max (largest_of (parts_up_to j)) (length (split_schema t s (orders t s) j).atoms)
  unfolding maximum
  part-largest-more j =
      let u = split_schema t s (orders t s) j in
      let z : max (length u.atoms) 0 ≡ length u.atoms = omega arith in
      ap largest_of (parts_more j) ∙ largest-append (parts_up_to j) (u ∷ []) ∙
      ap (max (largest_of (parts_up_to j))) z

module _ (t : Task) where
  -- the schemas of the split of the first n schemas
  abbrev schemas_up_to : ℕ → List Schema
  schemas_up_to n = concat_map (part_schemas t) (up_to n)

  schemas-more : (n : ℕ) → schemas_up_to (n + 1) ≡ schemas_up_to n ++ part_schemas t n
  unfolding concat_map
  schemas-more n =
      ap schemas_up_to (add-one n) ∙ ap (concat_map (part_schemas t)) (up_to-suc n) ∙
      append-concat_map (part_schemas t) (up_to n) (n ∷ []) ∙
      ap (λ (xs : List Schema). schemas_up_to n ++ xs) (append-nil (part_schemas t n))

  pub sizes-none : (r : Sizes) → r.later ≡ 0 → r.pars ≡ 0 → r.schemas ≡ 0 → r.atoms ≡ 0 → r.largest ≡ 0 → r.pairs ≡ 0 →
      SizesBefore t 0 r
  unfolding later_parts maximum concat_map up_to up_from sum
  sizes-none r a b c d m p = record {
    later = a;
    pars = b;
    schemas = c;
    atoms = d;
    largest = m;
    pairs = p;
    later-most = omega arith;
    schemas-most = omega arith;
    atoms-most = omega arith;
    pairs-most = omega arith;
  }

  pub sizes-more : (n : ℕ) (r next : Sizes) (one : Measured) (count : ℕ) → n < length t.schemas →
      count ≡ length (orders t n) → count ≡ parts (schema_at t n) → count ≤ most_parts → SchemaSized t n one →
      SizesBefore t n r →
      next.later ≡ r.later + (count - 1) → next.pars ≡ max r.pars one.shared →
      next.schemas ≡ r.schemas + count → next.atoms ≡ r.atoms + one.atoms → next.largest ≡ max r.largest one.largest →
      next.pairs ≡ r.pairs + one.pairs → SizesBefore t (n + 1) next
  unfolding schema_at
  sizes-more n r next one count l c p f sized old a b d e g q =
      let later = ap (λ k. later_parts (take k t.schemas)) (add-one n) ∙ later-step t.schemas n no_schema l in
      let la = old.later in
      let ln = ap length (schemas-more n) ∙ length-append (schemas_up_to n) (part_schemas t n) in
      let lm = length-map (up_to (length (orders t n))) (split_schema t n (orders t n)) in
      let lu = length-up_to (length (orders t n)) in
      let ls = old.schemas in
      let atoms = sum_more (λ s. length s.atoms) in
      let pairs = sum_more (λ s. length s.pairs) in
      let x = sized.atoms-most in
      let y = old.atoms-most in
      let i = old.schemas-most in
      let k = old.later-most in
      record {
        later = omega arith;
        pars = b ∙ ap₂ max old.pars sized.shared ∙ sym pars-more;
        schemas = omega arith;
        atoms = omega (arith, atoms, old.atoms, sized.atoms);
        largest = g ∙ ap₂ max old.largest sized.largest ∙
            sym (ap largest_of (schemas-more n) ∙ largest-append (schemas_up_to n) (part_schemas t n));
        pairs = omega (arith, pairs, old.pairs, sized.pairs);
        later-most = omega arith;
        schemas-most = omega arith;
        atoms-most = omega arith;
        pairs-most = omega (arith, old.pairs-most, sized.pairs-most);
      }
    where
      sum_more : (size : Schema → ℕ) →
          total size (schemas_up_to (n + 1)) ≡ total size (schemas_up_to n) + total size (part_schemas t n)
      sum_more size = ap (total size) (schemas-more n) ∙ sums-append size (schemas_up_to n) (part_schemas t n)

      pars-more : maximum (map shared_bound (take (n + 1) t.schemas)) ≡
          max (maximum (map shared_bound (take n t.schemas))) (shared_bound (get_or t.schemas n no_schema))
      pars-more =
          ap (λ k. maximum (map shared_bound (take k t.schemas))) (add-one n) ∙
          ap (λ ss. maximum (map shared_bound ss)) (take-suc t.schemas n no_schema l) ∙
          ap maximum (map-append shared_bound (take n t.schemas) (get_or t.schemas n no_schema ∷ [])) ∙
          maximum-more (map shared_bound (take n t.schemas)) (shared_bound (get_or t.schemas n no_schema))
