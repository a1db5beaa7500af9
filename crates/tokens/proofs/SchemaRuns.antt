-- The rows of the split's schemas, atoms or pairs, as loops put them: one part or one schema further, and no more at a
-- place on the way than in all.
use Prim.Native.Nat.{ℕ, zero, suc, ◌+◌, ◌-◌, ◌≤◌}
use mathlib.Core.Path.{◌≡◌, refl, sym, ◌∙◌, ap, ap₂}
use mathlib.Core.List.{List, [], ◌∷◌, ◌++◌, map, append-nil, append_assoc}
use native.Mathlib.Omega.{arith}
use native.Mathlib.Numerals.{add-one}
use lib.ListN.{length, length-append, length-map}
use Rattle.words.specs.Lists.{concat_map, up_from, up_to}
use Rattle.task.specs.Task.{Schema}
use Rattle.task.specs.Table.{rows_from}
use Rattle.words.proofs.Lists.{map-append, append-concat_map, up_to-suc, length-up_to, up_from-append}

-- numbers up to a place, and those behind it
up_to-split : (k n : ℕ) → k ≤ n → up_to n ≡ up_to k ++ up_from k (n - k)
unfolding up_to
up_to-split k n l =
    let e : n ≡ k + (n - k) = omega arith in
    let z : 0 + k ≡ k = omega arith in
    ap (up_from 0) e ∙ (up_from-append 0 k (n - k) ∙ ap (λ (i : ℕ). up_from 0 k ++ up_from i (n - k)) z)

pub map_more : {A : Type 0} (f : ℕ → A) (j : ℕ) → map f (up_to (j + 1)) ≡ map f (up_to j) ++ (f j ∷ [])
map_more f j = ap (λ (n : ℕ). map f (up_to n)) (add-one j) ∙ (ap (map f) (up_to-suc j) ∙ map-append f (up_to j) (j ∷ []))

-- ---- lists made one number after another
module _ {A : Type 0} (g : ℕ → List A) where
  pub all_more : (s : ℕ) → concat_map g (up_to (s + 1)) ≡ concat_map g (up_to s) ++ g s
  unfolding concat_map
  all_more s =
      ap (λ (n : ℕ). concat_map g (up_to n)) (add-one s) ∙ (ap (concat_map g) (up_to-suc s) ∙
      (append-concat_map g (up_to s) (s ∷ []) ∙ ap (λ (l : List A). concat_map g (up_to s) ++ l) (append-nil (g s))))

  all_split : (s n : ℕ) → s ≤ n → concat_map g (up_to n) ≡ concat_map g (up_to s) ++ concat_map g (up_from s (n - s))
  all_split s n l = ap (concat_map g) (up_to-split s n l) ∙ append-concat_map g (up_to s) (up_from s (n - s))

  pub all-fewer : (s n : ℕ) → s ≤ n → length (concat_map g (up_to s)) ≤ length (concat_map g (up_to n))
  all-fewer s n l =
      omega (arith, ap length (all_split s n l), length-append (concat_map g (up_to s)) (concat_map g (up_from s (n - s))))

-- the parts of the schemas before one
abbrev pub schemas_up_to : (ℕ → List Schema) → ℕ → List Schema
schemas_up_to g s = concat_map g (up_to s)

-- ---- rows of one kind
module _ {Row : Type 0} (words : ℕ → Row → List ℕ) (rows : Schema → List Row) where
  rows_append : (n : ℕ) (xs ys : List Schema) →
      rows_from words rows n (xs ++ ys) ≡ rows_from words rows n xs ++ rows_from words rows (n + length xs) ys
  unfolding rows_from
  rows_append n [] ys = ap (λ (k : ℕ). rows_from words rows k ys) (let z : n ≡ n + 0 = omega arith in z)
  rows_append n (x ∷ xs) ys =
      let z : suc n + length xs ≡ n + suc (length xs) = omega arith in
      ap (λ (l : List ℕ). concat_map (words n) (rows x) ++ l)
      (rows_append (suc n) xs ys ∙
      ap (λ (k : ℕ). rows_from words rows (suc n) xs ++ rows_from words rows k ys) z) ∙
      sym (append_assoc (concat_map (words n) (rows x)) (rows_from words rows (suc n) xs)
      (rows_from words rows (n + suc (length xs)) ys))

  -- ---- of the parts of one schema, from number n on
  module _ (n : ℕ) (f : ℕ → Schema) where
    abbrev pub parts_up_to : ℕ → List ℕ
    parts_up_to j = rows_from words rows n (map f (up_to j))

    pub parts_none : parts_up_to 0 ≡ []
    unfolding rows_from up_to up_from
    parts_none = refl

    pub parts_more : (j : ℕ) → parts_up_to (j + 1) ≡ parts_up_to j ++ concat_map (words (n + j)) (rows (f j))
    unfolding rows_from
    parts_more j =
        let e : n + length (map f (up_to j)) ≡ n + j = omega (arith, length-map (up_to j) f, length-up_to j) in
        ap parts_up_to (add-one j) ∙ (ap (λ (js : List ℕ). rows_from words rows n (map f js)) (up_to-suc j) ∙
        (ap (rows_from words rows n) (map-append f (up_to j) (j ∷ [])) ∙
        (rows_append n (map f (up_to j)) (f j ∷ []) ∙
        (ap (λ (l : List ℕ). parts_up_to j ++ l)
        (append-nil (concat_map (words (n + length (map f (up_to j)))) (rows (f j)))) ∙
        ap (λ (k : ℕ). parts_up_to j ++ concat_map (words k) (rows (f j))) e))))

    -- parts without rows have no words
    pub parts-bare : ((j : ℕ) → rows (f j) ≡ []) → (j : ℕ) → parts_up_to j ≡ []
    unfolding concat_map
    parts-bare h zero = parts_none
    parts-bare h (suc j) =
        ap parts_up_to (sym (add-one j)) ∙ (parts_more j ∙
        ap₂ (λ (xs ys : List ℕ). xs ++ ys) (parts-bare h j) (ap (concat_map (words (n + j))) (h j)))

    pub parts-fewer : (j m : ℕ) → j ≤ m → length (parts_up_to j) ≤ length (parts_up_to m)
    parts-fewer j m l =
        let rest = map f (up_from j (m - j)) in
        omega (
          arith,
          ap length (ap (λ (js : List ℕ). rows_from words rows n (map f js)) (up_to-split j m l) ∙
              (ap (rows_from words rows n) (map-append f (up_to j) (up_from j (m - j))) ∙
              rows_append n (map f (up_to j)) rest)),
          length-append (parts_up_to j) (rows_from words rows (n + length (map f (up_to j))) rest),
        )

  -- ---- of the parts of all schemas
  module _ (g : ℕ → List Schema) where
    pub schemas-more : (s : ℕ) → rows_from words rows 0 (schemas_up_to g (s + 1)) ≡
        rows_from words rows 0 (schemas_up_to g s) ++ rows_from words rows (length (schemas_up_to g s)) (g s)
    schemas-more s =
        let z : 0 + length (schemas_up_to g s) ≡ length (schemas_up_to g s) = omega arith in
        ap (rows_from words rows 0) (all_more g s) ∙ (rows_append 0 (schemas_up_to g s) (g s) ∙
        ap (λ (k : ℕ). rows_from words rows 0 (schemas_up_to g s) ++ rows_from words rows k (g s)) z)

    pub schemas-fewer : (s n : ℕ) → s ≤ n →
        length (rows_from words rows 0 (schemas_up_to g s)) ≤ length (rows_from words rows 0 (schemas_up_to g n))
    schemas-fewer s n l =
        let rest = concat_map g (up_from s (n - s)) in
        omega (
          arith,
          ap length (ap (rows_from words rows 0) (all_split g s n l) ∙ rows_append 0 (schemas_up_to g s) rest),
          length-append (rows_from words rows 0 (schemas_up_to g s))
              (rows_from words rows (0 + length (schemas_up_to g s)) rest),
        )
