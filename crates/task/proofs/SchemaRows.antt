-- Rows of one kind that schemas have, as their atoms and their pairs are, each beginning with its schema's number: how
-- many words they take and where each stands; which of them name a schema; and that words whose numbers never fall hold
-- the rows schema by schema.
use Prim.Native.Nat.{ℕ, zero, suc, ◌+◌, ◌-◌, ◌*◌, ◌≤◌, ◌<◌}
use mathlib.Core.Path.{◌≡◌, refl, sym, ◌∙◌, ap, ap₂, subst, subst₂}
use mathlib.Core.List.{List, [], ◌∷◌, map}
use native.Mathlib.Omega.{arith}
use native.Mathlib.Decide.{dec_lt}
use lib.ListN.{length, get_or, take, length-append, length-map}
use lib.Seq.{take_all}
use lib.Dec.{eqb}
use Rattle.words.specs.Lists.{filter, concat_map, sum, up_to, up_from}
use Rattle.task.specs.Task.{Schema, no_schema}
use Rattle.task.specs.Table.{rows_from, naming}
use Rattle.words.proofs.Lists.{In, here, there, in-get_or, map-in, get_or-map, get_or-mapped, length-up_from, up_from-in}
use Rattle.words.proofs.Lists.{tabulate, sum-take-rises}
use Rattle.words.proofs.Words.{At, at_left, at-move, at_right, at_join, length-rows, at_row, join-rows}
use Rattle.task.proofs.Numbered.{Numbered, no_block, block, numbered-make, filter-numbered, Blocks, blocks}
use Rattle.task.proofs.Numbered.{locate, sum-take-suc}

-- how many rows each schema has, and which is the first of a schema
abbrev pub row_counts : {Row : Type 0} → (Schema → List Row) → List Schema → List ℕ
row_counts rows ss = map (λ s. length (rows s)) ss

abbrev pub first_row : {Row : Type 0} → (Schema → List Row) → List Schema → ℕ → ℕ
first_row rows ss m = sum (take m (row_counts rows ss))

-- row i lies in the schema that it names, by the first row of each schema
pub record Lies (first number : ℕ → ℕ) (schemas i : ℕ) : Type 0 where
  pub known : number i < schemas
  pub from_start : first (number i) ≤ i
  pub before-next : i < first (suc (number i))

-- ---- where rows stand
module _ {Row : Type 0} (words : ℕ → Row → List ℕ) (rows : Schema → List Row) (size : ℕ) where
  -- each row has so many words
  abbrev pub Even : List Schema → Type 0
  Even ss = (s : Schema) → In s ss → (r : Row) → In r (rows s) → (n : ℕ) → length (words n r) ≡ size

  pub length-rows_from : (n : ℕ) (ss : List Schema) → Even ss →
      length (rows_from words rows n ss) ≡ size * sum (row_counts rows ss)
  unfolding rows_from sum
  length-rows_from n [] h = omega arith
  length-rows_from n (s ∷ ss) h =
      let a = length-rows (words n) size (rows s) (λ r i. h s (here refl) r i n) in
      let b = length-rows_from (suc n) ss (λ s i. h s (there i)) in
      omega (arith, length-append (concat_map (words n) (rows s)) (rows_from words rows (suc n) ss))

  pub at-schema : (w : List ℕ) (b n : ℕ) (ss : List Schema) → Even ss → At w b (rows_from words rows n ss) → (m : ℕ) →
      m < length ss → At w (b + size * first_row rows ss m) (concat_map (words (n + m)) (rows (get_or ss m no_schema)))
  unfolding rows_from sum
  at-schema w b n [] h a m l = absurd (omega arith)
  at-schema w b n (s ∷ ss) h a zero l =
      let z : n ≡ n + 0 = omega arith in
      subst (λ (x : ℕ). At w (b + size * 0) (concat_map (words x) (rows s))) z
      (at-move w b (b + size * 0) (concat_map (words n) (rows s)) (omega arith)
      (at_left w b (concat_map (words n) (rows s)) (rows_from words rows (suc n) ss) a))
  at-schema w b n (s ∷ ss) h a (suc m) l =
      let e = length-rows (words n) size (rows s) (λ r i. h s (here refl) r i n) in
      let c : ℕ = length (concat_map (words n) (rows s)) in
      let z : suc n + m ≡ n + suc m = omega arith in
      let q : (b + c) + size * first_row rows ss m ≡ b + size * (length (rows s) + first_row rows ss m) = omega arith in
      let r = at-schema w (b + c) (suc n) ss (λ s i. h s (there i))
      (at_right w b (concat_map (words n) (rows s)) (rows_from words rows (suc n) ss) a) m (omega arith) in
      subst (λ (x : ℕ). At w (b + size * (length (rows s) + first_row rows ss m))
      (concat_map (words x) (rows (get_or ss m no_schema)))) z
      (at-move w ((b + c) + size * first_row rows ss m) (b + size * (length (rows s) + first_row rows ss m))
      (concat_map (words (suc n + m)) (rows (get_or ss m no_schema))) q r)

  -- row k of schema m
  pub row-stands : (none : Row) (w : List ℕ) (b : ℕ) (ss : List Schema) → Even ss → At w b (rows_from words rows 0 ss) →
      (m k : ℕ) → m < length ss → k < length (rows (get_or ss m no_schema)) →
      At w (b + size * (first_row rows ss m + k)) (words m (get_or (rows (get_or ss m no_schema)) k none))
  row-stands none w b ss h a m k l x =
      let s = get_or ss m no_schema in
      let from : ℕ = b + size * first_row rows ss m in
      let z : 0 + m ≡ m = omega arith in
      let all : At w from (concat_map (words m) (rows s)) =
      subst (λ (n : ℕ). At w from (concat_map (words n) (rows s))) z (at-schema w b 0 ss h a m l) in
      at-move w (from + size * k) (b + size * (first_row rows ss m + k)) (words m (get_or (rows s) k none)) (omega arith)
      (at_row (words m) size w from (rows s) none (λ r i. h s (in-get_or ss m no_schema l) r i m) all k x)

-- ---- which rows name a schema
module _ {Row : Type 0} (rows : Schema → List Row) (none : Row) (number : ℕ → ℕ) (row : ℕ → Row)
    (ss : List Schema) where
  -- of so many schemas, row k of schema m is read at its place, and its number is m
  abbrev ReadsOf : ℕ → Type 0
  ReadsOf schemas = (m k : ℕ) → m < schemas → k < length (rows (get_or ss m no_schema)) →
      (number (first_row rows ss m + k) ≡ m) × (row (first_row rows ss m + k) ≡ get_or (rows (get_or ss m no_schema)) k none)

  abbrev pub Reads : Type 0
  Reads = ReadsOf (length ss)

  -- the rows of so many schemas by index: those of a schema are read from its first on, as many as it has, and each row
  -- lies in the schema that it names
  pub record ByIndex (schemas total : ℕ) : Type 0 where
    pub next : (m : ℕ) → m < schemas →
        first_row rows ss (suc m) ≡ first_row rows ss m + length (rows (get_or ss m no_schema))
    pub last : first_row rows ss schemas ≡ total
    pub reads : ReadsOf schemas
    pub lies : (i : ℕ) → i < total → Lies (first_row rows ss) number schemas i

  count-is : (m : ℕ) → m < length ss → get_or (row_counts rows ss) m 0 ≡ length (rows (get_or ss m no_schema))
  count-is m l = get_or-map (λ (s : Schema). length (rows s)) ss m no_schema 0 l

  counted : length (row_counts rows ss) ≡ length ss
  counted = length-map ss (λ (s : Schema). length (rows s))

  first-suc : (m : ℕ) → m < length ss →
      first_row rows ss (suc m) ≡ first_row rows ss m + length (rows (get_or ss m no_schema))
  first-suc m l =
      let n = counted in
      let q = sum-take-suc (row_counts rows ss) m (omega arith) in
      let r = count-is m l in
      omega arith

  first-end : first_row rows ss (length ss) ≡ sum (row_counts rows ss)
  first-end = let n = counted in ap sum (take_all (length ss) (row_counts rows ss) (omega arith))

  module _ (reads : Reads) where
    pub numbered : Numbered number 0 0 (row_counts rows ss)
    numbered = numbered-make number 0 0 (row_counts rows ss) (λ m k l x.
        let n = counted in
        let l' : m < length ss = omega arith in
        let e = count-is m l' in
        let z : 0 + (first_row rows ss m + k) ≡ first_row rows ss m + k = omega arith in
        let y : 0 + m ≡ m = omega arith in
        ap number z ∙ ((reads m k l' (omega arith)).0 ∙ sym y))

    pub rows-indices : (m : ℕ) → m < length ss →
        naming number (sum (row_counts rows ss)) m ≡ up_from (first_row rows ss m) (length (rows (get_or ss m no_schema)))
    unfolding up_to
    rows-indices m l =
        let n = counted in
        let z : 0 + first_row rows ss m ≡ first_row rows ss m = omega arith in
        filter-numbered number numbered m m (omega arith) (omega arith) ∙ ap₂ up_from z (count-is m l)

    pub rows_are : (m : ℕ) → m < length ss →
        map row (up_from (first_row rows ss m) (length (rows (get_or ss m no_schema)))) ≡ rows (get_or ss m no_schema)
    rows_are m l = tabulate row (first_row rows ss m) (rows (get_or ss m no_schema)) none (λ k x. (reads m k l x).1)

    pub row_lies : (i : ℕ) → i < sum (row_counts rows ss) → Lies (first_row rows ss) number (length ss) i
    row_lies i l =
        let n = counted in
        let (m, a, b, d) = locate (row_counts rows ss) i l in
        let q = sum-take-suc (row_counts rows ss) m a in
        let e = count-is m (omega arith) in
        let g = first-suc m (omega arith) in
        let z : first_row rows ss m + (i - first_row rows ss m) ≡ i = omega arith in
        let y : number i ≡ m = ap number (sym z) ∙ (reads m (i - first_row rows ss m) (omega arith) (omega arith)).0 in
        record {
          known = omega arith;
          from_start = subst (λ (x : ℕ). first_row rows ss x ≤ i) (sym y) b;
          before-next = subst (λ (x : ℕ). i < first_row rows ss (suc x)) (sym y) (omega arith);
        }

    -- so their numbers never fall
    pub numbers-rise : (i : ℕ) → suc i < sum (row_counts rows ss) → number i ≤ number (suc i)
    numbers-rise i l = elim (dec_lt (number (suc i)) (number i)) [
      | no m ↦ omega arith
      | yes m ↦
          let x = (row_lies (suc i) l).before-next in
          let y = (row_lies i (omega arith)).from_start in
          let z = sum-take-rises (row_counts rows ss) (suc (number (suc i))) (number i) (omega arith) in
          absurd (omega arith)
    ]

    -- by counts of the schemas and of all rows
    pub by_index : {schemas total : ℕ} → length ss ≡ schemas → sum (row_counts rows ss) ≡ total → ByIndex schemas total
    by_index are all =
        subst₂ (λ (n m : ℕ). ByIndex n m) are all
        (record { next = first-suc; last = first-end; reads = reads; lies = row_lies })

-- ---- words whose rows are in file order
module _ {Row : Type 0} (words : ℕ → Row → List ℕ) (rows : Schema → List Row) (size : ℕ) (none : Row) (w : List ℕ)
    (base number : ℕ → ℕ) (row : ℕ → Row) (count schemas : ℕ)
    (step : (i j : ℕ) → base (i + j) ≡ base i + size * j)
    (even : (i n : ℕ) → i < count → length (words n (row i)) ≡ size)
    (stands : (i : ℕ) → i < count → At w (base i) (words (number i) (row i)))
    (known : (i : ℕ) → i < count → number i < schemas)
    (order : (i : ℕ) → suc i < count → number i ≤ number (suc i))
    (f : ℕ → Schema) (reads : (s : ℕ) → rows (f s) ≡ map row (naming number count s)) where
  runs : Blocks number 0 0 schemas count
  runs = blocks number schemas 0 0 count (λ k l. omega arith)
      (λ k l. rw (zero-add k) (let a = known k l in omega arith))
      (λ k l. rw (zero-add k, zero-add (suc k)) (order k l))
    where
      zero-add : (k : ℕ) → 0 + k ≡ k
      zero-add k = omega arith

  abbrev sizes : List ℕ
  sizes = runs.sizes

  rows_of : (m : ℕ) → m < schemas → rows (f m) ≡ map row (up_from (sum (take m sizes)) (get_or sizes m 0))
  unfolding up_to
  rows_of m l =
      let e = runs.total in
      let n = runs.count in
      let z : 0 + sum (take m sizes) ≡ sum (take m sizes) = omega arith in
      reads m ∙ (ap (λ (x : ℕ). map row (filter (λ i. eqb m (number i)) (up_from 0 x))) (sym e) ∙
      (ap (map row) (filter-numbered number runs.are m m (omega arith) (omega arith)) ∙
      ap (λ (x : ℕ). map row (up_from x (get_or sizes m 0))) z))

  even-in : (n i k : ℕ) → i + k ≤ count → (r : Row) → In r (map row (up_from i k)) → length (words n r) ≡ size
  even-in n i k h r j =
      let (x, y, z) = map-in row (up_from i k) r j in
      let (u, v) = up_from-in i k x y in
      rw z (even x n (omega arith))

  run-words : (n i k : ℕ) → i + k ≤ count → ((j : ℕ) → j < k → number (i + j) ≡ n) →
      At w (base i) (concat_map (words n) (map row (up_from i k)))
  run-words n i k h e = join-rows (words n) size w (base i) (map row (up_from i k)) none (even-in n i k h) at
    where
      at : (j : ℕ) → j < length (map row (up_from i k)) →
          At w (base i + size * j) (words n (get_or (map row (up_from i k)) j none))
      at j l =
          let q = length-map (up_from i k) row in
          let r = length-up_from i k in
          let m : j < k = omega arith in
          let a : At w (base i + size * j) (words (number (i + j)) (row (i + j))) =
          at-move w (base (i + j)) (base i + size * j) (words (number (i + j)) (row (i + j))) (step i j)
          (stands (i + j) (omega arith)) in
          subst (λ (x : List ℕ). At w (base i + size * j) x)
          (ap₂ words (e j m) (sym (get_or-mapped row i k j none m))) a

  runs-words : {n i : ℕ} {cs : List ℕ} → Numbered number n i cs → i + sum cs ≤ count →
      ((m : ℕ) → m < length cs → rows (f (n + m)) ≡ map row (up_from (i + sum (take m cs)) (get_or cs m 0))) →
      At w (base i) (rows_from words rows n (map f (up_from n (length cs))))
  unfolding rows_from up_from sum
  runs-words no_block h e = λ k l. absurd (omega arith)
  runs-words {n} {i} (block {c = c} {cs = cs} same more) h e =
      let xs : List Row = map row (up_from i c) in
      let z : n + 0 ≡ n = omega arith in
      let y : i + 0 ≡ i = omega arith in
      let a : rows (f n) ≡ xs = ap (λ (x : ℕ). rows (f x)) (sym z) ∙
      (e 0 (omega arith) ∙ ap (λ (x : ℕ). map row (up_from x c)) y) in
      let ws : List ℕ = concat_map (words n) (rows (f n)) in
      let rest : List ℕ = rows_from words rows (suc n) (map f (up_from (suc n) (length cs))) in
      let first : At w (base i) ws = subst (λ (x : List Row). At w (base i) (concat_map (words n) x))
      (sym a) (run-words n i c (omega arith) same) in
      let many : length xs ≡ c = length-map (up_from i c) row ∙ length-up_from i c in
      let len : length ws ≡ size * c = ap (λ (x : List Row). length (concat_map (words n) x)) a ∙
      (length-rows (words n) size xs (even-in n i c (omega arith)) ∙ ap (λ (x : ℕ). size * x) many) in
      let b = step i c in
      at_join w (base i) ws rest first
      (at-move w (base (i + c)) (base i + length ws) rest (omega arith)
      (runs-words more (omega arith) (λ m l.
      let p : suc n + m ≡ n + suc m = omega arith in
      let q : i + (c + sum (take m cs)) ≡ i + c + sum (take m cs) = omega arith in
      ap (λ (x : ℕ). rows (f x)) p ∙ (e (suc m) (omega arith) ∙
      ap (λ (x : ℕ). map row (up_from x (get_or cs m 0))) q))))

  -- they are those of the schemas one after another
  pub rows_words : At w (base 0) (rows_from words rows 0 (map f (up_to schemas)))
  unfolding up_to
  rows_words =
      let e = runs.total in
      let n = runs.count in
      subst (λ (x : ℕ). At w (base 0) (rows_from words rows 0 (map f (up_from 0 x)))) n
      (runs-words runs.are (omega arith) (λ m l.
      let z : 0 + m ≡ m = omega arith in
      let y : sum (take m sizes) ≡ 0 + sum (take m sizes) = omega arith in
      ap (λ (s : ℕ). rows (f s)) z ∙
      (rows_of m (omega arith) ∙ ap (λ (x : ℕ). map row (up_from x (get_or sizes m 0))) y)))

  counts-are : row_counts rows (map f (up_to schemas)) ≡ sizes
  unfolding up_to
  counts-are =
      map-map (up_from 0 schemas) ∙
      (ap (λ (x : ℕ). map (λ (s : ℕ). length (rows (f s))) (up_from 0 x)) (sym runs.count) ∙
      tabulate (λ (s : ℕ). length (rows (f s))) 0 sizes 0 each)
    where
      map-map : (xs : List ℕ) → row_counts rows (map f xs) ≡ map (λ (s : ℕ). length (rows (f s))) xs
      map-map [] = refl
      map-map (x ∷ xs) = ap {B = List ℕ} (λ (ys : List ℕ). length (rows (f x)) ∷ ys) (map-map xs)

      each : (k : ℕ) → k < length sizes → length (rows (f (0 + k))) ≡ get_or sizes k 0
      each k l =
          let z : 0 + k ≡ k = omega arith in
          let n = runs.count in
          ap (λ (s : ℕ). length (rows (f s))) z ∙ (ap length (rows_of k (omega arith)) ∙
          (length-map (up_from (sum (take k sizes)) (get_or sizes k 0)) row ∙
          length-up_from (sum (take k sizes)) (get_or sizes k 0)))

  pub rows-count : sum (row_counts rows (map f (up_to schemas))) ≡ count
  rows-count = ap sum counts-are ∙ runs.total
