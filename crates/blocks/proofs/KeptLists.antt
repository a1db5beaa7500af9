-- The parts and the blocks that code makes, one more at each turn, with thirteen words each.
use Prim.Native.Nat.{ℕ, zero, suc, ◌+◌, ◌*◌, ◌≤◌}
use mathlib.Core.Path.{◌≡◌, refl, sym, ◌∙◌, ap}
use mathlib.Core.List.{List, [], ◌∷◌, ◌++◌, map, append-nil}
use native.Mathlib.Omega.{arith}
use native.Mathlib.Decide.{dec_le}
use native.Mathlib.Numerals.{add-one}
use lib.ListN.{length, get_or, length-map, length-append}
use Rattle.words.specs.Lists.{concat_map, sum, up_to, up_from}
use Rattle.task.specs.Limits.{most_parameters, step_size}
use Rattle.task.specs.Run.{Step, step_words}
use Rattle.words.proofs.Lists.{map-in, append-concat_map, sum-append, map-append, length-up_to, up_to-suc, concat_map-in}
use Rattle.task.proofs.StepWords.{StepSized, length-step_words, length-steps}
use Rattle.blocks.specs.Blocks.{list_words}
use Rattle.tokens.specs.Kept.{kept_own}
use Rattle.blocks.specs.Unfolding.{part_from, parts_from, count_from, sum_from, blocks_from}
use Rattle.blocks.proofs.KeptWords.{objects-few}

-- what is made of the numbers below i, one more
concat_map-more : {A : Type 0} (f : ℕ → List A) (i : ℕ) → concat_map f (up_to (i + 1)) ≡ concat_map f (up_to i) ++ f i
unfolding concat_map
concat_map-more f i =
    ap (λ (n : ℕ). concat_map f (up_to n)) (add-one i)
    ∙ (ap (concat_map f) (up_to-suc i)
    ∙ (append-concat_map f (up_to i) (i ∷ []) ∙ ap (λ xs. concat_map f (up_to i) ++ xs) (append-nil (f i))))

map_more : {A : Type 0} (f : ℕ → A) (i : ℕ) → map f (up_to (i + 1)) ≡ map f (up_to i) ++ (f i ∷ [])
map_more f i =
    ap (λ (n : ℕ). map f (up_to n)) (add-one i) ∙ (ap (map f) (up_to-suc i) ∙ map-append f (up_to i) (i ∷ []))

pub words-none : list_words [] ≡ []
unfolding list_words concat_map
words-none = refl

pub words_append : (xs ys : List Step) → list_words (xs ++ ys) ≡ list_words xs ++ list_words ys
unfolding list_words
words_append xs ys = append-concat_map step_words xs ys

-- ---- the parts of a step
module _ (steps kept : List ℕ) (at : ℕ) where
  pub part-long : (j : ℕ) → length (step_words (part_from steps kept at j)) ≡ step_size
  unfolding part_from
  part-long j =
      length-step_words (part_from steps kept at j)
      (objects-few steps at (kept_own kept (get_or steps at 0) j) most_parameters)

  pub parts_none : list_words (parts_from steps kept at 0) ≡ []
  unfolding list_words concat_map parts_from up_to up_from
  parts_none = refl

  pub parts_more : (j : ℕ) → list_words (parts_from steps kept at (j + 1)) ≡
      list_words (parts_from steps kept at j) ++ step_words (part_from steps kept at j)
  unfolding list_words concat_map parts_from
  parts_more j =
      ap (concat_map step_words) (map_more (part_from steps kept at) j)
      ∙ (append-concat_map step_words (map (part_from steps kept at) (up_to j)) (part_from steps kept at j ∷ [])
      ∙ ap (λ xs. concat_map step_words (map (part_from steps kept at) (up_to j)) ++ xs)
      (append-nil (step_words (part_from steps kept at j))))

  pub length-parts : (n : ℕ) → length (parts_from steps kept at n) ≡ n
  unfolding parts_from
  length-parts n = length-map (up_to n) (part_from steps kept at) ∙ length-up_to n

  pub length-part-words : (n : ℕ) → length (list_words (parts_from steps kept at n)) ≡ step_size * n
  unfolding list_words parts_from
  length-part-words n =
      length-steps (parts_from steps kept at n) (λ x i.
      let (j, k, e) = map-in (part_from steps kept at) (up_to n) x i in
      ap (λ (y : Step). length (step_words y)) e ∙ part-long j)
      ∙ ap (λ k. step_size * k) (length-parts n)

-- ---- the part counts of steps
module _ (steps kept : List ℕ) where
  pub sum-none : sum_from steps kept 0 ≡ 0
  unfolding sum_from sum up_to up_from
  sum-none = refl

  pub sum_more : (i : ℕ) → sum_from steps kept (i + 1) ≡ sum_from steps kept i + count_from steps kept (step_size * i)
  unfolding sum_from sum
  sum_more i =
      let f : ℕ → ℕ = λ i. count_from steps kept (step_size * i) in
      ap sum (map_more f i) ∙ (sum-append (map f (up_to i)) (f i ∷ []) ∙ omega arith)

  pub sum-grows : (i n : ℕ) → i ≤ n → sum_from steps kept i ≤ sum_from steps kept n
  sum-grows i zero l = let e : i ≡ 0 = omega arith in rw e (omega arith)
  sum-grows i (suc n) l = elim (dec_le i n) [
    | yes k ↦
        let a = sum-grows i n k in
        let b = sum_more n in
        let c = ap (sum_from steps kept) (add-one n) in
        omega arith
    | no k ↦ let e : i ≡ suc n = omega arith in rw e (omega arith)
  ]

-- ---- the blocks of steps
module _ (steps kept : List ℕ) where
  pub blocks-none : blocks_from steps kept 0 ≡ []
  unfolding blocks_from concat_map up_to up_from
  blocks-none = refl

  pub blocks_more : (i : ℕ) → blocks_from steps kept (i + 1) ≡
      blocks_from steps kept i ++
      parts_from steps kept (step_size * i) (count_from steps kept (step_size * i))
  unfolding blocks_from
  blocks_more i =
      concat_map-more (λ (i : ℕ). parts_from steps kept (step_size * i) (count_from steps kept (step_size * i))) i

  blocks-sized : (n : ℕ) → StepSized (blocks_from steps kept n)
  unfolding blocks_from parts_from
  blocks-sized n x i =
      let (k, a, b) = concat_map-in (λ (i : ℕ). parts_from steps kept (step_size * i)
      (count_from steps kept (step_size * i)))
      (up_to n) x i in
      let (j, c, e) = map-in (part_from steps kept (step_size * k)) (up_to (count_from steps kept (step_size * k))) x b in
      ap (λ (y : Step). length (step_words y)) e ∙ part-long steps kept (step_size * k) j

  pub length-blocks : (n : ℕ) → length (blocks_from steps kept n) ≡ sum_from steps kept n
  length-blocks zero = ap length blocks-none ∙ sym (sum-none steps kept)
  length-blocks (suc n) =
      let f : ℕ → ℕ = λ i. length (blocks_from steps kept i) in
      ap f (sym (add-one n))
      ∙ (ap length (blocks_more n)
      ∙ (length-append (blocks_from steps kept n)
      (parts_from steps kept (step_size * n) (count_from steps kept (step_size * n)))
      ∙ (omega (
        arith,
        length-blocks n,
        length-parts steps kept (step_size * n) (count_from steps kept (step_size * n)),
        sum_more steps kept n,
        ap (sum_from steps kept) (add-one n),
      ))))

  pub length-words : (n : ℕ) → length (list_words (blocks_from steps kept n)) ≡ step_size * sum_from steps kept n
  unfolding list_words
  length-words n = length-steps (blocks_from steps kept n) (blocks-sized n)
      ∙ ap (λ k. step_size * k) (length-blocks n)
