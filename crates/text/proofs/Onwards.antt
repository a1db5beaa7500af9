-- What is still to come of a list that is written by a counter: the pieces from a number on. And lists of numbers so,
-- each with the byte behind it: a comma, or byte 10 behind the last.
use Prim.Native.Nat.{ℕ, suc, ◌+◌, ◌-◌, ◌*◌, ◌≤◌, ◌<◌}
use mathlib.Core.Path.{◌≡◌, refl, sym, ◌∙◌, ap}
use mathlib.Core.List.{List, [], ◌∷◌, ◌++◌, map, append_assoc}
use native.Mathlib.Omega.{arith}
use lib.ListN.{length, get_or}
use Rattle.words.specs.Lists.{up_to, up_from, concat_map}
use Rattle.text.specs.Lines.{comma, newline, digits, commaed}
use Rattle.text.specs.TableLines.{spaced}

-- the pieces k, k + 1, .., n - 1
abbrev pub onwards : (ℕ → List ℕ) → ℕ → ℕ → List ℕ
onwards piece k n = concat_map piece (up_from k (n - k))

pub onwards-next : (piece : ℕ → List ℕ) (k n : ℕ) → k < n → onwards piece k n ≡ piece k ++ onwards piece (k + 1) n
unfolding concat_map up_from
onwards-next piece k n h =
    let e : n - k ≡ suc (n - (k + 1)) = omega arith in
    let q : suc k ≡ k + 1 = omega arith in
    ap (λ (m : ℕ). concat_map piece (up_from k m)) e ∙
    ap (λ (i : ℕ). piece k ++ concat_map piece (up_from i (n - (k + 1)))) q

pub onwards-none : (piece : ℕ → List ℕ) (k n : ℕ) → n ≤ k → onwards piece k n ≡ []
unfolding concat_map up_from
onwards-none piece k n h = let e : n - k ≡ 0 = omega arith in ap (λ (m : ℕ). concat_map piece (up_from k m)) e

pub onwards-all : (piece : ℕ → List ℕ) (n : ℕ) → onwards piece 0 n ≡ concat_map piece (up_to n)
unfolding up_to
onwards-all piece n = let e : n - 0 ≡ n = omega arith in ap (λ (m : ℕ). concat_map piece (up_from 0 m)) e

pub onwards-short : (piece : ℕ → List ℕ) (k n : ℕ) → n ≤ k → length (onwards piece k n) ≡ 0
onwards-short piece k n h = ap length (onwards-none piece k n h)

-- ---- lists of numbers
-- the numbers from k on of a spaced list, and byte 10 behind the last
abbrev pub listing : List ℕ → ℕ → ℕ → ℕ → ℕ → List ℕ
listing w from step k n = commaed (map (λ j. get_or w (from + step * j) 0) (up_from k (n - k))) ++ (newline ∷ [])

pub listing-all : (w : List ℕ) (from step n : ℕ) →
    commaed (spaced w from step n) ++ (newline ∷ []) ≡ listing w from step 0 n
unfolding spaced up_to
listing-all w from step n =
    let e : n ≡ n - 0 = omega arith in
    ap (λ (m : ℕ). commaed (map (λ j. get_or w (from + step * j) 0) (up_from 0 m)) ++ (newline ∷ [])) e

pub listing_none : (w : List ℕ) (from step : ℕ) → commaed (spaced w from step 0) ++ (newline ∷ []) ≡ newline ∷ []
unfolding commaed spaced up_to up_from
listing_none w from step = refl

-- number k with a comma behind it, or with byte 10 where it is the last
module _ (w : List ℕ) (from step k n : ℕ) where
  pub listing-next : k + 1 < n →
      listing w from step k n ≡
      (digits (get_or w (from + step * k) 0) ++ (comma ∷ [])) ++ listing w from step (k + 1) n
  unfolding commaed up_from
  listing-next h =
      let number = digits (get_or w (from + step * k) 0) in
      let rest : ℕ → ℕ → List ℕ = λ i m. commaed (map (λ j. get_or w (from + step * j) 0) (up_from i m)) in
      let e : n - k ≡ suc (suc (n - (k + 2))) = omega arith in
      let q : suc (n - (k + 2)) ≡ n - (k + 1) = omega arith in
      let i : suc k ≡ k + 1 = omega arith in
      ap (λ (m : ℕ). rest k m ++ (newline ∷ [])) e ∙
      (append_assoc number (comma ∷ rest (suc k) (suc (n - (k + 2)))) (newline ∷ []) ∙
      (ap (λ (m : ℕ). number ++ (comma ∷ (rest (suc k) m ++ (newline ∷ [])))) q ∙
      (ap (λ (i : ℕ). number ++ (comma ∷ (rest i (n - (k + 1)) ++ (newline ∷ [])))) i ∙
      sym (append_assoc number (comma ∷ []) (rest (k + 1) (n - (k + 1)) ++ (newline ∷ []))))))

  pub listing-last : k + 1 ≡ n → listing w from step k n ≡ digits (get_or w (from + step * k) 0) ++ (newline ∷ [])
  unfolding commaed up_from
  listing-last h =
      let e : n - k ≡ 1 = omega arith in
      ap (λ (m : ℕ). commaed (map (λ j. get_or w (from + step * j) 0) (up_from k m)) ++ (newline ∷ [])) e
