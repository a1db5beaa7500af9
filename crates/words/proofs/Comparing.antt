-- Two runs of words compared.
use Prim.Native.Nat.{ℕ, suc, ◌+◌, ◌-◌, ◌≤◌, ◌<◌}
use mathlib.Core.Path.{◌≡◌, refl, sym, ◌∙◌, ap, ap₂}
use mathlib.Core.Bool.{Bool, false, ◌&&◌, ◌||◌}
use mathlib.Core.List.{List, [], ◌∷◌, ◌++◌}
use native.Mathlib.Omega.{arith}
use lib.ListN.{get_or, length, replicate}
use lib.Dec.{eqb, ltb}
use lib.ListN.{take, drop}
use lib.Pointwise.{pointwise}
use Rattle.std.specs.Ordering.{is_lt, is_some_and, nat_cmp}
use Rattle.std.specs.Prelude.{Some}
use Rattle.std.specs.Cmp.Lexicographic.{slice_partial_cmp}
use Rattle.std.proofs.lemmas.Cmp.{same_from_slice_cmp_tested}
use Rattle.std.proofs.lemmas.Bool.Decides.{nat_tests}
use borrow.Author.Tests.{eq-eqb, ne_eqb, le-ltb}
use Rattle.words.specs.Lists.{up_from, eq_list, less_list, padded}
use Rattle.words.specs.Words.{words_at}
use Rattle.words.proofs.Chains.{slice_words}
use Rattle.words.proofs.Ranges.{or-false}
use Rattle.words.proofs.Loops.{AllLeft, all-steps}
use Rattle.words.proofs.Lists.{false-if, eq_list-refl, less_list-less, less-irrefl}

-- two stretches of a slice, compared as slices are: `==` and `<`
pub same-slices : (xs ys : List ℕ) → pointwise eqb xs ys ≡ eq_list xs ys
unfolding eq_list
same-slices [] [] = refl
same-slices [] (y ∷ ys) = refl
same-slices (x ∷ xs) [] = refl
same-slices (x ∷ xs) (y ∷ ys) = ap (◌&&◌ (eqb x y)) (same-slices xs ys)

abbrev pub slice_less : List ℕ → List ℕ → Bool
slice_less xs ys = is_some_and is_lt (slice_partial_cmp (λ x y. Some (nat_cmp x y)) xs ys)

pub less-slices : (xs ys : List ℕ) (r : Bool) → r ≡ slice_less xs ys → r ≡ less_list xs ys
unfolding less_list
less-slices = same_from_slice_cmp_tested nat_cmp is_lt less_list refl (λ _ _. refl) (λ _ _. refl)
    (λ x y xs ys o h. grind (arith, nat_tests))

module _ (w : List ℕ) (i j n : ℕ) {a b : ℕ} {r : Bool} (l : i + n ≤ length w) (k : j + n ≤ length w)
    (p : a ≡ n) (q : b ≡ n) where
  pub same_by_slices : r ≡ pointwise eqb (take a (drop i w)) (take b (drop j w)) →
      r ≡ eq_list (words_at w i n) (words_at w j n)
  same_by_slices e =
      e ∙ (ap₂ (pointwise eqb) (slice_words w i n a l p) (slice_words w j n b k q) ∙
      same-slices (words_at w i n) (words_at w j n))

  pub less_by_slices : r ≡ slice_less (take a (drop i w)) (take b (drop j w)) →
      r ≡ less_list (words_at w i n) (words_at w j n)
  less_by_slices e =
      less-slices _ _ r (e ∙ ap₂ slice_less (slice_words w i n a l p) (slice_words w j n b k q))

-- ---- the same, word after word: the whole comparison is what is left of it at word k
words_step : (w : List ℕ) (i n k : ℕ) → k < n → words_at w (i + k) (n - k) ≡
    get_or w (i + k) 0 ∷ words_at w (i + (k + 1)) (n - (k + 1))
unfolding words_at up_from
words_step w i n k l =
    let q : n - k ≡ suc (n - (k + 1)) = omega arith in
    let s : suc (i + k) ≡ i + (k + 1) = omega arith in
    rw (q, s) refl

words-done : (w : List ℕ) (i n k : ℕ) → n ≤ k → words_at w (i + k) (n - k) ≡ []
unfolding words_at up_from
words-done w i n k l = let q : n - k ≡ 0 = omega arith in rw q refl

words-start : (w : List ℕ) (i n : ℕ) → words_at w i n ≡ words_at w (i + 0) (n - 0)
words-start w i n = ap₂ (words_at w) (omega arith) (omega arith)

-- ---- whether they are the same
module _ (w : List ℕ) (i j : ℕ) where
  abbrev pub same_at : ℕ → Bool
  same_at k = eqb (get_or w (i + k) 0) (get_or w (j + k) 0)

  pub same_start : (n : ℕ) → AllLeft same_at n (eq_list (words_at w i n) (words_at w j n)) 0
  unfolding eq_list
  same_start n = record {
    left = ap₂ eq_list (words-start w i n) (words-start w j n) ∙ (all-steps
        (λ k. eq_list (words_at w (i + k) (n - k)) (words_at w (j + k) (n - k))) same_at n
        (λ k l. ap₂ eq_list (words_step w i n k l) (words_step w j n k l))
        (λ k l. ap₂ eq_list (words-done w i n k l) (words-done w j n k l)) 0).left;
  }

-- ---- whether the first come before the second
pub record LessLeft (w : List ℕ) (i j n k : ℕ) : Type 0 where
  pub left : less_list (words_at w i n) (words_at w j n) ≡
      less_list (words_at w (i + k) (n - k)) (words_at w (j + k) (n - k))

pub less-start : {w : List ℕ} {i j n : ℕ} → LessLeft w i j n 0
less-start {w} {i} {j} {n} = record { left = ap₂ less_list (words-start w i n) (words-start w j n) }

module _ {w : List ℕ} {i j n k : ℕ} (h : LessLeft w i j n k) where
  abbrev whole : Bool
  whole = less_list (words_at w i n) (words_at w j n)

  abbrev rest : Bool
  rest = less_list (words_at w (i + (k + 1)) (n - (k + 1))) (words_at w (j + (k + 1)) (n - (k + 1)))

  abbrev x : ℕ
  x = get_or w (i + k) 0

  abbrev y : ℕ
  y = get_or w (j + k) 0

  less-step : k < n → whole ≡ ltb x y || (eqb x y && rest)
  unfolding less_list
  less-step l = h.left ∙ ap₂ less_list (words_step w i n k l) (words_step w j n k l)

  pub less-more : k < n → x ≡ y → LessLeft w i j n (k + 1)
  less-more l e = record {
    left = less-step l ∙
        ap₂ (λ (a b : Bool). a || (b && rest)) (le-ltb x y (omega arith)) (eq-eqb x y e);
  }

  pub less-decides : k < n → (x ≡ y → ⊥) → ltb x y ≡ whole
  less-decides l e =
      sym (less-step l ∙ (ap (λ (b : Bool). ltb x y || (b && rest)) (ne_eqb x y e) ∙ or-false (ltb x y)))

  pub less-ends : n ≤ k → false ≡ whole
  unfolding less_list
  less-ends l = sym (h.left ∙ ap₂ less_list (words-done w i n k l) (words-done w j n k l))

-- ---- what follows two lists of one length alike doesn't matter
pub less-alike : (xs ys zs : List ℕ) → length xs ≡ length ys → less_list (xs ++ zs) (ys ++ zs) ≡ less_list xs ys
unfolding less_list
less-alike [] [] zs e = false-if (less_list zs zs) (λ h. less-irrefl zs (less_list-less zs zs h))
less-alike [] (y ∷ ys) zs e = absurd (omega arith)
less-alike (x ∷ xs) [] zs e = absurd (omega arith)
less-alike (x ∷ xs) (y ∷ ys) zs e = ap (λ (b : Bool). ltb x y || (eqb x y && b)) (less-alike xs ys zs (omega arith))

pub eq-alike : (xs ys zs : List ℕ) → length xs ≡ length ys → eq_list (xs ++ zs) (ys ++ zs) ≡ eq_list xs ys
unfolding eq_list
eq-alike [] [] zs e = eq_list-refl zs
eq-alike [] (y ∷ ys) zs e = absurd (omega arith)
eq-alike (x ∷ xs) [] zs e = absurd (omega arith)
eq-alike (x ∷ xs) (y ∷ ys) zs e = ap (◌&&◌ (eqb x y)) (eq-alike xs ys zs (omega arith))

module _ (n : ℕ) (xs ys : List ℕ) (e : length xs ≡ length ys) where
  pub less-padded : less_list (padded n xs) (padded n ys) ≡ less_list xs ys
  unfolding padded
  less-padded =
      ap (λ (k : ℕ). less_list (xs ++ replicate (n - length xs) 0) (ys ++ replicate (n - k) 0)) (sym e) ∙
      less-alike xs ys (replicate (n - length xs) 0) e

  pub eq-padded : eq_list (padded n xs) (padded n ys) ≡ eq_list xs ys
  unfolding padded
  eq-padded =
      ap (λ (k : ℕ). eq_list (xs ++ replicate (n - length xs) 0) (ys ++ replicate (n - k) 0)) (sym e) ∙
      eq-alike xs ys (replicate (n - length xs) 0) e
