-- Loops over the indices up to an end, with a test at each. The invariant: the whole is what is left of it at the
-- loop's index. It holds at first (a law for each form that the whole has, under 'at first'), holds again after an
-- index that doesn't decide (`-more`), and says what is answered where one does (`-fails`, `-found`), and at the end
-- (`-ends`). In a function's proof `search all-ends` and the like find the invariant and what was tested.
use Prim.Native.Nat.{ℕ, zero, suc, ◌+◌, ◌-◌, ◌≤◌, ◌<◌}
use mathlib.Core.Path.{◌≡◌, refl, sym, ◌∙◌, ap}
use mathlib.Core.Bool.{Bool, true, false, not, ◌&&◌, ◌||◌}
use mathlib.Core.List.{List, ◌∷◌, map}
use native.Mathlib.Omega.{arith}
use native.Mathlib.Numerals.{add-one}
use lib.ListN.{length, get_or}
use lib.Dec.{eqb}
use borrow.Author.Count.{below_more}
use borrow.Author.Tests.{not-true, not-false}
use Rattle.words.specs.Lists.{all, any, up_to, up_from}
use Rattle.words.specs.Words.{words_at}
use Rattle.words.specs.Sets.{member}
use Rattle.words.proofs.Lists.{false-if, both-ft, any-in, up_from-in, tabulate}
use Rattle.words.proofs.Ranges.{range-step, range-done, all_map, any-map, any-joins, any-joined}
use Rattle.words.proofs.BitSets.{member-zero}
use Rattle.words.proofs.Sums.{eqb-turn}

-- ---- a test of every index, left at the first that fails
pub record AllLeft (p : ℕ → Bool) (e : ℕ) (whole : Bool) (i : ℕ) : Type 0 where
  pub left : whole ≡ all p (up_from i (e - i))

module _ {p : ℕ → Bool} {e i : ℕ} {whole : Bool} (h : AllLeft p e whole i) where
  all_here : i < e → whole ≡ p i && all p (up_from (i + 1) (e - (i + 1)))
  unfolding all
  all_here l = h.left ∙ ap (all p) (range-step i e l)

  pub all_more : i < e → p i ≡ true → AllLeft p e whole (i + 1)
  all_more l t = record { left = all_here l ∙ ap (λ (b : Bool). b && all p (up_from (i + 1) (e - (i + 1)))) t }

  pub all-fails : i < e → p i ≡ false → false ≡ whole
  all-fails l t = sym (all_here l ∙ ap (λ (b : Bool). b && all p (up_from (i + 1) (e - (i + 1)))) t)

  pub all-ends : e ≤ i → true ≡ whole
  unfolding all
  all-ends l = sym (h.left ∙ ap (all p) (range-done i e l))

  -- where the test is a call's answer, and the loop is left if that is no
  pub all-no : {b : Bool} → i < e → b ≡ p i → not b ≡ true → false ≡ whole
  all-no l a t = all-fails l (sym a ∙ not-true _ t)

  pub all_yes : {b : Bool} → i < e → b ≡ p i → not b ≡ false → AllLeft p e whole (i + 1)
  all_yes l a t = all_more l (sym a ∙ not-false _ t)

-- ---- a search for an index, left at the first that is found
pub record AnyLeft (p : ℕ → Bool) (e : ℕ) (whole : Bool) (i : ℕ) : Type 0 where
  pub left : whole ≡ any p (up_from i (e - i))

module _ {p : ℕ → Bool} {e i : ℕ} {whole : Bool} (h : AnyLeft p e whole i) where
  any_here : i < e → whole ≡ p i || any p (up_from (i + 1) (e - (i + 1)))
  unfolding any
  any_here l = h.left ∙ ap (any p) (range-step i e l)

  pub any-more : i < e → p i ≡ false → AnyLeft p e whole (i + 1)
  any-more l t = record { left = any_here l ∙ ap (λ (b : Bool). b || any p (up_from (i + 1) (e - (i + 1)))) t }

  pub any_found : i < e → p i ≡ true → true ≡ whole
  any_found l t = sym (any_here l ∙ ap (λ (b : Bool). b || any p (up_from (i + 1) (e - (i + 1)))) t)

  -- the search may end before the indices do
  pub any_none : ((k : ℕ) → i ≤ k → k < e → p k ≡ false) → false ≡ whole
  any_none f = sym (h.left ∙ false-if (any p (up_from i (e - i))) (λ t.
      let (k, m, y) = any-in p (up_from i (e - i)) t in
      let (a, b) = up_from-in i (e - i) k m in
      both-ft y (f k a (omega arith))))

  pub any-ends : e ≤ i → false ≡ whole
  any-ends l = any_none (λ k a b. absurd (omega arith))

  -- where the test is a call's answer, and the loop is left if that is yes
  pub any-yes : {b : Bool} → i < e → b ≡ p i → b ≡ true → true ≡ whole
  any-yes l a t = any_found l (sym a ∙ t)

  pub any-no : {b : Bool} → i < e → b ≡ p i → b ≡ false → AnyLeft p e whole (i + 1)
  any-no l a t = any-more l (sym a ∙ t)

-- ---- a run of indices of which each is so, up to the first that isn't
pub run_more : (P : ℕ → Type 0) {from i : ℕ} → ((k : ℕ) → from ≤ k → k < i → P k) → P i →
    (k : ℕ) → from ≤ k → k < i + 1 → P k
run_more P {from} {i} h here k a l =
    below_more (λ j. from ≤ j → P j) i (λ j m b. h j b m) (λ _. here) k l a

-- ---- a set that grows by what each index brings
pub record SetLeft (p : ℕ → ℕ → Bool) (e : ℕ) (whole : ℕ → Bool) (set i : ℕ) : Type 0 where
  pub left : (x : ℕ) → whole x ≡ member set x || any (p x) (up_from i (e - i))

module _ {p : ℕ → ℕ → Bool} {e set i : ℕ} {whole : ℕ → Bool} (h : SetLeft p e whole set i) where
  pub set_more : {more : ℕ} → i < e → ((x : ℕ) → member more x ≡ member set x || p x i) →
      SetLeft p e whole more (i + 1)
  set_more l g = record { left = λ x. any-joins (p x) i e (member set x) (h.left x) l (g x) }

  pub set-ends : e ≤ i → (x : ℕ) → member set x ≡ whole x
  set-ends l x = any-joined (p x) i e (member set x) (h.left x) l

-- what the indices bring, or the elements of another list, joins the empty set
pub set-start : {p : ℕ → ℕ → Bool} {e i : ℕ} → SetLeft p e (λ x. any (p x) (up_from i (e - i))) 0 i
set-start {p} {e} {i} = record {
  left = λ x.
      ap (λ (b : Bool). b || any (p x) (up_from i (e - i))) (sym (member-zero x));
}

pub set-mapped : {A : Type 0} (p : ℕ → A → Bool) (f : ℕ → A) (i e : ℕ) →
    SetLeft (λ x k. p x (f k)) e (λ x. any (p x) (map f (up_from i (e - i)))) 0 i
set-mapped p f i e = record {
  left = λ x.
      any-map (p x) f (up_from i (e - i)) ∙ (set-start {p = λ x k. p x (f k)} {e = e} {i = i}).left x;
}

-- the numbers of a list join a set
pub set-joins : (set : ℕ) (xs : List ℕ) {e : ℕ} → length xs ≡ e →
    SetLeft (λ x k. eqb x (get_or xs k 0)) e (λ x. member set x || any (λ y. eqb x y) xs) set 0
set-joins set xs {e} h =
    let z : length xs ≡ e - 0 = omega arith in
    let f : ℕ → ℕ = λ k. get_or xs k 0 in
    let q = tabulate f 0 xs 0 (λ k l. let o : 0 + k ≡ k = omega arith in ap f o) in
    record {
      left = λ x. ap (λ (b : Bool). member set x || b)
          (ap (any (λ y. eqb x y)) (sym q) ∙ (any-map (λ y. eqb x y) f (up_from 0 (length xs)) ∙
          ap (λ (n : ℕ). any (λ k. eqb x (f k)) (up_from 0 n)) z));
    }

-- the words from a place to another join a set
pub set-between : (w : List ℕ) (set i e : ℕ) →
    SetLeft (λ x k. eqb x (get_or w k 0)) e (λ x. member set x || any (λ y. eqb x y) (words_at w i (e - i))) set i
unfolding words_at
set-between w set i e = record {
  left = λ x.
      ap (λ (b : Bool). member set x || b) (any-map (λ y. eqb x y) (λ k. get_or w k 0) (up_from i (e - i)));
}

-- one number is brought
pub with_number : (set more n : ℕ) {m : ℕ} → ((x : ℕ) → member more x ≡ member set x || eqb m x) → m ≡ n → (x : ℕ) →
    member more x ≡ member set x || eqb x n
with_number set more n h e x = h x ∙ ap (λ (b : Bool). member set x || b)
    (ap (λ (k : ℕ). eqb k x) e ∙ eqb-turn n x)

-- ---- at first
-- the indices of one range are those of another, moved
moved : (i s n : ℕ) → up_from (i + s) n ≡ map (λ k. i + k) (up_from s n)
unfolding up_from
moved i s zero = refl
moved i s (suc n) =
    let e : suc (i + s) ≡ i + suc s = omega arith in
    ap {B = List ℕ} (λ (is : List ℕ). (i + s) ∷ is) (ap (λ (x : ℕ). up_from x n) e ∙ moved i (suc s) n)

words-moved : (w : List ℕ) (i n : ℕ) → words_at w i n ≡ map (λ k. get_or w k 0) (map (λ k. i + k) (up_from 0 (n - 0)))
unfolding words_at
words-moved w i n =
    let a : i ≡ i + 0 = omega arith in
    let b : n ≡ n - 0 = omega arith in
    ap (map (λ k. get_or w k 0)) (ap (λ (x : ℕ). up_from x n) a ∙ (ap (up_from (i + 0)) b ∙ moved i 0 (n - 0)))

pub all_start : {p : ℕ → Bool} {e i : ℕ} → AllLeft p e (all p (up_from i (e - i))) i
all_start = record { left = refl }

pub any-start : {p : ℕ → Bool} {e i : ℕ} → AnyLeft p e (any p (up_from i (e - i))) i
any-start = record { left = refl }

up-to : {n e : ℕ} → n ≡ e → up_to n ≡ up_from 0 (e - 0)
unfolding up_to
up-to {n} {e} h = let z : n ≡ e - 0 = omega arith in ap (up_from 0) z

pub all-up-to : {p : ℕ → Bool} {n e : ℕ} → n ≡ e → AllLeft p e (all p (up_to n)) 0
all-up-to {p} h = record { left = ap (all p) (up-to h) }

pub any-up-to : {p : ℕ → Bool} {n e : ℕ} → n ≡ e → AnyLeft p e (any p (up_to n)) 0
any-up-to {p} h = record { left = ap (any p) (up-to h) }

-- the elements of another list
pub all-mapped : {A : Type 0} (p : A → Bool) (f : ℕ → A) (i e : ℕ) →
    AllLeft (λ k. p (f k)) e (all p (map f (up_from i (e - i)))) i
all-mapped p f i e = record { left = all_map p f (up_from i (e - i)) }

-- words by their place, and by their number from a place on
pub all-between : (p : ℕ → Bool) (w : List ℕ) (i e : ℕ) →
    AllLeft (λ k. p (get_or w k 0)) e (all p (words_at w i (e - i))) i
unfolding words_at
all-between p w i e = all-mapped p (λ k. get_or w k 0) i e

module _ (p : ℕ → Bool) (w : List ℕ) (i n : ℕ) where
  pub all_words : AllLeft (λ k. p (get_or w (i + k) 0)) n (all p (words_at w i n)) 0
  all_words = record {
    left = ap (all p) (words-moved w i n) ∙
        (all_map p (λ k. get_or w k 0) (map (λ k. i + k) (up_from 0 (n - 0))) ∙
        all_map (λ k. p (get_or w k 0)) (λ k. i + k) (up_from 0 (n - 0)));
  }

-- a test that is given by what it says at each index
module _ (left p : ℕ → Bool) (e : ℕ) (step : (k : ℕ) → k < e → left k ≡ p k && left (k + 1))
    (ends : (k : ℕ) → e ≤ k → left k ≡ true) where
  by-steps : (n i : ℕ) → n ≡ e - i → left i ≡ all p (up_from i n)
  unfolding all up_from
  by-steps zero i h = ends i (omega arith)
  by-steps (suc n) i h = step i (omega arith) ∙
      ap (λ (b : Bool). p i && b) (ap left (add-one i) ∙ by-steps n (suc i) (omega arith))

  pub all-steps : (i : ℕ) → AllLeft p e (left i) i
  all-steps i = record { left = by-steps (e - i) i refl }
