-- Tests over a range of indices, as a loop makes them: the whole test is what is left of it at the loop's index, so
-- that a turn goes one element further, a failed element ends it, and an empty rest is met.
use Prim.Native.Nat.{ℕ, suc, ◌+◌, ◌-◌, ◌≤◌, ◌<◌}
use mathlib.Core.Path.{◌≡◌, refl, sym, ◌∙◌, ap, ap₂}
use mathlib.Core.Bool.{Bool, true, false, ◌&&◌, ◌||◌, and-true, and_assoc}
use mathlib.Core.List.{List, [], ◌∷◌, ◌++◌, map}
use native.Mathlib.Omega.{arith}
use native.Mathlib.Numerals.{add-one}
use lib.ListN.{get_or}
use Rattle.words.specs.Lists.{all, any, every, up_to, up_from}
use Rattle.words.proofs.Lists.{and_left, and_right, and_both, both-ft, bool-ext, false-if, every-at, Met}
use Rattle.words.proofs.Lists.{met-none, met-more, all_in, in_all, in-up_from, up_from-in, in-up_to}
use Rattle.words.proofs.Lists.{up_to-in}

pub or-false : (b : Bool) → b || false ≡ b
or-false true = refl
or-false false = refl

pub or_assoc : (a b c : Bool) → (a || b) || c ≡ a || (b || c)
or_assoc true b c = refl
or_assoc false b c = refl

-- one list behind another, and one element more
pub any_append : {A : Type 0} (p : A → Bool) (xs ys : List A) → any p (xs ++ ys) ≡ any p xs || any p ys
unfolding any
any_append p [] ys = refl
any_append p (x ∷ xs) ys = ap (λ (b : Bool). p x || b) (any_append p xs ys) ∙ sym (or_assoc (p x) (any p xs) (any p ys))

pub any_last : {A : Type 0} (p : A → Bool) (xs : List A) (x : A) → any p (xs ++ (x ∷ [])) ≡ any p xs || p x
unfolding any
any_last p xs x = any_append p xs (x ∷ []) ∙ ap (λ (b : Bool). any p xs || b) (or-false (p x))

pub and-more : {t rest whole : Bool} → whole ≡ t && rest → t ≡ true → whole ≡ rest
and-more {rest = rest} h e = h ∙ ap (λ (b : Bool). b && rest) e

pub and-fails : {t whole : Bool} (rest : Bool) → whole ≡ t && rest → t ≡ false → false ≡ whole
and-fails rest h e = sym (h ∙ ap (λ (b : Bool). b && rest) e)

-- ---- lists of tests, made one after another
pub some-fails : (bs : List Bool) (k : ℕ) → get_or bs k true ≡ false → false ≡ every bs
some-fails bs k e = sym (false-if (every bs) (λ h. both-ft (every-at bs h k) e))

pub last-decides : {bs : List Bool} (b : Bool) → Met bs → b ≡ every (bs ++ (b ∷ []))
unfolding every
last-decides true met-none = refl
last-decides false met-none = refl
last-decides {bs = c ∷ bs} b (met-more h m) = last-decides b m ∙ sym (ap (λ (x : Bool). x && every (bs ++ (b ∷ []))) h)

-- ---- one element further
pub range-step : (i e : ℕ) → i < e → up_from i (e - i) ≡ i ∷ up_from (i + 1) (e - (i + 1))
unfolding up_from
range-step i e l = let q : e - i ≡ suc (e - (i + 1)) = omega arith in rw (q, add-one) refl

pub range-done : (i e : ℕ) → e ≤ i → up_from i (e - i) ≡ []
unfolding up_from
range-done i e l = let q : e - i ≡ 0 = omega arith in rw q refl

-- ---- what is met or found so far joins what is left
module _ (p : ℕ → Bool) (i e : ℕ) where
  abbrev all_left : ℕ → Bool
  all_left k = all p (up_from k (e - k))

  abbrev any_left : ℕ → Bool
  any_left k = any p (up_from k (e - k))

  pub all-joins : {whole m' : Bool} (m : Bool) → whole ≡ m && all_left i → i < e → m' ≡ m && p i → whole ≡ m' &&
      all_left (i + 1)
  unfolding all
  all-joins m h l t =
      h ∙ (ap (λ (is : List ℕ). m && all p is) (range-step i e l) ∙
      (sym (and_assoc m (p i) (all_left (i + 1))) ∙ ap (λ (b : Bool). b && all_left (i + 1)) (sym t)))

  pub all-joined : {whole : Bool} (m : Bool) → whole ≡ m && all_left i → e ≤ i → m ≡ whole
  unfolding all
  all-joined m h l = sym (h ∙ (ap (λ (is : List ℕ). m && all p is) (range-done i e l) ∙ and-true m))

  pub any-joins : {whole m' : Bool} (m : Bool) → whole ≡ m || any_left i → i < e → m' ≡ m || p i → whole ≡ m' ||
      any_left (i + 1)
  unfolding any
  any-joins m h l t =
      h ∙ (ap (λ (is : List ℕ). m || any p is) (range-step i e l) ∙
      (sym (or_assoc m (p i) (any_left (i + 1))) ∙ ap (λ (b : Bool). b || any_left (i + 1)) (sym t)))

  pub any-joined : {whole : Bool} (m : Bool) → whole ≡ m || any_left i → e ≤ i → m ≡ whole
  unfolding any
  any-joined m h l = sym (h ∙ (ap (λ (is : List ℕ). m || any p is) (range-done i e l) ∙ or-false m))

-- ---- every index of a range
module _ (p : ℕ → Bool) where
  pub all_from : (s n : ℕ) → all p (up_from s n) ≡ true → (i : ℕ) → s ≤ i → i < s + n → p i ≡ true
  all_from s n h i a b = all_in p h (in-up_from s n i a b)

  pub from_all : (s n : ℕ) → ((i : ℕ) → s ≤ i → i < s + n → p i ≡ true) → all p (up_from s n) ≡ true
  from_all s n h = in_all p (up_from s n) (λ i k. let (a, b) = up_from-in s n i k in h i a b)

  pub all-below : (n : ℕ) → all p (up_to n) ≡ true → (i : ℕ) → i < n → p i ≡ true
  all-below n h i l = all_in p h (in-up_to n i l)

  pub below_all : (n : ℕ) → ((i : ℕ) → i < n → p i ≡ true) → all p (up_to n) ≡ true
  below_all n h = in_all p (up_to n) (λ i k. h i (up_to-in n i k))

-- ---- tests of the elements of another list, two tests at once
module _ {A : Type 0} where
  pub all_map : {B : Type 0} (p : B → Bool) (f : A → B) (xs : List A) → all p (map f xs) ≡ all (λ x. p (f x)) xs
  unfolding all
  all_map p f [] = refl
  all_map p f (x ∷ xs) = ap (λ (b : Bool). p (f x) && b) (all_map p f xs)

  pub any-map : {B : Type 0} (p : B → Bool) (f : A → B) (xs : List A) → any p (map f xs) ≡ any (λ x. p (f x)) xs
  unfolding any
  any-map p f [] = refl
  any-map p f (x ∷ xs) = ap (λ (b : Bool). p (f x) || b) (any-map p f xs)

  pub all_same : (p q : A → Bool) (xs : List A) → ((x : A) → p x ≡ q x) → all p xs ≡ all q xs
  unfolding all
  all_same p q [] h = refl
  all_same p q (x ∷ xs) h = ap₂ (λ (a b : Bool). a && b) (h x) (all_same p q xs h)

  pub all_append : (p : A → Bool) (xs ys : List A) → all p (xs ++ ys) ≡ all p xs && all p ys
  unfolding all
  all_append p [] ys = refl
  all_append p (x ∷ xs) ys =
      ap (λ (b : Bool). p x && b) (all_append p xs ys) ∙ sym (and_assoc (p x) (all p xs) (all p ys))

  pub all-and : (p q : A → Bool) (xs : List A) → all (λ x. p x && q x) xs ≡ all p xs && all q xs
  all-and p q xs = bool-ext (all (λ x. p x && q x) xs) (all p xs && all q xs)
      (λ h. and_both _ _ (in_all p xs (λ x i. and_left (p x) (q x) (all_in (λ x. p x && q x) h i)))
      (in_all q xs (λ x i. and_right (p x) (q x) (all_in (λ x. p x && q x) h i))))
      (λ h. in_all (λ x. p x && q x) xs
      (λ x i. and_both _ _ (all_in p (and_left (all p xs) (all q xs) h) i)
      (all_in q (and_right (all p xs) (all q xs) h) i)))
