-- Sums over lists: how they are added, exchanged and counted, and that a sum over a list that holds each of some
-- numbers once does not depend on their order. The last by writing each term as a sum that picks it out, and
-- exchanging.
use Prim.Native.Nat.{ℕ, suc, ◌+◌, ◌≤◌, ◌<◌}
use mathlib.Core.Path.{◌≡◌, refl, sym, ◌∙◌, ap}
use mathlib.Core.Bool.{Bool, true, false, cond, ◌&&◌}
use mathlib.Core.List.{List, [], ◌∷◌, map}
use native.Mathlib.Omega.{arith}
use lib.ListN.{length, get_or}
use lib.Dec.{eqb}
use borrow.Author.Tests.{eqb-true, eq-eqb, ne_eqb}
use Rattle.words.specs.Lists.{filter, keep_if, sum, concat_map, up_to, up_from}
use Rattle.words.proofs.Lists.{bool-ext, In, here, there, in-eq, get_or-in, map-append, map_same, sum-append}
use Rattle.words.proofs.Lists.{tabulate, map-map}
use Rattle.words.proofs.Ascending.{Once, once-nil, once-cons}

-- 1 for a test that is met
abbrev pub one : Bool → ℕ
one b = cond b 1 0

pub one-most : (b : Bool) → one b ≤ 1
one-most true = omega arith
one-most false = omega arith

-- the sum of f over a list
abbrev pub total : {A : Type 0} → (A → ℕ) → List A → ℕ
total f xs = sum (map f xs)

module _ {A : Type 0} where
  pub length-keep : (b : Bool) (x : A) (xs : List A) → length (keep_if b x xs) ≡ one b + length xs
  unfolding keep_if
  length-keep true x xs = omega arith
  length-keep false x xs = omega arith

  pub total-same : (f g : A → ℕ) (xs : List A) → ((x : A) → In x xs → f x ≡ g x) → total f xs ≡ total g xs
  total-same f g xs h = ap sum (map_same f g xs h)

  pub total-add : (f g : A → ℕ) (xs : List A) → total (λ x. f x + g x) xs ≡ total f xs + total g xs
  unfolding sum
  total-add f g [] = refl
  total-add f g (x ∷ xs) = let e = total-add f g xs in omega arith

  pub total-zero : (xs : List A) → total (λ x. 0) xs ≡ 0
  unfolding sum
  total-zero [] = refl
  total-zero (x ∷ xs) = let e = total-zero xs in omega arith

  pub total-one : (xs : List A) → total (λ x. 1) xs ≡ length xs
  unfolding sum
  total-one [] = refl
  total-one (x ∷ xs) = let e = total-one xs in omega arith

  -- a filter's length, and that of a filter of a filter
  pub length-filter : (p : A → Bool) (xs : List A) → length (filter p xs) ≡ total (λ x. one (p x)) xs
  unfolding filter sum
  length-filter p [] = refl
  length-filter p (x ∷ xs) =
      let e = length-filter p xs in
      let d = length-keep (p x) x (filter p xs) in
      omega arith

  pub filter-filter : (p q : A → Bool) (xs : List A) → filter p (filter q xs) ≡ filter (λ x. q x && p x) xs
  unfolding filter keep_if
  filter-filter p q [] = refl
  filter-filter p q (x ∷ xs) = go (q x) (filter-filter p q xs)
    where
      go : (b : Bool) → filter p (filter q xs) ≡ filter (λ x. q x && p x) xs →
          filter p (keep_if b x (filter q xs)) ≡ keep_if (b && p x) x (filter (λ x. q x && p x) xs)
      go true e = ap (keep_if (p x) x) e
      go false e = e

module _ {A B : Type 0} where
  pub total-concat_map : (f : B → ℕ) (g : A → List B) (xs : List A) →
      total f (concat_map g xs) ≡ total (λ x. total f (g x)) xs
  unfolding concat_map sum
  total-concat_map f g [] = refl
  total-concat_map f g (x ∷ xs) =
      ap sum (map-append f (g x) (concat_map g xs)) ∙ sum-append (map f (g x)) (map f (concat_map g xs)) ∙
      ap (λ n. total f (g x) + n) (total-concat_map f g xs)

  pub exchange : (f : A → B → ℕ) (xs : List A) (ys : List B) →
      total (λ x. total (f x) ys) xs ≡ total (λ y. total (λ x. f x y) xs) ys
  unfolding sum
  exchange f [] ys = sym (total-zero ys)
  exchange f (x ∷ xs) ys =
      ap (λ n. total (f x) ys + n) (exchange f xs ys) ∙ sym (total-add (f x) (λ y. total (λ x. f x y) xs) ys)

-- the elements of a list by their places
pub by_place : {A : Type 0} (f : A → ℕ) (xs : List A) (d : A) →
    total (λ i. f (get_or xs i d)) (up_to (length xs)) ≡ total f xs
unfolding up_to
by_place f xs d =
    ap sum (sym (map-map f (λ i. get_or xs i d) (up_from 0 (length xs)))) ∙
    ap (total f) (tabulate (λ i. get_or xs i d) 0 xs d
    (λ k l. let e : 0 + k ≡ k = omega arith in ap (λ i. get_or xs i d) e))

-- ---- numbers that stand once
pub eqb-turn : (p q : ℕ) → eqb p q ≡ eqb q p
eqb-turn p q =
    bool-ext (eqb p q) (eqb q p) (λ e. eq-eqb q p (sym (eqb-true p q e))) (λ e. eq-eqb p q (sym (eqb-true q p e)))

pub once-apart : (xs : List ℕ) → ((i k : ℕ) → i < k → k < length xs → get_or xs k 0 ≡ get_or xs i 0 → ⊥) → Once xs
once-apart [] h = once-nil
once-apart (x ∷ xs) h =
    once-cons {x = x} {xs = xs} (λ i. let (k, l, e) = get_or-in 0 i in h 0 (suc k) (omega arith) (omega arith) e)
    (once-apart xs (λ i k l m. h (suc i) (suc k) (omega arith) (omega arith)))

module _ (f : ℕ → ℕ) where
  pick-none : (q : ℕ) (xs : List ℕ) → (In q xs → ⊥) → total (λ i. cond (eqb q i) (f i) 0) xs ≡ 0
  unfolding sum
  pick-none q [] n = refl
  pick-none q (x ∷ xs) n =
      let z = pick-none q xs (λ i. n (there i)) in
      rw (ne_eqb q x (λ e. n (here e))) (omega arith)

  -- of numbers that stand once, a test for equality picks one
  pub pick-one : (q : ℕ) {xs : List ℕ} → Once xs → In q xs → total (λ i. cond (eqb q i) (f i) 0) xs ≡ f q
  unfolding sum
  pick-one q once-nil x3 = elim x3 [ ]
  pick-one q (once-cons {x = x} {xs = xs} n h) (here e) =
      let z = pick-none q xs (λ i. n (in-eq (sym e) i)) in
      let d = ap f e in
      rw (eq-eqb q x e) (omega arith)
  pick-one q (once-cons {x = x} {xs = xs} n h) (there i) =
      let z = pick-one q h i in
      rw (ne_eqb q x (λ e. n (in-eq (sym e) i))) (omega arith)

  -- and their order does not matter
  pub reorder : {xs ys : List ℕ} → Once xs → Once ys → ((q : ℕ) → In q xs → In q ys) → ((q : ℕ) → In q ys → In q xs) →
      total f xs ≡ total f ys
  reorder {xs} {ys} a b into back =
      sym (total-same (λ q. total (λ i. cond (eqb q i) (f i) 0) ys) f xs (λ q i. pick-one q b (into q i))) ∙
      exchange (λ q i. cond (eqb q i) (f i) 0) xs ys ∙
      total-same (λ i. total (λ q. cond (eqb q i) (f i) 0) xs) f ys
      (λ i k. total-same (λ q. cond (eqb q i) (f i) 0) (λ q. cond (eqb i q) (f q) 0) xs (λ q l. turn q i) ∙
      pick-one i a (back i k))
    where
      go : (q i : ℕ) (b : Bool) → eqb q i ≡ b → cond b (f i) 0 ≡ cond b (f q) 0
      go q i true e = ap f (sym (eqb-true q i e))
      go q i false e = refl

      turn : (q i : ℕ) → cond (eqb q i) (f i) 0 ≡ cond (eqb i q) (f q) 0
      turn q i = go q i (eqb q i) refl ∙ ap (λ b. cond b (f q) 0) (eqb-turn q i)
