-- Lists of part numbers: those that ascend, as the unplaced parts do, those in which each number stands once, and the
-- others that placing one part leaves, which are one fewer. Each law goes by the list.
use Prim.Native.Nat.{ℕ, zero, suc, ◌≤◌, ◌<◌}
use mathlib.Core.Path.{◌≡◌, refl, sym, ap, subst}
use mathlib.Core.Bool.{Bool, true, false, not}
use mathlib.Core.List.{List, [], ◌∷◌}
use Rattle.std.specs.Prelude.{Option, None, Some}
use native.Mathlib.Omega.{arith}
use lib.ListN.{length}
use lib.Dec.{eqb}
use borrow.Author.Tests.{eqb-true, not-true, eq-eqb, ne_eqb}
use Rattle.words.specs.Lists.{filter, keep_if, up_to, up_from}
use Rattle.words.proofs.Lists.{both-ft, In, here, there, in-empty, in-filter, filter-in, up_from-in}

-- ---- results that may be missing
pub some_inj : {A : Type 0} {x y : A} → Some x ≡ Some y → x ≡ y
some_inj e = cc

pub no_none : {A : Type 0} {x : A} → None ≡ Some x → ⊥
no_none {A} {x} e = subst code (sym e) tt
  where
    code : Option A → Type 0
    code None = ⊥
    code (Some y) = Unit {0}

-- ---- unplaced parts, which ascend
pub data Ascend : List ℕ → Type 0 where
  no_more : Ascend []
  below : {x : ℕ} {xs : List ℕ} → ((y : ℕ) → In y xs → x < y) → Ascend xs → Ascend (x ∷ xs)

ascend-up_from : (s n : ℕ) → Ascend (up_from s n)
unfolding up_from
ascend-up_from s zero = no_more
ascend-up_from s (suc n) =
    below {x = s} (λ y i. let z = up_from-in (suc s) n y i in omega arith) (ascend-up_from (suc s) n)

pub ascend-up_to : (n : ℕ) → Ascend (up_to n)
unfolding up_to
ascend-up_to n = ascend-up_from 0 n

pub ascend-filter : (p : ℕ → Bool) {xs : List ℕ} → Ascend xs → Ascend (filter p xs)
unfolding filter keep_if
ascend-filter p no_more = no_more
ascend-filter p (below {x = x} {xs = xs} l h) = go (p x) (ascend-filter p h)
  where
    go : (b : Bool) → Ascend (filter p xs) → Ascend (keep_if b x (filter p xs))
    go true k = below (λ y i. l y (filter-in p xs y i).0) k
    go false k = k

-- ---- each number stands once
pub data Once : List ℕ → Type 0 where
  once-nil : Once []
  once-cons : {x : ℕ} {xs : List ℕ} → (In x xs → ⊥) → Once xs → Once (x ∷ xs)

ascend-once : {xs : List ℕ} → Ascend xs → Once xs
ascend-once no_more = once-nil
ascend-once (below {x = x} l h) = once-cons (λ i. let z = l x i in omega arith) (ascend-once h)

pub once-up_from : (s n : ℕ) → Once (up_from s n)
once-up_from s n = ascend-once (ascend-up_from s n)

pub once-filter : (p : ℕ → Bool) {xs : List ℕ} → Once xs → Once (filter p xs)
unfolding filter keep_if
once-filter p once-nil = once-nil
once-filter p (once-cons {x = x} {xs = xs} n h) = go (p x) (once-filter p h)
  where
    go : (b : Bool) → Once (filter p xs) → Once (keep_if b x (filter p xs))
    go true k = once-cons (λ i. n (filter-in p xs x i).0) k
    go false k = k

pub filter-le : {A : Type 0} (p : A → Bool) (xs : List A) → length (filter p xs) ≤ length xs
unfolding filter keep_if
filter-le p [] = omega arith
filter-le {A} p (x ∷ xs) = go (p x) (filter-le p xs)
  where
    go : (b : Bool) → length (filter p xs) ≤ length xs → length (keep_if b x (filter p xs)) ≤ suc (length xs)
    go true h = omega arith
    go false h = omega arith

-- ---- all but p
abbrev pub others : ℕ → List ℕ → List ℕ
others p xs = filter (λ q. not (eqb p q)) xs

pub in-others : (p : ℕ) {xs : List ℕ} {q : ℕ} → In q xs → (p ≡ q → ⊥) → In q (others p xs)
in-others p {xs} {q} i n = in-filter (λ q. not (eqb p q)) i (ap not (ne_eqb p q n))

pub others-in : (p : ℕ) (xs : List ℕ) (q : ℕ) → In q (others p xs) → In q xs × (p ≡ q → ⊥)
others-in p xs q i =
    let (k, e) = filter-in (λ q. not (eqb p q)) xs q i in
    (k, λ same. both-ft (eq-eqb p q same) (not-true (eqb p q) e))

pub others-fewer : {p : ℕ} {xs : List ℕ} → In p xs → length (others p xs) < length xs
unfolding filter keep_if
others-fewer {p} (here {y = y} {ys = ys} e) = rw (eq-eqb p y e) (omega (arith, filter-le (λ q. not (eqb p q)) ys))
others-fewer {p} (there {y = y} {ys = ys} k) = go (not (eqb p y)) (others-fewer k)
  where
    go : (b : Bool) → length (others p ys) < length ys → length (keep_if b y (others p ys)) < suc (length ys)
    go true h = omega arith
    go false h = omega arith

others-all : (p : ℕ) (xs : List ℕ) → (In p xs → ⊥) → length (others p xs) ≡ length xs
unfolding filter keep_if
others-all p [] h = refl
others-all p (x ∷ xs) h = rw (ne_eqb p x (λ e. h (here e))) (ap suc (others-all p xs (λ i. h (there i))))

pub others-one-less : (p : ℕ) {xs : List ℕ} → Ascend xs → length xs ≤ suc (length (others p xs))
unfolding filter keep_if
others-one-less p no_more = omega arith
others-one-less p (below {x = x} {xs = xs} l h) = go (eqb p x) refl (others-one-less p h)
  where
    not-again : p ≡ x → In p xs → ⊥
    not-again e i = let z = l p i in omega arith

    go : (b : Bool) → eqb p x ≡ b → length xs ≤ suc (length (others p xs)) →
        suc (length xs) ≤ suc (length (keep_if (not b) x (others p xs)))
    go true e k = omega (arith, others-all p xs (not-again (eqb-true p x e)))
    go false e k = omega arith

-- ---- a list in which all of some ascending numbers stand is no shorter than they are
pub covered-few : (ys xs : List ℕ) → Ascend xs → ((x : ℕ) → In x xs → In x ys) → length xs ≤ length ys
covered-few [] [] a h = omega arith
covered-few [] (x ∷ xs) a h = absurd (in-empty (h x (here refl)))
covered-few (y ∷ ys) xs a h =
    let k = covered-few ys (others y xs) (ascend-filter (λ q. not (eqb y q)) a)
    (λ q i. let (j, n) = others-in y xs q i in behind n (h q j)) in
    omega (arith, others-one-less y a)
  where
    behind : {q : ℕ} → (y ≡ q → ⊥) → In q (y ∷ ys) → In q ys
    behind n (here e) = absurd (n (sym e))
    behind n (there k) = k
