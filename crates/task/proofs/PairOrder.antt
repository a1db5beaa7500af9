-- Pairs of parameters, strictly ascending: each is before all that follow, so a selection of them ascends too, and so
-- does what a renumbering makes of them that keeps the order of parameters. Behind that, the equations that the code
-- of each test of pairs shows.
use Prim.Native.Nat.{ℕ, ◌+◌, ◌-◌, ◌≤◌, ◌<◌}
use mathlib.Core.Path.{◌≡◌, refl, sym, ◌∙◌, ap, ap₂, subst}
use mathlib.Core.Bool.{Bool, true, false, cond, ◌&&◌, ◌||◌}
use mathlib.Core.List.{List, [], ◌∷◌, map}
use mathlib.Core.Logic.{◌⊎◌, inl, inr}
use native.Mathlib.Omega.{arith}
use lib.Dec.{eqb, ltb}
use borrow.Author.Tests.{ltb-true, eqb-true, lt-ltb, le-ltb, eq-eqb, ne_eqb}
use Rattle.std.specs.Prelude.{Some}
use Rattle.std.proofs.Common.{Less, Equal, Greater}
use Rattle.std.specs.Ordering.{is_some_and, is_lt, partial_ordering_then, partial_lt, nat_cmp}
use Rattle.words.specs.Lists.{filter, keep_if}
use Rattle.task.specs.Task.{Pair, pair_fits, pair_less, pairs_ascend}
use Rattle.task.specs.Table.{pair_in}
use Rattle.task.specs.WordTests.{pairs_in}
use Rattle.words.proofs.Lists.{and_left, and_right, and_both, or_cases, or_left, or_right, In, here, there}
use Rattle.words.proofs.Lists.{in-empty, filter-in, map-in}
use Rattle.words.proofs.Ranges.{or-false}
use Rattle.words.proofs.Loops.{AllLeft}
use Rattle.task.proofs.AtomRuns.{neighbours-start}

-- by the lower parameter, then by the higher
abbrev pub PairBefore : Pair → Pair → Type 0
PairBefore q r = (q.lower < r.lower) ⊎ ((q.lower ≡ r.lower) × (q.higher < r.higher))

pub less-before : (q r : Pair) → pair_less q r ≡ true → PairBefore q r
unfolding pair_less
less-before q r h = elim (or_cases (ltb q.lower r.lower) _ h) [
  | inl e ↦ inl (ltb-true q.lower r.lower e)
  | inr e ↦ inr (
    eqb-true q.lower r.lower (and_left (eqb q.lower r.lower) _ e),
    ltb-true q.higher r.higher (and_right (eqb q.lower r.lower) _ e),
  )
]

pub before-less : (q r : Pair) → PairBefore q r → pair_less q r ≡ true
unfolding pair_less
before-less q r (inl l) = or_left (ltb q.lower r.lower) _ (lt-ltb q.lower r.lower l)
before-less q r (inr (e, l)) =
    or_right (ltb q.lower r.lower) _
    (and_both _ _ (eq-eqb q.lower r.lower e) (lt-ltb q.higher r.higher l))

pub before-trans : (q r p : Pair) → PairBefore q r → PairBefore r p → PairBefore q p
before-trans q r p (inl a) (inl b) = inl (omega arith)
before-trans q r p (inl a) (inr (e, b)) = inl (omega arith)
before-trans q r p (inr (e, a)) (inl b) = inl (omega arith)
before-trans q r p (inr (e, a)) (inr (f, b)) = inr (omega arith, omega arith)

-- each is before all that follow
pub data PairsAsc : List Pair → Type 0 where
  no-pair : PairsAsc []
  pair-first : {q : Pair} {qs : List Pair} → ((r : Pair) → In r qs → PairBefore q r) → PairsAsc qs → PairsAsc (q ∷ qs)

pub ascend-asc : (qs : List Pair) → pairs_ascend qs ≡ true → PairsAsc qs
unfolding pairs_ascend
ascend-asc [] h = no-pair
ascend-asc (q ∷ []) h = pair-first (λ r i. absurd (in-empty i)) no-pair
ascend-asc (q ∷ r ∷ qs) h = go (ascend-asc (r ∷ qs) (and_right (pair_less q r) _ h))
  where
    next : PairBefore q r
    next = less-before q r (and_left (pair_less q r) _ h)

    go : PairsAsc (r ∷ qs) → PairsAsc (q ∷ r ∷ qs)
    go (pair-first k a) = pair-first (λ p i. all p i) (pair-first k a)
      where
        all : (p : Pair) → In p (r ∷ qs) → PairBefore q p
        all p (here e) = subst (λ p. PairBefore q p) (sym e) next
        all p (there i) = before-trans q r p next (k p i)

pub asc-ascend : {qs : List Pair} → PairsAsc qs → pairs_ascend qs ≡ true
unfolding pairs_ascend
asc-ascend no-pair = refl
asc-ascend (pair-first k no-pair) = refl
asc-ascend (pair-first {q = q} k (pair-first {q = r} l a)) =
    and_both (pair_less q r) _ (before-less q r (k r (here refl))) (asc-ascend (pair-first l a))

pub pairs-filter : (test : Pair → Bool) {qs : List Pair} → PairsAsc qs → PairsAsc (filter test qs)
unfolding filter keep_if
pairs-filter test no-pair = no-pair
pairs-filter test (pair-first {q = q} {qs = qs} k a) = go (test q) (pairs-filter test a)
  where
    go : (b : Bool) → PairsAsc (filter test qs) → PairsAsc (keep_if b q (filter test qs))
    go true r = pair-first (λ p i. k p (filter-in test qs p i).0) r
    go false r = r

-- a pair with its parameters renumbered, which keeps the order of pairs where it keeps that of the parameters in them
abbrev pub renumbered : (ℕ → ℕ) → Pair → Pair
renumbered f q = record { lower = f q.lower; higher = f q.higher }

pub pairs-map : (f : ℕ → ℕ) (has : ℕ → Type 0) → ((x y : ℕ) → has x → has y → x < y → f x < f y) →
    {qs : List Pair} → ((q : Pair) → In q qs → has q.lower × has q.higher) → PairsAsc qs →
    PairsAsc (map (renumbered f) qs)
pairs-map f has up h no-pair = no-pair
pairs-map f has up h (pair-first {q = q} {qs = qs} k a) =
    pair-first (λ r i. go r (map-in (renumbered f) qs r i)) (pairs-map f has up (λ p i. h p (there i)) a)
  where
    before : (p : Pair) → In p qs → PairBefore q p → PairBefore (renumbered f q) (renumbered f p)
    before p i (inl l) = inl (up q.lower p.lower (h q (here refl)).0 (h p (there i)).0 l)
    before p i (inr (e, l)) = inr (ap f e, up q.higher p.higher (h q (here refl)).1 (h p (there i)).1 l)

    go : (r : Pair) → (p : Pair) × In p qs × (r ≡ renumbered f p) → PairBefore (renumbered f q) r
    go r (p, i, e) = subst (λ r. PairBefore (renumbered f q) r) (sym e) (before p i (k p i))

-- ---- the tests of pairs, as code makes them
module _ (params : ℕ) (q : Pair) where
  pub fits_not : q.higher ≤ q.lower → false ≡ pair_fits params q
  unfolding pair_fits
  fits_not l = sym (ap (λ (b : Bool). b && ltb q.higher params) (le-ltb q.lower q.higher l))

  pub fits-known : q.lower < q.higher → ltb q.higher params ≡ pair_fits params q
  unfolding pair_fits
  fits-known l = sym (ap (λ (b : Bool). b && ltb q.higher params) (lt-ltb q.lower q.higher l))

module _ (q r : Pair) where
  abbrev less_higher : Bool
  less_higher = ltb q.higher r.higher

  pub less-lower : (q.lower ≡ r.lower → ⊥) → ltb q.lower r.lower ≡ pair_less q r
  unfolding pair_less
  less-lower h = sym (ap (λ (b : Bool). ltb q.lower r.lower || (b && less_higher)) (ne_eqb _ _ h) ∙ or-false _)

  pub less-higher : q.lower ≡ r.lower → ltb q.higher r.higher ≡ pair_less q r
  unfolding pair_less
  less-higher e =
      sym (ap₂ (λ (x y : Bool). x || (y && less_higher)) (le-ltb q.lower r.lower (omega arith)) (eq-eqb _ _ e))

-- the order of tuples
tuple-less : (a e b f : Bool) →
    is_some_and is_lt (partial_ordering_then (Some (cond a Less (cond e Equal Greater)))
    (Some (cond b Less (cond f Equal Greater)))) ≡ a || (e && b)
tuple-less true e b f = refl
tuple-less false true true f = refl
tuple-less false true false true = refl
tuple-less false true false false = refl
tuple-less false false b f = refl

pub pair-tuples : (q r : Pair) →
    partial_lt {X = ℕ × ℕ} (λ x y. partial_ordering_then (Some (nat_cmp x.0 y.0)) (Some (nat_cmp x.1 y.1)))
    (q.lower, q.higher) (r.lower, r.higher) ≡ pair_less q r
unfolding pair_less
pair-tuples q r =
    tuple-less (ltb q.lower r.lower) (eqb q.lower r.lower) (ltb q.higher r.higher) (eqb q.higher r.higher)

-- "strictly ascending" is a test of each pair beside the one before
pub pairs_start : (w : List ℕ) (first e : ℕ) → AllLeft (λ k. pair_less (pair_in w (k - 1)) (pair_in w k)) e
    (pairs_ascend (pairs_in w first (e - first))) (first + 1)
unfolding pairs_ascend
pairs_start w first e = neighbours-start pair_less pairs_ascend refl (λ q. refl) (λ q r qs. refl) (pair_in w) first e
