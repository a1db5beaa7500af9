-- Where a merged part was before part b closed up: the parts below b stayed, those from b on were one higher. So no
-- merged part was b alone, and no two were the same.
use Prim.Native.Nat.{ℕ, ◌+◌, ◌-◌, ◌≤◌, ◌<◌}
use mathlib.Core.Path.{◌≡◌, refl, sym, ◌∙◌, ap}
use mathlib.Core.Bool.{Bool, true, false, cond}
use mathlib.Core.List.{[], ◌∷◌}
use mathlib.Core.Logic.{◌⊎◌, inl, inr}
use native.Mathlib.Decide.{dec_lt}
use native.Mathlib.Omega.{arith}
use native.Mathlib.Numerals.{add-one}
use lib.Dec.{eqb}
use borrow.Author.Tests.{eqb-true, eq-eqb, ne_eqb, lt-ltb, le-ltb}
use Rattle.words.proofs.Lists.{In, here, there, in-empty}
use Rattle.proposals.specs.Circle.{came_from, becoming}

pub came-low : (b q : ℕ) → q < b → came_from b q ≡ q
unfolding came_from
came-low b q l = rw (lt-ltb q b l) refl

pub came-high : (b q : ℕ) → b ≤ q → came_from b q ≡ q + 1
unfolding came_from
came-high b q l = rw (le-ltb q b l, add-one) refl

-- the two cases
pub data Came (b q : ℕ) : Type 0 where
  low : q < b → came_from b q ≡ q → Came b q
  high : b ≤ q → came_from b q ≡ q + 1 → Came b q

pub came : (b q : ℕ) → Came b q
came b q = elim (dec_lt q b) [
  | yes l ↦ low l (came-low b q l)
  | no l ↦ let h : b ≤ q = omega arith in high h (came-high b q h)
]

pub came-below : (b n q : ℕ) → q < n - 1 → came_from b q < n
came-below b n q l = elim (came b q) [ low h e ↦ omega arith | high h e ↦ omega arith ]

-- it was no lower
pub came-behind : (b q : ℕ) → q ≤ came_from b q
came-behind b q = elim (came b q) [ low h e ↦ omega arith | high h e ↦ omega arith ]

pub came-other : (b q : ℕ) → came_from b q ≡ b → ⊥
came-other b q d = elim (came b q) [ low h e ↦ omega arith | high h e ↦ omega arith ]

pub came-apart : (b p q : ℕ) → came_from b p ≡ came_from b q → p ≡ q
came-apart b p q d = elim (came b p) [
  | low h e ↦ elim (came b q) [ low k f ↦ omega arith | high k f ↦ omega arith ]
  | high h e ↦ elim (came b q) [ low k f ↦ omega arith | high k f ↦ omega arith ]
]

-- ---- the parts that become a merged one: where it was, and b too if it is a
pub becoming-both : (a b : ℕ) → becoming a b a ≡ a ∷ b ∷ []
unfolding becoming
becoming-both a b = rw (eq-eqb a a refl) refl

pub becoming-other : (a b q : ℕ) → (q ≡ a → ⊥) → becoming a b q ≡ came_from b q ∷ []
unfolding becoming
becoming-other a b q n = rw (ne_eqb q a n) refl

module _ (a b : ℕ) (l : a < b) where
  pub came-a : came_from b a ≡ a
  came-a = came-low b a l

  -- so no other part was there
  pub came-from-a : (p : ℕ) → came_from b p ≡ a → p ≡ a
  came-from-a p e = came-apart b p a (e ∙ sym came-a)

  pub came-becomes : (p : ℕ) → In (came_from b p) (becoming a b p)
  unfolding becoming
  came-becomes p = go (eqb p a) refl
    where
      go : (t : Bool) → eqb p a ≡ t → In (came_from b p) (cond t (a ∷ b ∷ []) (came_from b p ∷ []))
      go true e = here (ap (came_from b) (eqb-true p a e) ∙ came-a)
      go false e = here refl

  pub higher-becomes : In b (becoming a b a)
  higher-becomes = rw (becoming-both a b) (there (here refl))

  pub becomes : (p x : ℕ) → In x (becoming a b p) → (x ≡ came_from b p) ⊎ ((p ≡ a) × (x ≡ b))
  unfolding becoming
  becomes p x i = go (eqb p a) refl i
    where
      go : (t : Bool) → eqb p a ≡ t → In x (cond t (a ∷ b ∷ []) (came_from b p ∷ [])) →
          (x ≡ came_from b p) ⊎ ((p ≡ a) × (x ≡ b))
      go true e (here f) = inl (f ∙ sym (ap (came_from b) (eqb-true p a e) ∙ came-a))
      go true e (there (here f)) = inr (eqb-true p a e, f)
      go true e (there (there k)) = absurd (in-empty k)
      go false e (here f) = inl f
      go false e (there k) = absurd (in-empty k)
