-- Readers in general: what a chain of readers that took something says of each of them, and bytes at the front.
use Prim.Native.Nat.{ℕ}
use mathlib.Core.Path.{◌≡◌, refl, sym, ◌∙◌, ap, ap₂}
use mathlib.Core.Bool.{Bool, true, false}
use mathlib.Core.List.{List, [], ◌∷◌, ◌++◌}
use Rattle.std.specs.Prelude.{Option, None, Some}
use native.Mathlib.Omega.{arith}
use lib.Dec.{eqb}
use borrow.Author.Tests.{eqb-true, eq-eqb}
use Rattle.text.specs.Lines.{Taken, taken, and_then, after}

pub no_none : {A : Type 0} {x : A} → None ≡ Some x → ⊥
no_none h = let z : ◌≡◌ {A = ℕ} 0 1 = cc in omega arith

-- ---- a test that is known picks its branch; the other one is given
module _ {A : Type 0} where
  pub if-true : {b : Bool} {x : A} (y : A) → b ≡ true → ◌≡◌ {A = A} (elim b [ true ↦ x | false ↦ y ]) x
  if-true {b} {x} y h = ap (λ (c : Bool). elim c [ true ↦ x | false ↦ y ]) h

  pub if-false : {b : Bool} (x : A) {y : A} → b ≡ false → ◌≡◌ {A = A} (elim b [ true ↦ x | false ↦ y ]) y
  if-false {b} x {y} h = ap (λ (c : Bool). elim c [ true ↦ x | false ↦ y ]) h

-- ---- what was taken
module _ {A : Type 0} where
  pub taken-value : {a : A} {bs : List ℕ} {r : Taken A} → taken a bs ≡ Some r → a ≡ r.value
  taken-value {a} {bs} {r} h =
      let t : Taken A = record { value = a; rest = bs } in
      let q : t ≡ r = cc in
      ap (λ (x : Taken A). x.value) q

  pub taken-rest : {a : A} {bs : List ℕ} {r : Taken A} → taken a bs ≡ Some r → bs ≡ r.rest
  taken-rest {a} {bs} {r} h =
      let t : Taken A = record { value = a; rest = bs } in
      let q : t ≡ r = cc in
      ap (λ (x : Taken A). x.rest) q

-- ---- one reader after another
module _ {A B : Type 0} where
  pub record Both (o : Option A) (f : A → Option B) (b : B) : Type 0 where
    pub first : A
    pub took : o ≡ Some first
    pub then : f first ≡ Some b

  pub both-took : (o : Option A) (f : A → Option B) (b : B) → and_then o f ≡ Some b → Both o f b
  unfolding and_then
  both-took None f b h = absurd (no_none h)
  both-took (Some a) f b h = record { first = a; took = refl; then = h }

  pub and_then-same : (o : Option A) (f g : A → Option B) → ((a : A) → o ≡ Some a → f a ≡ g a) →
      and_then o f ≡ and_then o g
  unfolding and_then
  and_then-same None f g h = refl
  and_then-same (Some a) f g h = h a refl

-- ---- bytes at the front
pub after-written : (ks rest : List ℕ) → after ks (ks ++ rest) ≡ Some rest
unfolding after
after-written [] rest = refl
after-written (k ∷ ks) rest = if-true None (eq-eqb k k refl) ∙ after-written ks rest

pub after_read : (ks bs rest : List ℕ) → after ks bs ≡ Some rest → bs ≡ ks ++ rest
unfolding after
after_read [] bs rest h = let e : bs ≡ rest = cc in e
after_read (k ∷ ks) [] rest h = absurd (no_none h)
after_read (k ∷ ks) (b ∷ bs) rest h = go (eqb k b) refl (after_read ks bs rest) h
  where
    go : (c : Bool) → eqb k b ≡ c → (after ks bs ≡ Some rest → bs ≡ ks ++ rest) →
        ◌≡◌ {A = Option (List ℕ)} (elim c [ true ↦ after ks bs | false ↦ None ]) (Some rest) → b ∷ bs ≡ k ∷ (ks ++ rest)
    go true e i h = ap₂ (λ (x : ℕ) (xs : List ℕ). x ∷ xs) (sym (eqb-true k b e)) (i h)
    go false e i h = absurd (no_none h)
