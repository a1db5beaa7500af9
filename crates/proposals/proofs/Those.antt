-- The numbers of a set that pass a test, found one after another, the lowest first. What the test says of a number is a
-- relation, since code is handed it as a closure.
use Prim.Native.Nat.{ℕ}
use mathlib.Core.Path.{◌≡◌, refl, sym, ◌∙◌, ap, subst}
use mathlib.Core.Bool.{Bool, true, false, ◌&&◌, ◌||◌, or-true}
use native.Mathlib.Decide.{ℕ_discrete}
use lib.Dec.{eqb}
use borrow.Author.Tests.{eq-eqb, ne_eqb}
use Rattle.words.specs.Sets.{Loses, Lowest, member}
use Rattle.words.proofs.Lists.{both-ft, false-if}
use Rattle.words.proofs.Ranges.{or-false}
use Rattle.words.proofs.BitSets.{member-zero}
use Rattle.words.proofs.SetLoops.{gone, left_in, others-stay}

-- those in the rest are still to be tested
pub record Sifted (Says : ℕ → Bool → Type 0) (set rest kept : ℕ) : Type 0 where
  pub left : (k : ℕ) → member rest k ≡ true → member set k ≡ true
  pub within : (k : ℕ) → member kept k ≡ true → member set k ≡ true
  pub untested : (k : ℕ) → member rest k ≡ true → member kept k ≡ false
  pub tested : (k : ℕ) → member set k ≡ true → member rest k ≡ false → Says k (member kept k)

pub sifted-none : (Says : ℕ → Bool → Type 0) (set : ℕ) → Sifted Says set set 0
sifted-none Says set = record {
  left = λ k m. m;
  within = λ k m. absurd (both-ft m (member-zero k));
  untested = λ k m. member-zero k;
  tested = λ k m n. absurd (both-ft m n);
}

module _ {Says : ℕ → Bool → Type 0} {set rest kept p : ℕ} (h : Sifted Says set rest kept) (l : Lowest rest p)
    (less : ℕ) (loses : Loses rest p less) where
  still : (k : ℕ) → member less k ≡ true → member rest k ≡ true
  still = left_in rest p less loses

  -- what is said of the others stays
  earlier : (k : ℕ) → (p ≡ k → ⊥) → member set k ≡ true → member less k ≡ false → Says k (member kept k)
  earlier k d m out = h.tested k m (sym (others-stay rest p less loses k d) ∙ out)

  -- p passes
  pub sifted-passes : {b : Bool} → Says p b → b ≡ true → {more : ℕ} →
      ((k : ℕ) → member more k ≡ member kept k || eqb p k) → Sifted Says set less more
  sifted-passes says is {more} with = record {
    left = λ k m. h.left k (still k m);
    within = λ k m. elim (ℕ_discrete p k) [
      | yes e ↦ subst (λ (j : ℕ). member set j ≡ true) e (h.left p l.is-in)
      | no d ↦ h.within k (sym (other k d) ∙ m)
    ];
    untested = λ k m.
        other k (λ e. both-ft m (ap (member less) (sym e) ∙ gone rest p less loses)) ∙ h.untested k (still k m);
    tested = λ k m out. elim (ℕ_discrete p k) [
      | yes e ↦ subst (λ (j : ℕ). Says j (member more j)) e (subst (Says p) (is ∙ sym here) says)
      | no d ↦ subst (Says k) (sym (other k d)) (earlier k d m out)
    ];
  }
    where
      here : member more p ≡ true
      here = with p ∙ (ap (λ (b : Bool). member kept p || b) (eq-eqb p p refl) ∙ or-true (member kept p))

      other : (k : ℕ) → (p ≡ k → ⊥) → member more k ≡ member kept k
      other k d = with k ∙ (ap (λ (b : Bool). member kept k || b) (ne_eqb p k d) ∙ or-false (member kept k))

  -- it doesn't
  pub sifted-fails : {b : Bool} → Says p b → b ≡ false → Sifted Says set less kept
  sifted-fails says is = record {
    left = λ k m. h.left k (still k m);
    within = h.within;
    untested = λ k m. h.untested k (still k m);
    tested = λ k m out. elim (ℕ_discrete p k) [
      | yes e ↦ subst (λ (j : ℕ). Says j (member kept j)) e (subst (Says p) (is ∙ sym (h.untested p l.is-in)) says)
      | no d ↦ earlier k d m out
    ];
  }

-- none is left
pub sifted-all : {Says : ℕ → Bool → Type 0} {set rest kept : ℕ} → Sifted Says set rest kept → rest ≡ 0 → (k : ℕ) →
    member set k ≡ true → Says k (member kept k)
sifted-all h z k m = h.tested k m (ap (λ (r : ℕ). member r k) z ∙ member-zero k)

-- where the test is a Bool: those are in the set and pass
pub those-are : (test : ℕ → Bool) (set kept : ℕ) → ((k : ℕ) → member kept k ≡ true → member set k ≡ true) →
    ((k : ℕ) → member set k ≡ true → member kept k ≡ test k) → (k : ℕ) → member kept k ≡ member set k && test k
those-are test set kept within tested k = go (member set k) refl
  where
    go : (b : Bool) → member set k ≡ b → member kept k ≡ b && test k
    go true e = tested k e
    go false e = false-if (member kept k) (λ m. both-ft (within k m) e)
