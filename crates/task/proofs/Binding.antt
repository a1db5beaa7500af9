-- Binding objects to a schema's parameters, as folding does with the objects of a block's steps.
-- What is bound agrees with one assignment of objects, and a binding changes its own parameters and leaves the others.
use Prim.Native.Nat.{ℕ, zero, suc, ◌<◌}
use mathlib.Core.Path.{◌≡◌, refl, sym, ◌∙◌, ap}
use mathlib.Core.Bool.{true}
use mathlib.Core.List.{List, [], ◌∷◌, map}
use mathlib.Core.Logic.{◌⊎◌, inl, inr}
use Rattle.std.specs.Prelude.{Option, None, Some}
use native.Mathlib.Decide.{ℕ_discrete}
use lib.ListN.{length, get_or, set, replicate, length-set}
use lib.Seq.{get_or-set_same, get_or-set_other}
use lib.Dec.{eqb}
use borrow.Author.Tests.{eqb-true, eq-eqb}
use Rattle.words.specs.Lists.{any}
use Rattle.words.proofs.Lists.{no_ft, both-ft, and_left, and_right, and_both, bool_cases, In, here, there, in-eq}
use Rattle.words.proofs.Lists.{any-in, in-any}
use Rattle.task.specs.Bindings.{Bound, agrees, fits, bind}

-- one value everywhere, in the list and behind it
pub all-the-same : {A : Type 0} (a : A) (n p : ℕ) → get_or (replicate n a) p a ≡ a
all-the-same a zero p = refl
all-the-same a (suc n) zero = refl
all-the-same a (suc n) (suc p) = all-the-same a n p

pub nothing_bound : (n p : ℕ) → get_or (replicate {A = Option ℕ} n None) p None ≡ None
nothing_bound = all-the-same None

-- ---- binding keeps the number of parameters
pub bind-size : (b : Bound) (ps os : List ℕ) → length (bind b ps os) ≡ length b
unfolding bind
bind-size b [] [] = refl
bind-size b [] (o ∷ os) = refl
bind-size b (p ∷ ps) [] = refl
bind-size b (p ∷ ps) (o ∷ os) = bind-size (set b p (Some o)) ps os ∙ length-set b p (Some o)

-- ---- under an assignment of objects to parameters
-- nothing found yet, or what the assignment says
abbrev pub Right : (ℕ → ℕ) → Bound → ℕ → Type 0
Right v b p = (get_or b p None ≡ None) ⊎ (get_or b p None ≡ Some (v p))

module _ (v : ℕ → ℕ) where
  pub fits-right : (b : Bound) (ps : List ℕ) → ((p : ℕ) → In p ps → Right v b p) → fits b ps (map v ps) ≡ true
  unfolding fits agrees
  fits-right b [] h = refl
  fits-right b (p ∷ ps) h =
      and_both (agrees (get_or b p None) (v p)) _ (go (h p (here refl))) (fits-right b ps (λ q i. h q (there i)))
    where
      go : Right v b p → agrees (get_or b p None) (v p) ≡ true
      go (inl e) = rw e refl
      go (inr e) = rw e (eq-eqb (v p) (v p) refl)

  -- a parameter that has just been bound
  set_new : (b : Bound) (q p : ℕ) → q < length b → p ≡ q → get_or (set b q (Some (v q))) p None ≡ Some (v p)
  set_new b q p l e =
      ap (λ z. get_or (set b q (Some (v q))) z None) e ∙ get_or-set_same b q (Some (v q)) None l ∙
      ap (λ z. Some (v z)) (sym e)

  set_known : (b : Bound) (q p : ℕ) → q < length b → get_or b p None ≡ Some (v p) →
      get_or (set b q (Some (v q))) p None ≡ Some (v p)
  set_known b q p l h = elim (ℕ_discrete p q) [
    | yes e ↦ set_new b q p l e
    | no e ↦ get_or-set_other b q p (Some (v q)) None e ∙ h
  ]

  pub bind-known : (b : Bound) (ps : List ℕ) (p : ℕ) → ((q : ℕ) → In q ps → q < length b) →
      get_or b p None ≡ Some (v p) → get_or (bind b ps (map v ps)) p None ≡ Some (v p)
  unfolding bind
  bind-known b [] p l h = h
  bind-known b (q ∷ ps) p l h =
      bind-known (set b q (Some (v q))) ps p (λ r i. rw length-set (l r (there i)))
      (set_known b q p (l q (here refl)) h)

  pub bind-new : (b : Bound) (ps : List ℕ) (p : ℕ) → ((q : ℕ) → In q ps → q < length b) → In p ps →
      get_or (bind b ps (map v ps)) p None ≡ Some (v p)
  unfolding bind
  bind-new b [] p l x'' = elim x'' [ ]
  bind-new b (q ∷ ps) p l (here e) =
      bind-known (set b q (Some (v q))) ps p (λ r i. rw length-set (l r (there i)))
      (set_new b q p (l q (here refl)) e)
  bind-new b (q ∷ ps) p l (there i) =
      bind-new (set b q (Some (v q))) ps p (λ r k. rw length-set (l r (there k))) i

  pub bind-right : (b : Bound) (ps : List ℕ) (p : ℕ) → ((q : ℕ) → In q ps → q < length b) →
      Right v b p → Right v (bind b ps (map v ps)) p
  unfolding bind
  bind-right b [] p l h = h
  bind-right b (q ∷ ps) p l h =
      bind-right (set b q (Some (v q))) ps p (λ r i. rw length-set (l r (there i))) (go h)
    where
      go : Right v b p → Right v (set b q (Some (v q))) p
      go (inr e) = inr (set_known b q p (l q (here refl)) e)
      go (inl e) = elim (ℕ_discrete p q) [
        | yes f ↦ inr (set_new b q p (l q (here refl)) f)
        | no f ↦ inl (get_or-set_other b q p (Some (v q)) None f ∙ e)
      ]

-- ---- what fits
pub fits-length : (b : Bound) (ps os : List ℕ) → fits b ps os ≡ true → length ps ≡ length os
unfolding fits
fits-length b [] [] h = refl
fits-length b [] (o ∷ os) h = absurd (no_ft h)
fits-length b (p ∷ ps) [] h = absurd (no_ft h)
fits-length b (p ∷ ps) (o ∷ os) h = ap suc (fits-length b ps os (and_right (agrees (get_or b p None) o) _ h))

pub fits-agrees : (v : ℕ → ℕ) (b : Bound) (ps : List ℕ) → fits b ps (map v ps) ≡ true →
    (p : ℕ) → In p ps → agrees (get_or b p None) (v p) ≡ true
unfolding fits
fits-agrees v b [] h p x'' = elim x'' [ ]
fits-agrees v b (q ∷ ps) h p (here e) =
    ap (λ p. agrees (get_or b p None) (v p)) e ∙ and_left (agrees (get_or b q None) (v q)) _ h
fits-agrees v b (q ∷ ps) h p (there i) = fits-agrees v b ps (and_right (agrees (get_or b q None) (v q)) _ h) p i

pub bind-other : (v : ℕ → ℕ) (b : Bound) (ps : List ℕ) (p : ℕ) → (In p ps → ⊥) →
    get_or (bind b ps (map v ps)) p None ≡ get_or b p None
unfolding bind
bind-other v b [] p h = refl
bind-other v b (q ∷ ps) p h =
    bind-other v (set b q (Some (v q))) ps p (λ i. h (there i)) ∙
    get_or-set_other b q p (Some (v q)) None (λ e. h (here e))

pub in-or-not : (p : ℕ) (ps : List ℕ) → In p ps ⊎ (In p ps → ⊥)
in-or-not p ps = elim (bool_cases (any (eqb p) ps)) [
  | inl h ↦ inl (let (q, i, e) = any-in (eqb p) ps h in in-eq (eqb-true p q e) i)
  | inr h ↦ inr (λ i. both-ft (in-any (eqb p) i (eq-eqb p p refl)) h)
]
