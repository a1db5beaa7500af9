-- All parts can be placed exactly where arcs go up in some rank: of the parts left one of the lowest rank is free, and
-- parts that are placed have their turns for ranks.
use Prim.Native.Nat.{ℕ, zero, suc, ◌≤◌, ◌<◌}
use mathlib.Core.Path.{◌≡◌, refl, ◌∙◌, ap}
use mathlib.Core.Bool.{Bool, true, false, cond}
use mathlib.Core.List.{List, [], ◌∷◌}
use native.Mathlib.Omega.{arith}
use native.Mathlib.Decide.{dec_le}
use lib.ListN.{length}
use lib.Dec.{eqb}
use borrow.Author.Tests.{eqb-true, eqb-false}
use Rattle.words.proofs.Lists.{both-ft, false-if, In, here, there, in-empty}
use Rattle.words.proofs.Ascending.{others, in-others, others-in, others-fewer}
use Rattle.proposals.specs.Circle.{Arcs}
use Rattle.proposals.proofs.Kahn.{free-no-arc, no-arc-free, Placeable, all-placed, place-next}

-- one of the lowest rank
lowest-rank : (rank : ℕ → ℕ) (u : ℕ) (us : List ℕ) →
    (p : ℕ) × In p (u ∷ us) × ((q : ℕ) → In q (u ∷ us) → rank p ≤ rank q)
lowest-rank rank u [] = (u, here refl, only)
  where
    only : (q : ℕ) → In q (u ∷ []) → rank u ≤ rank q
    only q (here e) = let z : rank q ≡ rank u = ap rank e in omega arith
    only q (there k) = absurd (in-empty k)
lowest-rank rank u (v ∷ us) =
    let (p, i, l) = lowest-rank rank v us in
    elim (dec_le (rank u) (rank p)) [
      | yes h ↦ (u, here refl, first-is p h l)
      | no h ↦ (p, there i, later p h l)
    ]
  where
    first-is : (p : ℕ) → rank u ≤ rank p → ((q : ℕ) → In q (v ∷ us) → rank p ≤ rank q) →
        (q : ℕ) → In q (u ∷ v ∷ us) → rank u ≤ rank q
    first-is p h l q (here e) = let z : rank q ≡ rank u = ap rank e in omega arith
    first-is p h l q (there k) = omega (arith, l q k)

    later : (p : ℕ) → (rank u ≤ rank p → ⊥) → ((q : ℕ) → In q (v ∷ us) → rank p ≤ rank q) →
        (q : ℕ) → In q (u ∷ v ∷ us) → rank p ≤ rank q
    later p h l q (here e) = let z : rank q ≡ rank u = ap rank e in omega arith
    later p h l q (there k) = l q k

-- arcs between these parts go up in rank
abbrev pub Rises : Arcs → (ℕ → ℕ) → List ℕ → Type 0
Rises arcs rank us = (p q : ℕ) → In p us → In q us → arcs p q ≡ true → rank p < rank q

pub ranked-placeable : (arcs : Arcs) (rank : ℕ → ℕ) (us : List ℕ) → Rises arcs rank us → Placeable arcs us
ranked-placeable arcs rank us h = go (length us) us (omega arith) h
  where
    next : (n : ℕ) (us : List ℕ) → length us ≤ suc n → Rises arcs rank us →
        ((vs : List ℕ) → length vs ≤ n → Rises arcs rank vs → Placeable arcs vs) → Placeable arcs us
    next n [] l h rest = all-placed
    next n (u ∷ us) l h rest =
        let (p, i, m) = lowest-rank rank u us in
        let fewer = others-fewer i in
        place-next i
        (no-arc-free arcs (u ∷ us) p (λ q j. false-if (arcs q p) (λ e. omega (arith, m q j, h q p j i e))))
        (rest (others p (u ∷ us)) (omega arith) (λ x y j k.
        h x y (others-in p (u ∷ us) x j).0 (others-in p (u ∷ us) y k).0))

    go : (n : ℕ) (us : List ℕ) → length us ≤ n → Rises arcs rank us → Placeable arcs us
    go zero [] l h = all-placed
    go zero (u ∷ us) l h = absurd (omega arith)
    go (suc n) us l h = next n us l h (λ vs m k. go n vs m k)

-- and where all can be placed there are such ranks: the turns in which they are placed
pub placeable-ranked : {arcs : Arcs} {us : List ℕ} → Placeable arcs us → (rank : ℕ → ℕ) × Rises arcs rank us
placeable-ranked all-placed = (λ p. 0, λ p q i j e. absurd (in-empty i))
placeable-ranked {arcs} (place-next {p = p} {us = us} i f k) =
    let (rank, h) = placeable-ranked k in (λ q. cond (eqb p q) 0 (suc (rank q)), rises rank h)
  where
    rises : (rank : ℕ → ℕ) → Rises arcs rank (others p us) → Rises arcs (λ q. cond (eqb p q) 0 (suc (rank q))) us
    rises rank h x y j k e = go (eqb p x) refl (eqb p y) refl
      where
        go : (s : Bool) → eqb p x ≡ s → (t : Bool) → eqb p y ≡ t → cond s 0 (suc (rank x)) < cond t 0 (suc (rank y))
        go s d true c =
            absurd (both-ft (ap (arcs x) (eqb-true p y c) ∙ e) (free-no-arc arcs us p f x j))
        go true d false c = omega arith
        go false d false c =
            let l = h x y (in-others p j (eqb-false p x d)) (in-others p k (eqb-false p y c)) e in omega arith
