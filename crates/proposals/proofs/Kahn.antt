-- Whether parts can all be placed, each with no arc from an unplaced one when its turn comes, doesn't depend on the
-- choices: placing any free part changes nothing (Kahn). What can be placed is `Placeable`, by some choices; by
-- induction over these, some of what can be placed can be placed too, and that is all that is needed.
use Prim.Native.Nat.{ℕ, zero, suc, ◌≤◌, ◌<◌}
use mathlib.Core.Path.{◌≡◌, refl, ap}
use mathlib.Core.Bool.{Bool, true, false, not}
use mathlib.Core.List.{List, [], ◌∷◌}
use mathlib.Core.Logic.{◌↔◌}
use Rattle.std.specs.Prelude.{Option, None, Some}
use native.Mathlib.Omega.{arith}
use lib.ListN.{length}
use lib.Dec.{eqb}
use borrow.Author.Tests.{eqb-true, not-true, eq-eqb}
use Rattle.words.specs.Lists.{any, filter, up_to}
use Rattle.words.proofs.Lists.{no_ft, both-ft, false-if, bool-ext, In, here, in-eq, in-empty, any-in, in-any}
use Rattle.words.proofs.Lists.{first-none, first_found}
use Rattle.words.proofs.Ascending.{Ascend, ascend-up_to, ascend-filter, others, in-others, others-in}
use Rattle.words.proofs.Ascending.{others-fewer, others-one-less}
use Rattle.proposals.specs.Circle.{Arcs, free, next_free, place_one, all_placed, placeable, no_circle}

-- ---- free parts
module _ (arcs : Arcs) where
  pub free-no-arc : (us : List ℕ) (p : ℕ) → free arcs us p ≡ true → (q : ℕ) → In q us → arcs q p ≡ false
  unfolding free
  free-no-arc us p h q i =
      false-if (arcs q p) (λ e. both-ft (in-any (λ q. arcs q p) i e) (not-true (any (λ q. arcs q p) us) h))

  pub no-arc-free : (us : List ℕ) (p : ℕ) → ((q : ℕ) → In q us → arcs q p ≡ false) → free arcs us p ≡ true
  unfolding free
  no-arc-free us p h = ap not (false-if (any (λ q. arcs q p) us)
      (λ e. let (q, i, f) = any-in (λ q. arcs q p) us e in both-ft f (h q i)))

-- ---- parts that can be placed, by some choices
pub data Placeable (arcs : Arcs) : List ℕ → Type 0 where
  all-placed : Placeable arcs []
  place-next : {p : ℕ} {us : List ℕ} → In p us → free arcs us p ≡ true → Placeable arcs (others p us) →
      Placeable arcs us

-- all in vs are in us
abbrev Within : List ℕ → List ℕ → Type 0
Within vs us = (q : ℕ) → In q vs → In q us

none_within : (vs : List ℕ) → Within vs [] → vs ≡ []
none_within [] h = refl
none_within (v ∷ vs) h = absurd (in-empty (h v (here refl)))

-- what is in what can be placed can be placed: by the same choices
pub placeable-within : {arcs : Arcs} {us : List ℕ} → Placeable arcs us → (vs : List ℕ) → Within vs us →
    Placeable arcs vs
placeable-within all-placed vs h = rw (none_within vs h) all-placed
placeable-within {arcs} (place-next {p = p} {us = us} i f k) vs h =
    go (any (eqb p) vs) refl (λ ws. placeable-within k ws)
  where
    Rest : Type 0
    Rest = (ws : List ℕ) → Within ws (others p us) → Placeable arcs ws

    go : (b : Bool) → any (eqb p) vs ≡ b → Rest → Placeable arcs vs
    go true e rest =
        let (q, j, d) = any-in (eqb p) vs e in
        place-next (in-eq (eqb-true p q d) j) (no-arc-free arcs vs p (λ q m. free-no-arc arcs us p f q (h q m)))
        (rest (others p vs) (λ q m. let (n, d) = others-in p vs q m in in-others p (h q n) d))
    go false e rest =
        rest vs (λ q m. in-others p (h q m) (λ d. both-ft (in-any (eqb p) m (eq-eqb p q d)) e))

-- the same for other arcs, of which each between these parts is an arc here
pub placeable-fewer : {arcs : Arcs} {us : List ℕ} → Placeable arcs us → (less : Arcs) →
    ((p q : ℕ) → In p us → In q us → less p q ≡ true → arcs p q ≡ true) → Placeable less us
placeable-fewer all-placed less h = all-placed
placeable-fewer {arcs} (place-next {p = p} {us = us} i f k) less h =
    place-next i (no-arc-free less us p (λ q m.
    false-if (less q p) (λ e. both-ft (h q p m i e) (free-no-arc arcs us p f q m))))
    (placeable-fewer k less (λ x y m n. h x y (others-in p us x m).0 (others-in p us y n).0))

-- placing any free part changes nothing
pub any-choice : (arcs : Arcs) (us : List ℕ) (p : ℕ) → In p us → free arcs us p ≡ true →
    Placeable arcs us ↔ Placeable arcs (others p us)
any-choice arcs us p i f =
    (λ h. placeable-within h (others p us) (λ q m. (others-in p us q m).0), λ h. place-next i f h)

-- where parts are left and none is free, they can't be placed
none_free : {arcs : Arcs} {us : List ℕ} → Placeable arcs us → (u : ℕ) → In u us →
    ((p : ℕ) → In p us → free arcs us p ≡ false) → ⊥
none_free all-placed u i h = in-empty i
none_free (place-next {p = p} j f k) u i h = both-ft f (h p j)

-- ---- the choice of the lowest
placed-lowest : (arcs : Arcs) (n : ℕ) (us : List ℕ) → length us ≤ n → all_placed arcs n us ≡ true → Placeable arcs us
unfolding all_placed place_one next_free
placed-lowest arcs zero [] l h = all-placed
placed-lowest arcs zero (u ∷ us) l h = absurd (omega arith)
placed-lowest arcs (suc n) us l h = go (next_free arcs us) refl h (λ vs m e. placed-lowest arcs n vs m e)
  where
    Rest : Type 0
    Rest = (vs : List ℕ) → length vs ≤ n → all_placed arcs n vs ≡ true → Placeable arcs vs

    go : (c : Option ℕ) → next_free arcs us ≡ c → place_one (λ ps. all_placed arcs n ps) us c ≡ true → Rest →
        Placeable arcs us
    go None e k rest = absurd (no_ft k)
    go (Some p) e k rest =
        let (i, f) = first_found (free arcs us) us p e in
        let fewer = others-fewer i in
        place-next i f (rest (others p us) (omega arith) k)

one_left : (us : List ℕ) → 0 < length us → (u : ℕ) × In u us
one_left [] l = absurd (omega arith)
one_left (u ∷ us) l = (u, here refl)

lowest-placed : (arcs : Arcs) (n : ℕ) (us : List ℕ) → n ≤ length us → Ascend us → Placeable arcs us →
    all_placed arcs n us ≡ true
unfolding all_placed place_one next_free
lowest-placed arcs zero us l a h = refl
lowest-placed arcs (suc n) us l a h = go (next_free arcs us) refl (λ vs m b k. lowest-placed arcs n vs m b k)
  where
    Rest : Type 0
    Rest = (vs : List ℕ) → n ≤ length vs → Ascend vs → Placeable arcs vs → all_placed arcs n vs ≡ true

    go : (c : Option ℕ) → next_free arcs us ≡ c → Rest → place_one (λ ps. all_placed arcs n ps) us c ≡ true
    go None e rest =
        let (u, i) = one_left us (omega arith) in
        absurd (none_free h u i (λ p j. false-if (free arcs us p) (λ f. first-none (free arcs us) e j f)))
    go (Some p) e rest =
        let (i, f) = first_found (free arcs us) us p e in
        rest (others p us) (omega (arith, others-one-less p a)) (ascend-filter (λ q. not (eqb p q)) a)
        ((any-choice arcs us p i f).0 h)

-- the lowest free parts place all parts exactly where some choices do
placeable-exactly : (arcs : Arcs) {us : List ℕ} → Ascend us → (placeable arcs us ≡ true) ↔ Placeable arcs us
unfolding placeable
placeable-exactly arcs {us} a = (
  λ h. placed-lowest arcs (length us) us (omega arith) h,
  λ h. lowest-placed arcs (length us) us (omega arith) a h,
)

pub no-circle-exactly : (arcs : Arcs) (n : ℕ) → (no_circle arcs n ≡ true) ↔ Placeable arcs (up_to n)
unfolding no_circle
no-circle-exactly arcs n = placeable-exactly arcs (ascend-up_to n)

-- ---- the same of the test
module _ (arcs : Arcs) where
  -- none is left
  pub placeable-none : placeable arcs [] ≡ true
  unfolding placeable all_placed
  placeable-none = refl

  -- placing a free part changes nothing
  pub placeable-one : {us : List ℕ} → Ascend us → {p : ℕ} → In p us → free arcs us p ≡ true →
      placeable arcs (filter (λ q. not (eqb p q)) us) ≡ placeable arcs us
  placeable-one {us} a {p} i f =
      let (from, to) = any-choice arcs us p i f in
      let (whole, whole_is) = placeable-exactly arcs a in
      let (rest, rest-is) = placeable-exactly arcs (ascend-filter (λ q. not (eqb p q)) a) in
      bool-ext (placeable arcs (others p us)) (placeable arcs us) (λ h. whole_is (to (rest h)))
      (λ h. rest-is (from (whole h)))

  -- where parts are left and none of them is free, not all can be placed
  pub placeable-stuck : {us : List ℕ} → Ascend us → 0 < length us →
      ((p : ℕ) → In p us → free arcs us p ≡ false) → placeable arcs us ≡ false
  placeable-stuck {us} a l h =
      let (u, i) = one_left us l in
      false-if (placeable arcs us) (λ k. none_free ((placeable-exactly arcs a).0 k) u i h)
