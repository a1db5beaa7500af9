-- What an arc is, in plain terms: the role rule, the two atoms that give an arc, the pairs that they may hold, and the
-- parts that it joins. Each law goes both ways, so nothing above needs to open `role_before`, `are_pair`, `hold_pair`,
-- `gives_arc` or `arc`.
use Prim.Native.Nat.{ℕ, zero, suc, ◌<◌}
use mathlib.Core.Path.{◌≡◌, refl, sym, ◌∙◌, ap}
use mathlib.Core.Bool.{Bool, true, false, not, ◌&&◌, ◌||◌}
use mathlib.Core.List.{List, [], ◌∷◌, map}
use mathlib.Core.Logic.{◌↔◌, ◌⊎◌, inl, inr}
use native.Mathlib.Omega.{arith}
use lib.ListN.{length, get_or}
use lib.Dec.{eqb}
use borrow.Author.Tests.{eqb-true, not-true, eq-eqb, ne_eqb}
use Rattle.words.specs.Lists.{any}
use Rattle.task.specs.Task.{Atom, Pair, precondition, addition, deletion}
use Rattle.arcs.specs.Order.{role_before, are_pair, hold_pair, gives_arc, arc}
use Rattle.task.proofs.States.{KeepsApart}
use Rattle.words.proofs.Lists.{no_ft, both-ft, false-if, and_left, and_right, and_both, or_cases, or_left, or_right}
use Rattle.words.proofs.Lists.{In, in-empty, any-in, in-any, get_or-map}

-- ---- the role rule
-- "from precondition to add, precondition to delete, delete to add"
pub data Ordered : ℕ → ℕ → Type 0 where
  tested-then-added : Ordered precondition addition
  tested-then-deleted : Ordered precondition deletion
  deleted-then-added : Ordered deletion addition

ordered_at : {r q m n : ℕ} → r ≡ m → q ≡ n → Ordered m n → Ordered r q
ordered_at a b h = rw (a, b) h

ordered-before : {r q : ℕ} → Ordered r q → role_before r q ≡ true
unfolding role_before
ordered-before tested-then-added = refl
ordered-before tested-then-deleted = refl
ordered-before deleted-then-added = refl

pub role-rule : (r q : ℕ) → (role_before r q ≡ true) ↔ Ordered r q
unfolding role_before
role-rule r q = (forth, ordered-before)
  where
    tested : Bool
    tested = eqb r precondition && (eqb q addition || eqb q deletion)

    changed : (eqb q addition ≡ true) ⊎ (eqb q deletion ≡ true) → r ≡ precondition → Ordered r q
    changed (inl h) e = ordered_at e (eqb-true q addition h) tested-then-added
    changed (inr h) e = ordered_at e (eqb-true q deletion h) tested-then-deleted

    cases : (tested ≡ true) ⊎ (eqb r deletion && eqb q addition ≡ true) → Ordered r q
    cases (inl h) =
        changed (or_cases (eqb q addition) _ (and_right (eqb r precondition) _ h))
        (eqb-true r precondition (and_left (eqb r precondition) _ h))
    cases (inr h) =
        ordered_at (eqb-true r deletion (and_left (eqb r deletion) _ h))
        (eqb-true q addition (and_right (eqb r deletion) _ h)) deleted-then-added

    forth : role_before r q ≡ true → Ordered r q
    forth h = cases (or_cases tested _ h)

-- ---- two parameters
-- x and y are a declared pair, either way round
pub data IsPair (pairs : List Pair) (x y : ℕ) : Type 0 where
  lower-first : (q : Pair) → In q pairs → q.lower ≡ x → q.higher ≡ y → IsPair pairs x y
  higher-first : (q : Pair) → In q pairs → q.higher ≡ x → q.lower ≡ y → IsPair pairs x y

module _ (pairs : List Pair) (x y : ℕ) where
  these : Pair → Bool
  these q = eqb q.lower x && eqb q.higher y

  turned : Pair → Bool
  turned q = eqb q.higher x && eqb q.lower y

  either : Pair → Bool
  unfolding these turned
  either q = these q || turned q

  pair-found : are_pair pairs x y ≡ true → IsPair pairs x y
  unfolding are_pair either these turned
  pair-found h = let (q, i, e) = any-in either pairs h in go q i (or_cases (these q) _ e)
    where
      go : (q : Pair) → In q pairs → (these q ≡ true) ⊎ (turned q ≡ true) → IsPair pairs x y
      go q i (inl e) =
          lower-first q i (eqb-true q.lower x (and_left (eqb q.lower x) _ e))
          (eqb-true q.higher y (and_right (eqb q.lower x) _ e))
      go q i (inr e) =
          higher-first q i (eqb-true q.higher x (and_left (eqb q.higher x) _ e))
          (eqb-true q.lower y (and_right (eqb q.higher x) _ e))

  found-pair : IsPair pairs x y → are_pair pairs x y ≡ true
  unfolding are_pair either these turned
  found-pair (lower-first q i a b) =
      in-any either i
      (or_left (these q) (turned q) (and_both _ _ (eq-eqb q.lower x a) (eq-eqb q.higher y b)))
  found-pair (higher-first q i a b) =
      in-any either i
      (or_right (these q) (turned q) (and_both _ _ (eq-eqb q.higher x a) (eq-eqb q.lower y b)))

  pub are-pair : (are_pair pairs x y ≡ true) ↔ IsPair pairs x y
  are-pair = (pair-found, found-pair)

-- ---- the arguments of two atoms
module _ (pairs : List Pair) where
  -- "at some argument position they hold a declared pair": the one has one parameter of it there, the other the other
  abbrev pub HoldPair : List ℕ → List ℕ → Type 0
  HoldPair xs ys = (i : ℕ) × (i < length xs) × (i < length ys) × IsPair pairs (get_or xs i 0) (get_or ys i 0)

  hold-found : (xs ys : List ℕ) → hold_pair pairs xs ys ≡ true → HoldPair xs ys
  unfolding hold_pair
  hold-found [] ys h = absurd (no_ft h)
  hold-found (x ∷ xs) [] h = absurd (no_ft h)
  hold-found (x ∷ xs) (y ∷ ys) h = go (or_cases (are_pair pairs x y) _ h) (hold-found xs ys)
    where
      go : (are_pair pairs x y ≡ true) ⊎ (hold_pair pairs xs ys ≡ true) → (hold_pair pairs xs ys ≡ true → HoldPair xs ys) →
          HoldPair (x ∷ xs) (y ∷ ys)
      go (inl e) ih = (0, omega arith, omega arith, pair-found pairs x y e)
      go (inr e) ih = let (i, a, b, p) = ih e in (suc i, omega arith, omega arith, p)

  found-hold : (xs ys : List ℕ) → HoldPair xs ys → hold_pair pairs xs ys ≡ true
  unfolding hold_pair
  found-hold [] ys (i, a, b, p) = absurd (omega arith)
  found-hold (x ∷ xs) [] (i, a, b, p) = absurd (omega arith)
  found-hold (x ∷ xs) (y ∷ ys) (zero, a, b, p) =
      or_left (are_pair pairs x y) (hold_pair pairs xs ys) (found-pair pairs x y p)
  found-hold (x ∷ xs) (y ∷ ys) (suc i, a, b, p) =
      or_right (are_pair pairs x y) (hold_pair pairs xs ys) (found-hold xs ys (i, omega arith, omega arith, p))

  pub hold-pair : (xs ys : List ℕ) → (hold_pair pairs xs ys ≡ true) ↔ HoldPair xs ys
  hold-pair xs ys = (hold-found xs ys, found-hold xs ys)

  -- arguments hold no pair where objects that keep the pairs apart make them the same
  pub same-holds-none : (v : ℕ → ℕ) → KeepsApart pairs v → (xs ys : List ℕ) → map v xs ≡ map v ys →
      hold_pair pairs xs ys ≡ false
  same-holds-none v apart xs ys e =
      false-if (hold_pair pairs xs ys) (λ h. let (i, a, b, p) = hold-found xs ys h in go i a b p)
    where
      at : (i : ℕ) → i < length xs → i < length ys → v (get_or xs i 0) ≡ v (get_or ys i 0)
      at i a b = sym (get_or-map v xs i 0 0 a) ∙ ap (λ zs. get_or zs i 0) e ∙ get_or-map v ys i 0 0 b

      go : (i : ℕ) → i < length xs → i < length ys → IsPair pairs (get_or xs i 0) (get_or ys i 0) → ⊥
      go i a b (lower-first q k l h) = apart q k (ap v l ∙ at i a b ∙ sym (ap v h))
      go i a b (higher-first q k h l) = apart q k (ap v l ∙ sym (at i a b) ∙ sym (ap v h))

-- where there is no pair, none is held
pub none-held : (xs ys : List ℕ) → hold_pair [] xs ys ≡ false
none-held xs ys = false-if (hold_pair [] xs ys) (λ h. let (i, a, b, p) = hold-found [] xs ys h in go p)
  where
    go : {x y : ℕ} → IsPair [] x y → ⊥
    go (lower-first q i a b) = in-empty i
    go (higher-first q i a b) = in-empty i

-- ---- two atoms
-- "Two atoms of one schema with the same predicate give an arc", and "no arc if .. they hold a declared pair"
pub gives-arc : (pairs : List Pair) (a b : Atom) → (gives_arc pairs a b ≡ true) ↔
    ((a.pred ≡ b.pred) × Ordered a.role b.role × (hold_pair pairs a.args b.args ≡ false))
unfolding gives_arc
gives-arc pairs a b = (
  λ h.
      let k = and_right (eqb a.pred b.pred) _ h in (
        eqb-true a.pred b.pred (and_left (eqb a.pred b.pred) _ h),
        (role-rule a.role b.role).0 (and_left (role_before a.role b.role) _ k),
        not-true (hold_pair pairs a.args b.args) (and_right (role_before a.role b.role) _ k),
      ),
  λ (p, r, n). and_both _ _ (eq-eqb a.pred b.pred p)
      (and_both _ _ ((role-rule a.role b.role).1 r) (ap not n)),
)

-- one choice of objects makes the two atoms the same ground atom
pub record SameGround (v : ℕ → ℕ) (a b : Atom) : Type 0 where
  pub pred : a.pred ≡ b.pred
  pub args : map v a.args ≡ map v b.args

-- atoms that can meet in one ground atom where the pairs are kept apart, with roles whose order matters, give an arc
pub same-ground-arc : (pairs : List Pair) (v : ℕ → ℕ) → KeepsApart pairs v → (a b : Atom) → SameGround v a b →
    Ordered a.role b.role → gives_arc pairs a b ≡ true
same-ground-arc pairs v apart a b same h =
    (gives-arc pairs a b).1 (same.pred, h, same-holds-none pairs v apart a.args b.args same.args)

-- ---- two parts
-- "from the first's part to the second's"; "Arcs inside a part don't count"
pub record Arc (pairs : List Pair) (atoms : List Atom) (p q : ℕ) : Type 0 where
  pub apart : p ≡ q → ⊥
  pub first : Atom
  pub second : Atom
  pub first-in : In first atoms
  pub second-in : In second atoms
  pub first-part : first.part ≡ p
  pub second-part : second.part ≡ q
  pub gives : gives_arc pairs first second ≡ true

module _ (pairs : List Pair) (atoms : List Atom) (p q : ℕ) where
  to : Atom → Atom → Bool
  to a b = eqb b.part q && gives_arc pairs a b

  from : Atom → Bool
  unfolding to
  from a = eqb a.part p && any (to a) atoms

  arc-found : arc pairs atoms p q ≡ true → Arc pairs atoms p q
  unfolding arc from to
  arc-found h =
      let (a, i, e) = any-in from atoms (and_right (not (eqb p q)) _ h) in
      let (b, j, d) = any-in (to a) atoms (and_right (eqb a.part p) _ e) in
      record {
        apart = λ same. both-ft (eq-eqb p q same) (not-true (eqb p q) (and_left (not (eqb p q)) _ h));
        first = a;
        second = b;
        first-in = i;
        second-in = j;
        first-part = eqb-true a.part p (and_left (eqb a.part p) _ e);
        second-part = eqb-true b.part q (and_left (eqb b.part q) _ d);
        gives = and_right (eqb b.part q) _ d;
      }

  found-arc : Arc pairs atoms p q → arc pairs atoms p q ≡ true
  unfolding arc from to
  found-arc h =
      and_both (not (eqb p q)) _ (ap not (ne_eqb p q h.apart))
      (in-any from h.first-in
      (and_both _ _ (eq-eqb h.first.part p h.first-part)
      (in-any (to h.first) h.second-in (and_both _ _ (eq-eqb h.second.part q h.second-part) h.gives))))

  pub arc-is : (arc pairs atoms p q ≡ true) ↔ Arc pairs atoms p q
  arc-is = (arc-found, found-arc)

pub arc-self : (pairs : List Pair) (atoms : List Atom) (p : ℕ) → arc pairs atoms p p ≡ false
unfolding arc
arc-self pairs atoms p = rw (eq-eqb p p refl) refl
