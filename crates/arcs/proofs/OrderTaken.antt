-- The order taken is an order of the parts that complies: each part stands in it once, and no arc goes backwards.
-- The order as it is taken is a `Taken`, which places the next part and then the others;
-- every law is an induction over it, and a ready part has no arc from a part placed later.
use Prim.Native.Nat.{ℕ, zero, suc, ◌≤◌, ◌<◌}
use mathlib.Core.Path.{◌≡◌, refl, sym, ap}
use mathlib.Core.Bool.{true, false, not}
use mathlib.Core.List.{List, [], ◌∷◌}
use mathlib.Core.Logic.{inl, inr}
use Rattle.std.specs.Prelude.{Option, None, Some}
use native.Mathlib.Omega.{arith}
use lib.ListN.{length, get_or}
use lib.Dec.{eqb}
use borrow.Author.Tests.{eqb-true, not-true, eq-eqb}
use Rattle.words.specs.Lists.{any, up_to}
use Rattle.task.specs.Task.{Atom, Pair, Schema, part_count}
use Rattle.task.proofs.SchemaWords.{part_small}
use Rattle.arcs.specs.Order.{arc, OrderOfParts, Complies, ready, next_part, cons_to, place, order_from, order_of}
use Rattle.words.proofs.Lists.{both-ft, bool_cases, false-if, In, here, there, in-eq, any-in, in-any, in-filter}
use Rattle.words.proofs.Lists.{in-get_or, get_or-in, in-up_to, length-up_to}
use Rattle.task.proofs.States.{KeepsApart}
use Rattle.arcs.proofs.Arcs.{Ordered, SameGround, same-ground-arc, arc-is}
use Rattle.arcs.proofs.Best.{next-ready}
use Rattle.words.proofs.Ascending.{some_inj, no_none, others, others-in, others-fewer}

-- ---- ready parts
pub ready-no-arc : (pairs : List Pair) (atoms : List Atom) (unplaced : List ℕ) (p : ℕ) →
    ready pairs atoms unplaced p ≡ true → (q : ℕ) → In q unplaced → arc pairs atoms q p ≡ false
unfolding ready
ready-no-arc pairs atoms unplaced p h q i =
    false-if (arc pairs atoms q p)
    (λ e. both-ft (in-any (λ q. arc pairs atoms q p) i e) (not-true (any (λ q. arc pairs atoms q p) unplaced) h))

pub no-arc-ready : (pairs : List Pair) (atoms : List Atom) (unplaced : List ℕ) (p : ℕ) →
    ((q : ℕ) → In q unplaced → arc pairs atoms q p ≡ false) → ready pairs atoms unplaced p ≡ true
unfolding ready
no-arc-ready pairs atoms unplaced p h = ap not (false-if (any (λ q. arc pairs atoms q p) unplaced)
    (λ e. let (q, i, f) = any-in (λ q. arc pairs atoms q p) unplaced e in both-ft f (h q i)))

-- ---- the order as it is taken: the next part, then an order of the others
pub data Taken (pairs : List Pair) (atoms : List Atom) : ℕ → List ℕ → List ℕ → Type 0 where
  all-placed : Taken pairs atoms 0 [] []
  place-next : {n p : ℕ} {unplaced o : List ℕ} → next_part pairs atoms unplaced ≡ Some p →
      Taken pairs atoms n (others p unplaced) o → Taken pairs atoms (suc n) unplaced (p ∷ o)

taken-from : (pairs : List Pair) (atoms : List Atom) (n : ℕ) (unplaced o : List ℕ) → length unplaced ≤ n →
    order_from pairs atoms n unplaced ≡ Some o → Taken pairs atoms n unplaced o
unfolding order_from place cons_to
taken-from pairs atoms zero [] o l h = rw (← some_inj h) all-placed
taken-from pairs atoms zero (u ∷ us) o l h = absurd (omega arith)
taken-from pairs atoms (suc n) unplaced o l h =
    go (next_part pairs atoms unplaced) refl h (λ us q k. taken-from pairs atoms n us q k)
  where
    Rest : Type 0
    Rest = (us q : List ℕ) → length us ≤ n → order_from pairs atoms n us ≡ Some q → Taken pairs atoms n us q

    rest : (p : ℕ) → next_part pairs atoms unplaced ≡ Some p → Rest → (r : Option (List ℕ)) →
        order_from pairs atoms n (others p unplaced) ≡ r → cons_to p r ≡ Some o → Taken pairs atoms (suc n) unplaced o
    rest p b ih None e h = absurd (no_none h)
    rest p b ih (Some r) e h =
        let fewer = others-fewer (next-ready pairs atoms unplaced p b).0 in
        rw (← some_inj h) (place-next b (ih (others p unplaced) r (omega arith) e))

    go : (b : Option ℕ) → next_part pairs atoms unplaced ≡ b →
        place (λ us. order_from pairs atoms n us) unplaced b ≡ Some o → Rest → Taken pairs atoms (suc n) unplaced o
    go None e h ih = absurd (no_none h)
    go (Some p) e h ih = rest p e ih (order_from pairs atoms n (others p unplaced)) refl h

pub order-as-taken : (s : Schema) (o : List ℕ) → order_of s ≡ Some o →
    Taken s.pairs s.atoms (part_count s.atoms) (up_to (part_count s.atoms)) o
unfolding order_of
order-as-taken s o h =
    taken-from s.pairs s.atoms (part_count s.atoms) (up_to (part_count s.atoms)) o
    (omega (arith, length-up_to (part_count s.atoms))) h

module _ {pairs : List Pair} {atoms : List Atom} where
  taken-size : {n : ℕ} {unplaced o : List ℕ} → Taken pairs atoms n unplaced o → length o ≡ n
  taken-size all-placed = refl
  taken-size (place-next b k) = ap suc (taken-size k)

  taken_in : {n : ℕ} {unplaced o : List ℕ} → Taken pairs atoms n unplaced o → (q : ℕ) → In q o → In q unplaced
  taken_in all-placed q i = i
  taken_in (place-next {p = p} {unplaced = us} b k) q (here e) = in-eq e (next-ready pairs atoms us p b).0
  taken_in (place-next {p = p} {unplaced = us} b k) q (there i) = (others-in p us q (taken_in k q i)).0

  taken-all : {n : ℕ} {unplaced o : List ℕ} → Taken pairs atoms n unplaced o → (q : ℕ) → In q unplaced → In q o
  taken-all all-placed q i = i
  taken-all (place-next {p = p} b k) q i = elim (bool_cases (eqb p q)) [
    | inl e ↦ here (sym (eqb-true p q e))
    | inr e ↦ there (taken-all k q (in-filter (λ q. not (eqb p q)) i (ap not e)))
  ]

  taken-later : {n : ℕ} {p : ℕ} {unplaced o : List ℕ} → Taken pairs atoms n (others p unplaced) o → (k : ℕ) →
      k < length o → In (get_or o k 0) unplaced × (p ≡ get_or o k 0 → ⊥)
  taken-later {p = p} {unplaced = us} {o = o} h k l =
      others-in p us (get_or o k 0) (taken_in h (get_or o k 0) (in-get_or o k 0 l))

  taken-complies : {n : ℕ} {unplaced o : List ℕ} → Taken pairs atoms n unplaced o →
      (i j : ℕ) → i < j → j < length o → arc pairs atoms (get_or o j 0) (get_or o i 0) ≡ false
  taken-complies all-placed i j l m = absurd (omega arith)
  taken-complies (place-next b k) i zero l m = absurd (omega arith)
  taken-complies (place-next {p = p} {unplaced = us} {o = o} b k) zero (suc j) l m =
      ready-no-arc pairs atoms us p (next-ready pairs atoms us p b).1 (get_or o j 0) (taken-later k j (omega arith)).0
  taken-complies (place-next b k) (suc i) (suc j) l m = taken-complies k i j (omega arith) (omega arith)

  taken-once : {n : ℕ} {unplaced o : List ℕ} → Taken pairs atoms n unplaced o →
      (i j : ℕ) → i < j → j < length o → get_or o j 0 ≡ get_or o i 0 → ⊥
  taken-once all-placed i j l m e = absurd (omega arith)
  taken-once (place-next b k) i zero l m e = absurd (omega arith)
  taken-once (place-next b k) zero (suc j) l m e = (taken-later k j (omega arith)).1 (sym e)
  taken-once (place-next b k) (suc i) (suc j) l m e = taken-once k i j (omega arith) (omega arith) e

-- ---- the order taken
-- no part stands in it twice
abbrev pub EachOnce : List ℕ → Type 0
EachOnce o = (i j : ℕ) → i < j → j < length o → get_or o j 0 ≡ get_or o i 0 → ⊥

-- an order of a schema's parts: no arc goes backwards, and each of them stands in it once
pub record OrderOf (s : Schema) (o : List ℕ) : Type 0 where
  pub complies : Complies s o
  pub once : EachOnce o
  pub size : length o ≡ part_count s.atoms
  pub from : (p : ℕ) → In p o → In p (up_to (part_count s.atoms))
  pub all-placed : (p : ℕ) → In p (up_to (part_count s.atoms)) → In p o

pub order_of-laws : (s : Schema) (o : List ℕ) → order_of s ≡ Some o → OrderOf s o
order_of-laws s o h =
    let k = order-as-taken s o h in
    record {
      complies = taken-complies k;
      once = taken-once k;
      size = taken-size k;
      from = taken_in k;
      all-placed = taken-all k;
    }

-- "The order taken" is an order of the parts, and "complies"
pub order-taken : (s : Schema) (o : List ℕ) → order_of s ≡ Some o → OrderOfParts s o × Complies s o
order-taken s o h =
    let k = order_of-laws s o h in
    let placed : (p : ℕ) → p < part_count s.atoms → any (eqb p) o ≡ true = λ p l.
    in-any (eqb p) (k.all-placed p (in-up_to (part_count s.atoms) p l)) (eq-eqb p p refl) in
    (record { size = k.size; placed = placed }, k.complies)

pub order-once : (s : Schema) (o : List ℕ) → order_of s ≡ Some o → EachOnce o
order-once s o h = (order_of-laws s o h).once

-- ---- what orders tell of atoms
-- an atom's part has a place
pub atom-placed : (s : Schema) (o : List ℕ) → OrderOfParts s o → (a : Atom) → In a s.atoms →
    (i : ℕ) × (i < length o) × (get_or o i 0 ≡ a.part)
atom-placed s o h a i =
    let (p, k, e) = any-in (eqb a.part) o (h.placed a.part (part_small i)) in
    get_or-in 0 (in-eq (eqb-true a.part p e) k)

-- where objects keep the pairs apart, no atom of a later part tests what an earlier part changes, or deletes what it
-- adds
pub no-clash : (s : Schema) (o : List ℕ) → Complies s o → EachOnce o → (i j : ℕ) → i < j → j < length o →
    (v : ℕ → ℕ) → KeepsApart s.pairs v → (a b : Atom) → In a s.atoms → In b s.atoms →
    a.part ≡ get_or o j 0 → b.part ≡ get_or o i 0 → SameGround v a b → Ordered a.role b.role → ⊥
no-clash s o complies once i j l m v apart a b ia ib pa pb same h = both-ft
    ((arc-is s.pairs s.atoms (get_or o j 0) (get_or o i 0)).1 (record {
      apart = once i j l m;
      first = a;
      second = b;
      first-in = ia;
      second-in = ib;
      first-part = pa;
      second-part = pb;
      gives = same-ground-arc s.pairs v apart a b same h;
    }))
    (complies i j l m)
