-- The choice at each place of the order taken is the one that the documents fix, and it decides the order.
-- A part unplaced at a place is one that stands at none before it, and those before it are placed, so the choice is
-- said of the order alone; by induction over the order as it is taken.
use Prim.Native.Nat.{ℕ, zero, suc, ◌≤◌, ◌<◌}
use mathlib.Core.Path.{◌≡◌, sym, ◌∙◌, subst}
use mathlib.Core.Bool.{true, false, not}
use mathlib.Core.List.{List, [], ◌∷◌, ◌++◌}
use mathlib.Core.Logic.{inl, inr}
use Rattle.std.specs.Prelude.{Some}
use native.Mathlib.Omega.{arith}
use lib.ListN.{length, get_or, take}
use lib.Seq.{ext_get_or, get_or-take, length-take-le}
use lib.Dec.{eqb}
use Rattle.words.specs.Lists.{up_to}
use Rattle.task.specs.Task.{Atom, Pair, Schema, part_count}
use Rattle.arcs.specs.Order.{arc, preconditions, new_parameters, placed_parts, ready, next_part, order_of}
use Rattle.words.proofs.Lists.{In, here, there, in-eq, in-empty, in_left, in_right, in-append, in-filter}
use Rattle.words.proofs.Lists.{filter-in, in-up_to, up_to-in}
use Rattle.words.proofs.Ascending.{Ascend, ascend-up_to, ascend-filter, others, in-others, others-in}
use Rattle.arcs.proofs.OrderTaken.{ready-no-arc, no-arc-ready, Taken, all-placed, place-next}
use Rattle.arcs.proofs.OrderTaken.{order-as-taken}
use Rattle.arcs.proofs.PlacedParts.{none-placed, placed-next, next-placed, still_placed, new-same}
use Rattle.arcs.proofs.Best.{Best, candidates, next-ready, next-best}

-- ---- the choice, in plain terms
-- "among unplaced parts that no unplaced part has an arc to"
abbrev pub Ready : List Pair → List Atom → (ℕ → Type 0) → ℕ → Type 0
Ready pairs atoms Unplaced p = Unplaced p × ((q : ℕ) → Unplaced q → arc pairs atoms q p ≡ false)

-- "the one with most preconditions"; of "equally many", "the one whose preconditions name more parameters not in a part
-- already placed; only then the lowest number"
pub record Chosen (pairs : List Pair) (atoms : List Atom) (placed : List ℕ) (Unplaced : ℕ → Type 0)
    (p : ℕ) : Type 0 where
  pub is-ready : Ready pairs atoms Unplaced p
  pub most : (q : ℕ) → Ready pairs atoms Unplaced q → preconditions atoms q ≤ preconditions atoms p
  pub newest : (q : ℕ) → Ready pairs atoms Unplaced q → preconditions atoms q ≡ preconditions atoms p →
      new_parameters atoms placed q ≤ new_parameters atoms placed p
  pub lowest : (q : ℕ) → Ready pairs atoms Unplaced q → preconditions atoms q ≡ preconditions atoms p →
      new_parameters atoms placed q ≡ new_parameters atoms placed p → p ≤ q

-- parts that stand at no place before i
abbrev pub UnplacedAt : (ℕ → Type 0) → List ℕ → ℕ → ℕ → Type 0
UnplacedAt Part o i q = Part q × ((k : ℕ) → k < i → get_or o k 0 ≡ q → ⊥)

abbrev pub PartOf : Schema → ℕ → Type 0
PartOf s p = p < part_count s.atoms

-- at each place of the order stands the part chosen there: those before it are placed, the others unplaced
pub ChosenThroughout : Schema → List ℕ → Type 0
ChosenThroughout s o =
    (i : ℕ) → i < length o → Chosen s.pairs s.atoms (take i o) (UnplacedAt (PartOf s) o i) (get_or o i 0)

-- ---- lists of the same parts
abbrev Within : List ℕ → List ℕ → Type 0
Within a b = (q : ℕ) → In q a → In q b

without-last : (a : List ℕ) → Within (a ++ []) a
without-last a q j = elim (in-append a {ys = []} j) [ inl m ↦ m | inr m ↦ absurd (in-empty m) ]

without-first : (a b : List ℕ) → ((q : ℕ) → In q a → ⊥) → Within (a ++ b) b
without-first a b n q j = elim (in-append a {ys = b} j) [ inl m ↦ absurd (n q m) | inr m ↦ m ]

-- the same parts placed and the same unplaced, the same choice
chosen-same : {pairs : List Pair} {atoms : List Atom} {a b : List ℕ} {U W : ℕ → Type 0} {p : ℕ} → Within a b →
    Within b a → ((q : ℕ) → U q → W q) → ((q : ℕ) → W q → U q) → Chosen pairs atoms a U p → Chosen pairs atoms b W p
chosen-same {pairs} {atoms} {a} {b} {U} {W} {p} ab ba forth back c = record {
  is-ready = (forth p c.is-ready.0, λ q u. c.is-ready.1 q (back q u));
  most = λ q r. c.most q (over q r);
  newest = λ q r e. let m = c.newest q (over q r) e in omega (arith, new q, new p);
  lowest = λ q r e f. c.lowest q (over q r) e (new q ∙ f ∙ sym (new p));
}
  where
    over : (q : ℕ) → Ready pairs atoms W q → Ready pairs atoms U q
    over q r = (back q r.0, λ x u. r.1 x (forth x u))

    new : (q : ℕ) → new_parameters atoms a q ≡ new_parameters atoms b q
    new = new-same atoms a b ab ba

next-chosen : (pairs : List Pair) (atoms : List Atom) (unplaced : List ℕ) (p : ℕ) → Ascend unplaced →
    next_part pairs atoms unplaced ≡ Some p → Chosen pairs atoms (placed_parts atoms unplaced) (λ q. In q unplaced) p
next-chosen pairs atoms unplaced p a h = record {
  is-ready = (i, ready-no-arc pairs atoms unplaced p r);
  most = λ q k. (b.none_ahead q (candidate q k)).0;
  newest = λ q k. (b.none_ahead q (candidate q k)).1;
  lowest = λ q k. b.lowest q (candidate q k);
}
  where
    b : Best atoms (placed_parts atoms unplaced) (candidates pairs atoms unplaced) p
    b = next-best pairs atoms unplaced a p h

    i : In p unplaced
    i = (filter-in (ready pairs atoms unplaced) unplaced p b.one).0

    r : ready pairs atoms unplaced p ≡ true
    r = (filter-in (ready pairs atoms unplaced) unplaced p b.one).1

    candidate : (q : ℕ) → Ready pairs atoms (λ q. In q unplaced) q → In q (candidates pairs atoms unplaced)
    candidate q k = in-filter (ready pairs atoms unplaced) k.0 (no-arc-ready pairs atoms unplaced q k.1)

-- parts placed, then p, then others: p is first of those to come, or the last of those placed
module _ (atoms : List Atom) (us ps : List ℕ) (p : ℕ) where
  next-first : Within (placed_parts atoms (others p us) ++ ps) (placed_parts atoms us ++ (p ∷ ps))
  next-first q j = elim (in-append (placed_parts atoms (others p us)) j) [
    | inl m ↦ elim (placed-next atoms us p q m) [
      | inl e ↦ in_right (placed_parts atoms us) (here (sym e))
      | inr n ↦ in_left (p ∷ ps) n
    ]
    | inr m ↦ in_right (placed_parts atoms us) (there m)
  ]

  first_next : p < part_count atoms → Within (placed_parts atoms us ++ (p ∷ ps)) (placed_parts atoms (others p us) ++ ps)
  first_next l q j = elim (in-append (placed_parts atoms us) j) [
    | inl m ↦ in_left ps (still_placed atoms us p q m)
    | inr (here e) ↦ in_left ps (in-eq e (next-placed atoms us p l))
    | inr (there m) ↦ in_right (placed_parts atoms (others p us)) m
  ]

-- all unplaced are parts of these atoms
abbrev ArePartsOf : List Atom → List ℕ → Type 0
ArePartsOf atoms unplaced = (q : ℕ) → In q unplaced → q < part_count atoms

taken-chosen : {pairs : List Pair} {atoms : List Atom} {n : ℕ} {unplaced o : List ℕ} →
    Taken pairs atoms n unplaced o → Ascend unplaced → ArePartsOf atoms unplaced → (i : ℕ) → i < length o →
    Chosen pairs atoms (placed_parts atoms unplaced ++ take i o) (UnplacedAt (λ q. In q unplaced) o i) (get_or o i 0)
taken-chosen all-placed a f i l = absurd (omega arith)
taken-chosen {pairs} {atoms} (place-next {p = p} {unplaced = us} b k) a f zero l =
    chosen-same (λ q i. in_left [] i) (without-last (placed_parts atoms us))
    (λ q u. (u, λ k m. absurd (omega arith))) (λ q u. u.0) (next-chosen pairs atoms us p a b)
taken-chosen {pairs} {atoms} (place-next {p = p} {unplaced = us} {o = o} b k) a f (suc i) l =
    chosen-same (next-first atoms us (take i o) p)
    (first_next atoms us (take i o) p (f p (next-ready pairs atoms us p b).0)) forth back
    (taken-chosen k (ascend-filter (λ q. not (eqb p q)) a) (λ q j. f q (others-in p us q j).0) i (omega arith))
  where
    forth : (q : ℕ) → UnplacedAt (λ q. In q (others p us)) o i q → UnplacedAt (λ q. In q us) (p ∷ o) (suc i) q
    forth q (u, n) = ((others-in p us q u).0, before)
      where
        before : (k : ℕ) → k < suc i → get_or (p ∷ o) k 0 ≡ q → ⊥
        before zero m e = (others-in p us q u).1 e
        before (suc k) m e = n k (omega arith) e

    back : (q : ℕ) → UnplacedAt (λ q. In q us) (p ∷ o) (suc i) q → UnplacedAt (λ q. In q (others p us)) o i q
    back q (u, n) = (in-others p u (n 0 (omega arith)), λ k m. n (suc k) (omega arith))

-- "The order taken: among unplaced parts that no unplaced part has an arc to, the one with most preconditions", and
-- "When two ready parts have equally many preconditions, take the one whose preconditions name more parameters not in a
-- part already placed; only then the lowest number."
pub choice-fixed : (s : Schema) (o : List ℕ) → order_of s ≡ Some o → ChosenThroughout s o
unfolding ChosenThroughout
choice-fixed s o h i l =
    let n = part_count s.atoms in
    chosen-same (without-first (placed_parts s.atoms (up_to n)) (take i o) (none-placed s.atoms))
    (λ q j. in_right (placed_parts s.atoms (up_to n)) j)
    (λ q u. (up_to-in n q u.0, u.1)) (λ q u. (in-up_to n q u.0, u.1))
    (taken-chosen (order-as-taken s o h) (ascend-up_to n) (up_to-in n) i l)

-- ---- the choice decides the order
chosen-one : {pairs : List Pair} {atoms : List Atom} {placed : List ℕ} {U : ℕ → Type 0} {p q : ℕ} →
    Chosen pairs atoms placed U p → Chosen pairs atoms placed U q → p ≡ q
chosen-one {p = p} {q = q} a b =
    let m = a.most q b.is-ready in
    let n = b.most p a.is-ready in
    let k = a.newest q b.is-ready (omega arith) in
    let l = b.newest p a.is-ready (omega arith) in
    let x = a.lowest q b.is-ready (omega arith) (omega arith) in
    let y = b.lowest p a.is-ready (omega arith) (omega arith) in
    omega arith

-- a list of that length with that choice at each place is the order taken
pub choice-decides : (s : Schema) (o u : List ℕ) → order_of s ≡ Some o → length u ≡ length o →
    ChosenThroughout s u → u ≡ o
unfolding ChosenThroughout
choice-decides s o u h e c = ext_get_or 0 u o e (λ i l. same (suc i) i (omega arith) l)
  where
    at : (i : ℕ) → ((k : ℕ) → k < i → get_or u k 0 ≡ get_or o k 0) → i < length u → get_or u i 0 ≡ get_or o i 0
    at i before l =
        chosen-one (chosen-same placed-forth placed-back forth back (c i l)) (choice-fixed s o h i (omega arith))
      where
        begins : take i u ≡ take i o
        begins =
            let m = length-take-le i u (omega arith) in
            let n = length-take-le i o (omega arith) in
            ext_get_or 0 (take i u) (take i o) (omega arith)
            (λ k l. get_or-take i u k 0 (omega arith) ∙ (before k (omega arith) ∙ sym (get_or-take i o k 0 (omega arith))))

        placed-forth : Within (take i u) (take i o)
        placed-forth q j = subst (λ ps. In q ps) begins j

        placed-back : Within (take i o) (take i u)
        placed-back q j = subst (λ ps. In q ps) (sym begins) j

        forth : (q : ℕ) → UnplacedAt (PartOf s) u i q → UnplacedAt (PartOf s) o i q
        forth q x = (x.0, λ k m z. x.1 k m (before k m ∙ z))

        back : (q : ℕ) → UnplacedAt (PartOf s) o i q → UnplacedAt (PartOf s) u i q
        back q x = (x.0, λ k m z. x.1 k m (sym (before k m) ∙ z))

    same : (n i : ℕ) → i < n → i < length u → get_or u i 0 ≡ get_or o i 0
    same zero i m l = absurd (omega arith)
    same (suc n) i m l = at i (λ k j. same n k (omega arith) (omega arith)) l
