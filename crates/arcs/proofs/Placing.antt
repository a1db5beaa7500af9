-- Placing parts one by one: the order is the parts placed, then the order of the unplaced ones. The unplaced parts are
-- a set in the code and a list in the definition: its members, ascending.
use Prim.Native.Nat.{ℕ, suc, ◌+◌, ◌-◌, ◌<◌}
use mathlib.Core.Path.{◌≡◌, refl, sym, ◌∙◌, ap, ap₂, subst}
use mathlib.Core.Bool.{Bool, true, false, not, ◌&&◌, ◌||◌}
use mathlib.Core.List.{List, [], ◌∷◌, ◌++◌, map}
use Rattle.std.specs.Prelude.{Option, None, Some}
use native.Mathlib.Omega.{arith}
use native.Mathlib.Numerals.{add-one}
use lib.ListN.{length, take, set}
use lib.Dec.{eqb, ltb}
use lib.Seq.{take-suc-set}
use borrow.Author.Tests.{lt-ltb, ltb-true}
use Rattle.task.specs.declared.Part.{Part}
use Rattle.words.specs.Lists.{filter, keep_if, up_to}
use Rattle.task.specs.Task.{Atom, Pair, Schema, part_count}
use Rattle.words.proofs.Lists.{In, here, there, and_left, map-append, up_to-in}
use Rattle.arcs.specs.Order.{in_part, placed_parts, next_part, cons_to, place, order_from, order_of}
use Rattle.arcs.specs.Stretches.{IsBound}
use Rattle.arcs.proofs.PlacedParts.{bound-none, bound-more}
use Rattle.words.specs.Sets.{SetBelow, member, members}

-- ---- sets as lists
-- a set that has lost p
abbrev Without : ℕ → ℕ → ℕ → Type 0
Without set p less = (k : ℕ) → member less k ≡ member set k && not (eqb p k)

filter-all : (p : ℕ → Bool) (xs : List ℕ) → ((x : ℕ) → In x xs → p x ≡ true) → filter p xs ≡ xs
unfolding filter keep_if
filter-all p [] h = refl
filter-all p (x ∷ xs) h =
    rw (h x (here refl)) (ap {B = List ℕ} (λ ys. x ∷ ys) (filter-all p xs (λ y i. h y (there i))))

filter-twice : (p q r : ℕ → Bool) → ((x : ℕ) → r x ≡ q x && p x) → (xs : List ℕ) → filter p (filter q xs) ≡ filter r xs
unfolding filter keep_if
filter-twice p q r h [] = refl
filter-twice p q r h (x ∷ xs) = go (q x) (p x) refl (h x) (filter-twice p q r h xs)
  where
    go : (a b : Bool) → p x ≡ b → r x ≡ a && b → filter p (filter q xs) ≡ filter r xs →
        filter p (keep_if a x (filter q xs)) ≡ keep_if (r x) x (filter r xs)
    go true true e f k = rw (e, f) (ap {B = List ℕ} (λ ys. x ∷ ys) k)
    go true false e f k = rw (e, f) k
    go false b e f k = rw f k

members-all : (set n : ℕ) → ((k : ℕ) → member set k ≡ ltb k n) → members set n ≡ up_to n
unfolding members
members-all set n h = filter-all (member set) (up_to n) (λ k i. h k ∙ lt-ltb k n (up_to-in n k i))

members-without : (set less p n : ℕ) → Without set p less →
    filter (λ q. not (eqb p q)) (members set n) ≡ members less n
unfolding members
members-without set less p n h = filter-twice (λ q. not (eqb p q)) (member set) (member less) h (up_to n)

pub below_all : (set n : ℕ) → ((k : ℕ) → member set k ≡ ltb k n) → SetBelow n set
below_all set n h k e = ltb-true k n (sym (h k) ∙ e)

pub below-without : (set less p n : ℕ) → Without set p less → SetBelow n set → SetBelow n less
below-without set less p n h b k e = b k (and_left (member set k) (not (eqb p k)) (sym (h k) ∙ e))

-- ---- parts placed before an order
cons_all : List ℕ → Option (List ℕ) → Option (List ℕ)
cons_all [] o = o
cons_all (p ∷ ps) o = cons_to p (cons_all ps o)

cons_all-none : (ps : List ℕ) → cons_all ps None ≡ None
unfolding cons_all cons_to
cons_all-none [] = refl
cons_all-none (p ∷ ps) = ap (cons_to p) (cons_all-none ps)

cons_all-nothing : (ps : List ℕ) → cons_all ps (Some []) ≡ Some ps
unfolding cons_all cons_to
cons_all-nothing [] = refl
cons_all-nothing (p ∷ ps) = ap (cons_to p) (cons_all-nothing ps)

cons_all-last : (ps : List ℕ) (p : ℕ) (o : Option (List ℕ)) → cons_all (ps ++ (p ∷ [])) o ≡ cons_all ps (cons_to p o)
unfolding cons_all
cons_all-last [] p o = refl
cons_all-last (q ∷ ps) p o = ap (cons_to q) (cons_all-last ps p o)

-- ---- a turn of the definition
module _ (pairs : List Pair) (atoms : List Atom) (m : ℕ) (us : List ℕ) where
  order-step : (p : ℕ) → Some p ≡ next_part pairs atoms us →
      order_from pairs atoms (suc m) us ≡ cons_to p (order_from pairs atoms m (filter (λ q. not (eqb p q)) us))
  unfolding order_from place
  order-step p c = ap (place (λ ps. order_from pairs atoms m ps) us) (sym c)

  order-stuck : None ≡ next_part pairs atoms us → order_from pairs atoms (suc m) us ≡ None
  unfolding order_from place
  order-stuck c = ap (place (λ ps. order_from pairs atoms m ps) us) (sym c)

-- ---- a turn of the code
-- the numbers of the parts placed
abbrev number_of : Part → ℕ
number_of p = p.0

abbrev pub numbers : ℕ → List Part → List ℕ
numbers placed parts = map number_of (take placed parts)

numbers_more : (placed : ℕ) (parts : List Part) (p : Part) → placed < length parts →
    numbers (placed + 1) (set parts placed p) ≡ numbers placed parts ++ (p.0 ∷ [])
numbers_more placed parts p l =
    ap (λ (k : ℕ). numbers k (set parts placed p)) (add-one placed)
    ∙ (ap (map number_of) (take-suc-set parts placed p l) ∙ map-append number_of (take placed parts) (p ∷ []))

-- the order of all n parts is the parts placed, then an order of the unplaced ones
pub Placed : List Pair → List Atom → ℕ → List Part → ℕ → ℕ → Type 0
Placed pairs atoms n parts unplaced placed =
    order_from pairs atoms n (up_to n) ≡
    cons_all (numbers placed parts) (order_from pairs atoms (n - placed) (members unplaced n))

module _ (pairs : List Pair) (atoms : List Atom) (n : ℕ) (parts : List Part) where
  pub placed-none : (unplaced : ℕ) → ((k : ℕ) → member unplaced k ≡ ltb k n) → Placed pairs atoms n parts unplaced 0
  unfolding Placed cons_all
  placed-none unplaced h =
      let z : n ≡ n - 0 = omega arith in
      ap₂ (λ (m : ℕ) (us : List ℕ). order_from pairs atoms m us) z (sym (members-all unplaced n h))

  pub placed-more : (unplaced less placed : ℕ) (p : Part) → placed < n → placed < length parts →
      Some p.0 ≡ next_part pairs atoms (members unplaced n) →
      Without unplaced p.0 less →
      Placed pairs atoms n parts unplaced placed → Placed pairs atoms n (set parts placed p) less (placed + 1)
  unfolding Placed
  placed-more unplaced less placed p l i c w h =
      let xs = numbers placed parts in
      let us = members unplaced n in
      let m = n - (placed + 1) in
      let e : n - placed ≡ suc m = omega arith in
      let o = order_from pairs atoms m (members less n) in
      let f = members-without unplaced less p.0 n w in
      h
      ∙ (ap (λ (k : ℕ). cons_all xs (order_from pairs atoms k us)) e
      ∙ (ap (cons_all xs) (order-step pairs atoms m us p.0 c)
      ∙ (ap (λ (vs : List ℕ). cons_all xs (cons_to p.0 (order_from pairs atoms m vs))) f
      ∙ (sym (cons_all-last xs p.0 o) ∙ ap (λ (ys : List ℕ). cons_all ys o) (sym (numbers_more placed parts p i))))))

  pub placed-stuck : (unplaced placed : ℕ) → placed < n →
      None ≡ next_part pairs atoms (members unplaced n) →
      Placed pairs atoms n parts unplaced placed → order_from pairs atoms n (up_to n) ≡ None
  unfolding Placed
  placed-stuck unplaced placed l c h =
      let xs = numbers placed parts in
      let us = members unplaced n in
      let e : n - placed ≡ suc (n - (placed + 1)) = omega arith in
      h
      ∙ (ap (λ (m : ℕ). cons_all xs (order_from pairs atoms m us)) e
      ∙ (ap (cons_all xs) (order-stuck pairs atoms (n - (placed + 1)) us c) ∙ cons_all-none xs))

  pub placed-all : (unplaced : ℕ) → Placed pairs atoms n parts unplaced n →
      order_from pairs atoms n (up_to n) ≡ Some (numbers n parts)
  unfolding Placed order_from
  placed-all unplaced h =
      let xs = numbers n parts in
      let z : n - n ≡ 0 = omega arith in
      h ∙ (ap (λ (m : ℕ). cons_all xs (order_from pairs atoms m (members unplaced n))) z ∙ cons_all-nothing xs)

-- ---- the parameters of the parts placed
module _ (atoms : List Atom) (n : ℕ) (all : n ≡ part_count atoms) where
  pub bound-first : (unplaced : ℕ) → ((k : ℕ) → member unplaced k ≡ ltb k n) →
      IsBound atoms (placed_parts atoms (members unplaced n)) 0
  bound-first unplaced h =
      let e = members-all unplaced n h ∙ ap up_to all in
      subst (λ (us : List ℕ). IsBound atoms (placed_parts atoms us) 0) (sym e) (bound-none atoms)

  pub bound-next : (unplaced less p bound own more : ℕ) → p < n → Without unplaced p less →
      IsBound atoms (placed_parts atoms (members unplaced n)) bound → ((x : ℕ) → member own x ≡ in_part atoms x p) →
      ((x : ℕ) → member more x ≡ member bound x || member own x) →
      IsBound atoms (placed_parts atoms (members less n)) more
  bound-next unplaced less p bound own more l w b o m =
      subst (λ (us : List ℕ). IsBound atoms (placed_parts atoms us) more) (members-without unplaced less p n w)
      (bound-more atoms (members unplaced n) p bound own more (omega arith) b o m)

-- ---- a schema of these pairs and atoms
pub order_is : (s : Schema) (pairs : List Pair) (atoms : List Atom) (n : ℕ) → s.pairs ≡ pairs → s.atoms ≡ atoms →
    n ≡ part_count atoms → order_from pairs atoms n (up_to n) ≡ order_of s
unfolding order_of
order_is s pairs atoms n d e k =
    ap (λ (m : ℕ). order_from pairs atoms m (up_to m)) k
    ∙ ap₂ (λ (ps : List Pair) (bs : List Atom). order_from ps bs (part_count bs) (up_to (part_count bs))) (sym d) (sym e)
