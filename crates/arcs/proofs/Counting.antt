-- How the number of parts and the preconditions of each part grow, an atom at a time: the number to the larger of
-- itself and one more than the atom's part, the count of the atom's part by one where the atom is a precondition.
use Prim.Native.Nat.{ℕ, suc, ◌+◌, ◌-◌, ◌^◌, ◌≤◌, ◌<◌, max}
use mathlib.Core.Path.{◌≡◌, refl, sym, ◌∙◌, ap, subst}
use mathlib.Core.Bool.{Bool, true, false, and-true}
use mathlib.Core.List.{List, [], ◌∷◌, ◌++◌}
use native.Mathlib.Omega.{arith}
use lib.ListN.{length, get_or, set, replicate, length-append, length-map, length-set}
use lib.Seq.{get_or-set_same, get_or-set_other}
use lib.Dec.{eqb}
use borrow.Author.Tests.{eqb-true, eqb-false, eq-eqb, ne_eqb}
use Rattle.std.specs.Ordering.{ord_max, nat_cmp}
use Rattle.std.proofs.lemmas.Bool.Decides.{nat_tests}
use Rattle.words.specs.Lists.{filter, up_from}
use Rattle.words.proofs.Lists.{filter-append, length-up_from}
use Rattle.words.proofs.Sums.{one, one-most, length-keep, eqb-turn}
use Rattle.words.proofs.Words.{and-false}
use Rattle.task.specs.Limits.{most_parts}
use Rattle.task.specs.Task.{Atom, part_count, precondition}
use Rattle.task.specs.Table.{atom_in}
use Rattle.arcs.specs.Order.{is_test, preconditions}
use Rattle.arcs.specs.Stretches.{stretch, stretch_in}
use Rattle.arcs.proofs.Joining.{zeros-at}

-- ---- the number of parts
pub part-count-none : part_count [] ≡ 0
unfolding part_count
part-count-none = refl

pub part-count-more : (atoms : List Atom) (a : Atom) →
    part_count (atoms ++ (a ∷ [])) ≡ max (part_count atoms) (suc a.part)
unfolding part_count
part-count-more [] a = omega arith
part-count-more (x ∷ xs) a = let e = part-count-more xs a in omega arith

-- ---- an array with a number for each part, a count or a set, and what holds of each
pub record Each (P : ℕ → ℕ → Type 0) (numbers : List ℕ) : Type 0 where
  pub long : length numbers ≡ most_parts
  pub at : (p : ℕ) → P p (get_or numbers p 0)

-- it begins all 0
pub each_none : (P : ℕ → ℕ → Type 0) → ((p : ℕ) → P p 0) → Each P (replicate most_parts 0)
each_none P h = record { long = refl; at = λ p. subst (P p) (sym (zeros-at most_parts p)) (h p) }

-- what holds of each changes from P to Q
module _ (P Q : ℕ → ℕ → Type 0) (numbers : List ℕ) (e : Each P numbers) where
  pub each_same : ((p n : ℕ) → P p n → Q p n) → Each Q numbers
  each_same h = record { long = e.long; at = λ p. h p (get_or numbers p 0) (e.at p) }

  -- the number of part q is stored, the others stay
  pub each-stored : (q n : ℕ) → q < most_parts → Q q n → ((p m : ℕ) → (q ≡ p → ⊥) → P p m → Q p m) →
      Each Q (set numbers q n)
  each-stored q n l k h = record { long = length-set numbers q n ∙ e.long; at = λ p. go p (eqb q p) refl }
    where
      go : (p : ℕ) (b : Bool) → eqb q p ≡ b → Q p (get_or (set numbers q n) p 0)
      go p true z =
          let same = get_or-set_same numbers q n 0 (omega (arith, e.long)) in
          subst (λ (r : ℕ). Q r (get_or (set numbers q n) r 0)) (eqb-true q p z) (subst (Q q) (sym same) k)
      go p false z =
          let d = eqb-false q p z in
          let other = get_or-set_other numbers q p n 0 (λ y. d (sym y)) in
          subst (Q p) (sym other) (h p (get_or numbers p 0) d (e.at p))

-- ---- preconditions
-- a precondition is one of its part
pub test-of-part : (p : ℕ) (a : Atom) → eqb a.role precondition ≡ true → is_test p a ≡ eqb p a.part
unfolding is_test
test-of-part p a e = rw e (and-true (eqb a.part p) ∙ eqb-turn a.part p)

-- another atom is one of no part
pub test-of-none : (p : ℕ) (a : Atom) → eqb a.role precondition ≡ false → is_test p a ≡ false
unfolding is_test
test-of-none p a e = rw e (and-false (eqb a.part p))

preconditions-none : (p : ℕ) → preconditions [] p ≡ 0
unfolding preconditions filter
preconditions-none p = refl

preconditions-more : (atoms : List Atom) (a : Atom) (p : ℕ) →
    preconditions (atoms ++ (a ∷ [])) p ≡ preconditions atoms p + one (is_test p a)
unfolding preconditions filter
preconditions-more atoms a p =
    let e = ap length (filter-append (is_test p) atoms (a ∷ [])) in
    let f = length-append (filter (is_test p) atoms) (filter (is_test p) (a ∷ [])) in
    let g = length-keep (is_test p a) a [] in
    omega arith

-- a part has no more of them than there are atoms
preconditions-few : (atoms : List Atom) (p : ℕ) → preconditions atoms p ≤ length atoms
unfolding preconditions filter
preconditions-few [] p = omega arith
preconditions-few (x ∷ xs) p =
    let e = preconditions-few xs p in
    let f = length-keep (is_test p x) x (filter (is_test p) xs) in
    let g = one-most (is_test p x) in
    omega arith

-- ---- an array of how many each part has
abbrev pub Has : List Atom → ℕ → ℕ → Type 0
Has atoms p n = n ≡ preconditions atoms p

abbrev pub Counted : List Atom → List ℕ → Type 0
Counted atoms counts = Each (Has atoms) counts

pub counted_none : Counted [] (replicate most_parts 0)
counted_none = each_none (Has []) (λ p. sym (preconditions-none p))

-- before the last atom of a stretch there is room in a word for one more
pub counted-room : (w : List ℕ) (from : ℕ) {i to : ℕ} {counts : List ℕ} → Counted (stretch_in w from i) counts →
    i < to → to < 2 ^ 64 → (p : ℕ) → get_or counts p 0 + 1 < 2 ^ 64
unfolding stretch
counted-room w from {i} c l h p =
    let ks = up_from from (i - from) in
    let few = preconditions-few (stretch_in w from i) p in
    omega (arith, few, c.at p, length-map ks (atom_in w), length-up_from from (i - from))

module _ (atoms : List Atom) (a : Atom) where
  abbrev more : List Atom
  more = atoms ++ (a ∷ [])

  -- a part of which the atom is no precondition
  stays : (p n : ℕ) → is_test p a ≡ false → Has atoms p n → Has more p n
  stays p n e h = let z = ap one e in omega (arith, preconditions-more atoms a p)

  pub counted_same : {counts : List ℕ} → Counted atoms counts → eqb a.role precondition ≡ false →
      Counted (atoms ++ (a ∷ [])) counts
  counted_same {counts} c e = each_same (Has atoms) (Has more) counts c (λ p n. stays p n (test-of-none p a e))

  pub counted-more : {counts : List ℕ} → Counted atoms counts → eqb a.role precondition ≡ true → (q : ℕ) →
      q ≡ a.part → q < most_parts → Counted (atoms ++ (a ∷ [])) (set counts q (get_or counts q 0 + 1))
  counted-more {counts} c e q f l =
      let z = ap one (test-of-part q a e ∙ eq-eqb q a.part f) in
      let next : Has more q (get_or counts q 0 + 1) = omega (arith, c.at q, preconditions-more atoms a q) in
      each-stored (Has atoms) (Has more) counts c q (get_or counts q 0 + 1) l next
      (λ p n d. stays p n (test-of-part p a e ∙ ne_eqb p a.part (λ g. d (f ∙ sym g))))

-- the code's `count.max(n)`
pub larger : (a b : ℕ) → ord_max nat_cmp a b ≡ max a b
larger a b = grind (arith, nat_tests)
