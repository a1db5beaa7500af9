-- What becomes of part numbers when parts a < b merge: each part below b stays, b joins a, and each behind b closes up
-- by one. So a merged part that isn't a comes from one part, a from two, and the numbers have again no gap.
use Prim.Native.Nat.{ℕ, suc, ◌-◌, ◌≤◌, ◌<◌}
use mathlib.Core.Path.{◌≡◌, refl, sym, ◌∙◌, subst}
use mathlib.Core.List.{List, map}
use mathlib.Core.Logic.{inl, inr}
use native.Mathlib.Omega.{arith}
use native.Mathlib.Decide.{dec_lt}
use lib.ListN.{length, length-map}
use borrow.Author.Tests.{eq-eqb, ne_eqb, lt-ltb, le-ltb}
use Rattle.words.proofs.Lists.{In, in-eq, in_map, map-in}
use Rattle.proposals.specs.Proposal.{merged_number, merged}
use Rattle.proposals.specs.Circle.{came_from, becoming}
use Rattle.proposals.proofs.Partitions.{GapFree}
use Rattle.proposals.proofs.CameFrom.{Came, low, high, came, came-low, came-high, came-becomes, higher-becomes}
use Rattle.proposals.proofs.CameFrom.{becomes}

-- ---- where a part goes
module _ (a b : ℕ) where
  pub merged-below : (p : ℕ) → p < b → merged_number a b p ≡ p
  unfolding merged_number
  merged-below p l = rw (ne_eqb p b (λ e. omega arith), le-ltb b p (omega arith)) refl

  pub merged-higher : (p : ℕ) → p ≡ b → merged_number a b p ≡ a
  unfolding merged_number
  merged-higher p e = rw (eq-eqb p b e) refl

  pub merged-beyond : (p : ℕ) → b < p → merged_number a b p ≡ p - 1
  unfolding merged_number
  merged-beyond p l = rw (ne_eqb p b (λ e. omega arith), lt-ltb b p l) refl

  pub data Goes (p : ℕ) : Type 0 where
    stays : p < b → merged_number a b p ≡ p → Goes p
    joins : p ≡ b → merged_number a b p ≡ a → Goes p
    closes-up : b < p → merged_number a b p ≡ p - 1 → Goes p

  pub goes : (p : ℕ) → Goes p
  goes p = elim (dec_lt p b) [
    | yes l ↦ stays l (merged-below p l)
    | no l ↦ elim (dec_lt b p) [
      | yes m ↦ closes-up m (merged-beyond p m)
      | no m ↦ let e : p ≡ b = omega arith in joins e (merged-higher p e)
    ]
  ]

-- ---- where a merged part was
-- the parts that become part p are those that go there
module _ (a b : ℕ) (l : a < b) where
  pub becoming-goes : (p q : ℕ) → In q (becoming a b p) → merged_number a b q ≡ p
  becoming-goes p q i = elim (becomes a b l p q i) [
    | inl f ↦ one (came b p) f
    | inr h ↦ merged-higher a b q h.1 ∙ sym h.0
  ]
    where
      one : Came b p → q ≡ came_from b p → merged_number a b q ≡ p
      one (low k e) f = merged-below a b q (omega arith) ∙ (f ∙ e)
      one (high k e) f = let z = merged-beyond a b q (omega arith) in omega arith

  pub goes-becoming : (p q : ℕ) → merged_number a b q ≡ p → In q (becoming a b p)
  goes-becoming p q h = go (goes a b q)
    where
      go : Goes a b q → In q (becoming a b p)
      go (stays x y) = in-eq (let e = came-low b p (omega arith) in omega arith) (came-becomes a b l p)
      go (joins x y) =
          subst (λ (p : ℕ). In q (becoming a b p)) (sym y ∙ h) (in-eq x (higher-becomes a b l))
      go (closes-up x y) = in-eq (let e = came-high b p (omega arith) in omega arith) (came-becomes a b l p)

  -- of n + 1 parts those that become a part below n are parts
  pub becoming-small : (n : ℕ) → b ≤ n → (p q : ℕ) → p < n → In q (becoming a b p) → q < suc n
  becoming-small n m p q k i =
      let e = becoming-goes p q i in
      elim (goes a b q) [ stays u v ↦ omega arith | joins u v ↦ omega arith | closes-up u v ↦ omega arith ]

-- ---- all part numbers
-- a merge leaves one part fewer, without a gap
pub merged-gap-free : (a b n : ℕ) (ps : List ℕ) → a < b → b ≤ n → GapFree (suc n) ps → GapFree n (merged a b ps)
unfolding merged
merged-gap-free a b n ps l m g = record { below = below; filled = filled }
  where
    below : (q : ℕ) → In q (map (merged_number a b) ps) → q < n
    below q i =
        let (p, j, e) = map-in (merged_number a b) ps q i in
        let k = g.below p j in
        elim (goes a b p) [ stays x y ↦ omega arith | joins x y ↦ omega arith | closes-up x y ↦ omega arith ]

    reached : (p q : ℕ) → p < suc n → merged_number a b p ≡ q → In q (map (merged_number a b) ps)
    reached p q k e = in-eq (sym e) (in_map (merged_number a b) (g.filled p k))

    filled : (q : ℕ) → q < n → In q (map (merged_number a b) ps)
    filled q k = elim (dec_lt q b) [
      | yes h ↦ reached q q (omega arith) (merged-below a b q h)
      | no h ↦ reached (suc q) q (omega arith) (let e = merged-beyond a b (suc q) (omega arith) in omega arith)
    ]

pub merged-length : (a b : ℕ) (ps : List ℕ) → length (merged a b ps) ≡ length ps
unfolding merged
merged-length a b ps = length-map ps (merged_number a b)
