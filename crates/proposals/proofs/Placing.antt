-- Parts are placed one after another, by sets of bits: those unplaced, and of them those known to be free. Placing a
-- free part changes nothing in the test for a circle, and what is free stays free; so the free parts are placed one by
-- one, and looked for anew when none is left. Where none is found, either all are placed or the rest stand in a circle.
use Prim.Native.Nat.{ℕ, ◌^◌, ◌≤◌, ◌<◌}
use mathlib.Core.Path.{◌≡◌, refl, sym, ◌∙◌, ap}
use mathlib.Core.Bool.{Bool, true, false, not, ◌&&◌}
use mathlib.Core.List.{[]}
use native.Mathlib.Omega.{arith}
use lib.Dec.{eqb, ltb}
use borrow.Author.Tests.{eqb-true, eqb-false, lt-ltb, ltb-true, not-true}
use Rattle.words.specs.Lists.{any, up_to}
use Rattle.words.specs.Sets.{Loses, Lowest, SetBelow, member, members, set_bits}
use Rattle.words.proofs.Lists.{and_left, and_right, and_both, both-ft, bool-ext, false-if, In, any-in, in-any}
use Rattle.words.proofs.Lists.{in-filter, filter-in, filter-all, filter_none, in-up_to, up_to-in, some-length}
use Rattle.words.proofs.Ascending.{Ascend, ascend-up_to, ascend-filter}
use Rattle.words.proofs.BitSets.{member-zero}
use Rattle.words.proofs.LowestMembers.{lowest-is}
use Rattle.words.proofs.SetLoops.{left_in, gone, others-stay, members-left}
use Rattle.proposals.specs.Circle.{Arcs, free, placeable, no_circle}
use Rattle.proposals.specs.Scratch.{is_free}
use Rattle.proposals.proofs.Kahn.{placeable-none, placeable-one, placeable-stuck}

-- ---- the parts of a set
in_members : (set n k : ℕ) → k < n → member set k ≡ true → In k (members set n)
unfolding members
in_members set n k l m = in-filter (member set) (in-up_to n k l) m

members-in : (set n k : ℕ) → In k (members set n) → member set k ≡ true
unfolding members
members-in set n k i = (filter-in (member set) (up_to n) k i).1

ascend-members : (set n : ℕ) → Ascend (members set n)
unfolding members
ascend-members set n = ascend-filter (member set) (ascend-up_to n)

-- ---- free parts
module _ (arcs : Arcs) (unplaced : ℕ) where
  blocks : ℕ → ℕ → Bool
  blocks p q = arcs q p && member unplaced q

  -- no unplaced part has an arc to it, whether they are listed or not
  free-by-set : (n : ℕ) → n ≤ set_bits → SetBelow n unplaced → (p : ℕ) →
      free arcs (members unplaced n) p ≡ is_free arcs unplaced p
  unfolding free blocks
  free-by-set n few below p = ap not (bool-ext (any (λ q. arcs q p) (members unplaced n))
      (any (blocks p) (up_to set_bits))
      (λ h.
      let (q, i, e) = any-in (λ q. arcs q p) (members unplaced n) h in
      let m = members-in unplaced n q i in
      in-any (blocks p) (in-up_to set_bits q (omega (arith, below q m))) (and_both _ _ e m))
      (λ h.
      let (q, i, e) = any-in (blocks p) (up_to set_bits) h in
      let m = and_right (arcs q p) (member unplaced q) e in
      in-any (λ q. arcs q p) (in_members unplaced n q (below q m) m) (and_left (arcs q p) (member unplaced q) e)))

  stays-free : (k rest : ℕ) → Loses unplaced k rest → (p : ℕ) → is_free arcs unplaced p ≡ true →
      is_free arcs rest p ≡ true
  unfolding blocks
  stays-free k rest loses p f = ap not (false-if (any (λ q. arcs q p && member rest q) (up_to set_bits)) (λ h.
      let (q, i, e) = any-in (λ q. arcs q p && member rest q) (up_to set_bits) h in
      both-ft
      (in-any (blocks p) i (and_both _ _ (and_left (arcs q p) (member rest q) e)
      (left_in unplaced k rest loses q (and_right (arcs q p) (member rest q) e))))
      (not-true (any (blocks p) (up_to set_bits)) f)))

-- ---- the parts left
module _ (arcs : Arcs) (n : ℕ) where
  -- that they can be placed is the whole question
  pub record Left (unplaced : ℕ) : Type 0 where
    pub below : SetBelow n unplaced
    pub same : placeable arcs (members unplaced n) ≡ no_circle arcs n

  -- these of them are free; and if there is none of these, none of them is
  pub record Placing (unplaced ready : ℕ) : Type 0 where
    pub left : Left unplaced
    pub waits : (p : ℕ) → member ready p ≡ true → (member unplaced p ≡ true) × (is_free arcs unplaced p ≡ true)
    pub stuck : ready ≡ 0 → (p : ℕ) → member unplaced p ≡ true → is_free arcs unplaced p ≡ false

  -- all are left
  pub left-all : (unplaced : ℕ) → ((k : ℕ) → member unplaced k ≡ ltb k n) → Left unplaced
  unfolding members no_circle
  left-all unplaced h = record {
    below = λ k m. ltb-true k n (sym (h k) ∙ m);
    same = ap (placeable arcs) (filter-all (member unplaced) (up_to n) (λ k i. h k ∙ lt-ltb k n (up_to-in n k i)));
  }

  -- the free ones are found
  pub placing-found : {unplaced : ℕ} → Left unplaced → (ready : ℕ) →
      ((p : ℕ) → member ready p ≡ member unplaced p && is_free arcs unplaced p) → Placing unplaced ready
  placing-found {unplaced} left ready h = record {
    left = left;
    waits = λ p m.
        let e = sym (h p) ∙ m in
        (and_left (member unplaced p) (is_free arcs unplaced p) e, and_right (member unplaced p) _ e);
    stuck = λ z p m. false-if (is_free arcs unplaced p) (λ f.
        both-ft (h p ∙ and_both _ _ m f) (ap (λ (x : ℕ). member x p) z ∙ member-zero p));
  }

  module _ {unplaced ready p : ℕ} (h : Placing unplaced ready) (l : Lowest ready p) (rest : ℕ)
      (loses : Loses unplaced p rest) where
    -- the lowest of them is placed
    pub left-fewer : n ≤ set_bits → Left rest
    left-fewer few =
        let (m, f) = h.waits p l.is-in in
        record {
          below = λ k i. h.left.below k (left_in unplaced p rest loses k i);
          same =
              ap (placeable arcs) (members-left unplaced p rest loses n)
              ∙ (placeable-one arcs (ascend-members unplaced n) (in_members unplaced n p (h.left.below p m) m)
              (free-by-set arcs unplaced n few h.left.below p ∙ f)
              ∙ h.left.same);
        }

    -- others of them are left
    pub placing-on : n ≤ set_bits → (others : ℕ) → Loses ready p others → (others ≡ 0 → ⊥) → Placing rest others
    placing-on few others loses' d = record {
      left = left-fewer few;
      waits = λ q m.
          let (i, f) = h.waits q (left_in ready p others loses' q m) in (
            others-stay unplaced p rest loses q (λ e.
                both-ft m (ap (member others) (sym e) ∙ gone ready p others loses'))
                ∙ i,
            stays-free arcs unplaced p rest loses q f,
          );
      stuck = λ z. absurd (d z);
    }

  -- none is free: then all are placed, or not all can be
  pub placing-ends : {unplaced ready : ℕ} → n ≤ set_bits → unplaced < 2 ^ set_bits → Placing unplaced ready → ready ≡ 0 →
      eqb unplaced 0 ≡ no_circle arcs n
  unfolding members
  placing-ends {unplaced} few fits h z = go (eqb unplaced 0) refl
    where
      go : (t : Bool) → eqb unplaced 0 ≡ t → t ≡ no_circle arcs n
      go true e =
          let none : members unplaced n ≡ [] = filter_none (member unplaced) (up_to n) (λ k i.
          ap (λ (x : ℕ). member x k) (eqb-true unplaced 0 e) ∙ member-zero k) in
          sym (ap (placeable arcs) none ∙ placeable-none arcs) ∙ h.left.same
      go false e =
          let d = eqb-false unplaced 0 e in
          let one = lowest-is unplaced fits (omega (arith, d)) in
          let i = in_members unplaced n _ (h.left.below _ one.is-in) one.is-in in
          sym (placeable-stuck arcs (ascend-members unplaced n) (omega (arith, some-length i)) (λ p j.
          free-by-set arcs unplaced n few h.left.below p ∙ h.stuck z p (members-in unplaced n p j)))
          ∙ h.left.same
