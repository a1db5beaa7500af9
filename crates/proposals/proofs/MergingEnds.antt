-- What holds of the parts at each turn of the merging (`Standing`): no gap, some order complies, and a part wider than
-- the width is one atom. A merge keeps it, since the merged part is narrow enough and each other part has come from one
-- part; and the merging ends with no pair left, since each merge leaves a part fewer.
use Prim.Native.Nat.{ℕ, zero, suc, ◌-◌, ◌≤◌, ◌<◌}
use mathlib.Core.Path.{◌≡◌, refl, sym, ◌∙◌, ap, subst}
use mathlib.Core.Bool.{Bool, true, false, ◌&&◌}
use mathlib.Core.List.{List, [], ◌∷◌}
use mathlib.Core.Logic.{◌⊎◌, inl, inr}
use Rattle.std.specs.Prelude.{Option, None, Some}
use native.Mathlib.Omega.{arith}
use lib.ListN.{length, get_or}
use lib.Dec.{eqb, leb}
use borrow.Author.Tests.{eqb-true, eqb-false, leb-true, leb-false}
use Rattle.words.proofs.Lists.{and_left, and_right, and_both, In, here, there, in-empty, first-none, get_or-map}
use Rattle.task.specs.Task.{Schema}
use Rattle.arcs.specs.Order.{NoOrderComplies}
use Rattle.tokens.specs.Split.{params_of}
use Rattle.proposals.specs.Proposal.{PartPair, with_parts, count_of, merged_number, merged, together, some_order}
use Rattle.proposals.specs.Proposal.{mergeable, first_pair, merge_first, merge_from}
use Rattle.proposals.specs.Circle.{came_from}
use Rattle.proposals.proofs.SomeOrder.{no-order-exactly}
use Rattle.proposals.proofs.Partitions.{GapFree, gap-free-count}
use Rattle.proposals.proofs.CameFrom.{becoming-other}
use Rattle.proposals.proofs.MergedNumbers.{goes-becoming, merged-gap-free, merged-length}
use Rattle.proposals.proofs.Merges.{merged-width, other_width}
use Rattle.proposals.proofs.PartPairs.{pair-in}
use Rattle.proposals.proofs.Turns.{found-pair, first-pair-none}

-- part p is one atom
abbrev pub Alone : List ℕ → ℕ → Type 0
Alone ps p = (i j : ℕ) → i < length ps → j < length ps → get_or ps i 0 ≡ p → get_or ps j 0 ≡ p → i ≡ j

pub record Standing (width : ℕ) (s : Schema) (n : ℕ) (ps : List ℕ) : Type 0 where
  pub size : length ps ≡ length s.atoms
  pub gap-free : GapFree n ps
  pub accepted : some_order (with_parts s ps) ≡ true
  pub alone : (p : ℕ) → width < length (params_of (with_parts s ps) p) → Alone ps p

-- ---- a merge
-- a part that isn't the merged one is as alone as the part that it was
module _ (a b : ℕ) (l : a < b) (ps : List ℕ) (q : ℕ) (n : q ≡ a → ⊥) where
  came-from : (k : ℕ) → k < length (merged a b ps) → get_or (merged a b ps) k 0 ≡ q → get_or ps k 0 ≡ came_from b q
  unfolding merged
  came-from k m e =
      only (subst (λ (rs : List ℕ). In (get_or ps k 0) rs) (becoming-other a b q n)
      (goes-becoming a b l q (get_or ps k 0)
      (sym (get_or-map (merged_number a b) ps k 0 0 (omega (arith, merged-length a b ps))) ∙ e)))
    where
      only : {p : ℕ} → In p (came_from b q ∷ []) → p ≡ came_from b q
      only (here f) = f
      only (there i) = absurd (in-empty i)

  merged-alone : Alone ps (came_from b q) → Alone (merged a b ps) q
  merged-alone h i j x y e f =
      let g = merged-length a b ps in
      h i j (omega arith) (omega arith) (came-from i x e) (came-from j y f)

module _ (width : ℕ) (s : Schema) where
  -- what the test of a pair says
  mergeable-says : (ps : List ℕ) (c : PartPair) → mergeable width s ps c ≡ true →
      (together (with_parts s ps) c.lower c.higher ≤ width) ×
      (some_order (with_parts s (merged c.lower c.higher ps)) ≡ true)
  unfolding mergeable
  mergeable-says ps c h =
      let t = together (with_parts s ps) c.lower c.higher in
      (leb-true t width (and_left (leb t width) _ h), and_right (leb t width) _ h)

  -- a part wider than the width isn't the merged one
  wide-alone : (n : ℕ) (ps : List ℕ) (a b : ℕ) → Standing width s n ps → a < b →
      together (with_parts s ps) a b ≤ width → (q : ℕ) →
      width < length (params_of (with_parts s (merged a b ps)) q) → Alone (merged a b ps) q
  wide-alone n ps a b h l narrow q w = go (eqb q a) refl
    where
      go : (d : Bool) → eqb q a ≡ d → Alone (merged a b ps) q
      go true d =
          let z = merged-width s ps h.size a b l in
          let v = ap (λ (p : ℕ). length (params_of (with_parts s (merged a b ps)) p)) (eqb-true q a d) in
          absurd (omega arith)
      go false d =
          let n = eqb-false q a d in
          let z = other_width s ps h.size a b l q n in
          merged-alone a b l ps q n (h.alone (came_from b q) (omega arith))

  -- with one part fewer
  standing-merged : (n : ℕ) (ps : List ℕ) (c : PartPair) → Standing width s (suc n) ps → c.lower < c.higher →
      c.higher ≤ n → mergeable width s ps c ≡ true → Standing width s n (merged c.lower c.higher ps)
  standing-merged n ps c h l m t =
      let a = c.lower in
      let b = c.higher in
      let (narrow, ordered) = mergeable-says ps c t in
      record {
        size = merged-length a b ps ∙ h.size;
        gap-free = merged-gap-free a b n ps l m h.gap-free;
        accepted = ordered;
        alone = wide-alone (suc n) ps a b h l narrow;
      }

  -- ---- the merging
  -- "While some pair of parts can be merged": none can at the end
  pub record Ended (n : ℕ) (ps : List ℕ) : Type 0 where
    pub count : ℕ
    pub no_more : count ≤ n
    pub stands : Standing width s count ps
    pub none_left : first_pair width s ps ≡ None

  pub merging-ends : (k n : ℕ) (ps : List ℕ) → n ≤ k → Standing width s n ps → Ended n (merge_from width s k ps)
  unfolding merge_from merge_first
  merging-ends zero n ps l h =
      record { count = n; no_more = omega arith; stands = h; none_left = none-there }
    where
      none-there : first_pair width s ps ≡ None
      none-there = first-pair-none width s n ps h.gap-free (λ a b x y. absurd (omega arith))
  merging-ends (suc k) n ps l h =
      go (first_pair width s ps) refl (λ m qs i st. merging-ends k m qs i st)
    where
      Rest : Type 0
      Rest = (m : ℕ) (qs : List ℕ) → m ≤ k → Standing width s m qs → Ended m (merge_from width s k qs)

      go : (r : Option PartPair) → first_pair width s ps ≡ r → Rest →
          Ended n (merge_first (λ qs. merge_from width s k qs) ps r)
      go None e rest = record { count = n; no_more = omega arith; stands = h; none_left = e }
      go (Some c) e rest =
          let (x, y, t) = found-pair width s n ps h.gap-free c e in
          let z : n ≡ suc (n - 1) = omega arith in
          let d = rest (n - 1) (merged c.lower c.higher ps) (omega arith)
          (standing-merged (n - 1) ps c (subst (λ (m : ℕ). Standing width s m ps) z h) x (omega arith) t) in
          record {
            count = d.count;
            no_more = let q = d.no_more in omega arith;
            stands = d.stands;
            none_left = d.none_left;
          }

  -- "each pair left is too wide together or would make a circle"
  pub pair_left : (n : ℕ) (ps : List ℕ) → GapFree n ps → first_pair width s ps ≡ None → (a b : ℕ) → a < b → b < n →
      (width < together (with_parts s ps) a b) ⊎ NoOrderComplies (with_parts s (merged a b ps))
  unfolding first_pair mergeable
  pair_left n ps g h a b l m =
      let c = gap-free-count n ps g in
      go (leb (together (with_parts s ps) a b) width) refl (some_order after) refl
      (λ t. first-none (mergeable width s ps) h (pair-in (count_of ps) a b l (omega arith)) t)
    where
      after : Schema
      after = with_parts s (merged a b ps)

      go : (x : Bool) → leb (together (with_parts s ps) a b) width ≡ x → (y : Bool) → some_order after ≡ y →
          (leb (together (with_parts s ps) a b) width && some_order after ≡ true → ⊥) →
          (width < together (with_parts s ps) a b) ⊎ NoOrderComplies after
      go true e true f t = absurd (t (and_both _ _ e f))
      go true e false f t = inr ((no-order-exactly after).0 f)
      go false e y f t = inl (let z = leb-false (together (with_parts s ps) a b) width e in omega arith)
