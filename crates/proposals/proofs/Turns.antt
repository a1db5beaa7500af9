-- The merging turn by turn, as code goes: the parts proposed are those that n merges at the most give, n being the
-- number of parts there are. A turn looks for the first pair: all pairs before it, by lower and then higher part
-- number, can't be merged.
use Prim.Native.Nat.{ℕ, zero, suc, ◌<◌}
use mathlib.Core.Path.{◌≡◌, refl, ◌∙◌, ap}
use mathlib.Core.Bool.{true, false}
use mathlib.Core.List.{List}
use Rattle.std.specs.Prelude.{Option, None, Some}
use native.Mathlib.Omega.{arith}
use lib.ListN.{length}
use Rattle.words.specs.Lists.{first}
use Rattle.words.proofs.Lists.{both-ft, first_found}
use Rattle.task.specs.Task.{Schema}
use Rattle.proposals.specs.Proposal.{PartPair, own_parts, merged, count_of, mergeable, part_pairs, first_pair}
use Rattle.proposals.specs.Proposal.{merge_first, merge_from, proposed_parts}
use Rattle.proposals.proofs.Partitions.{GapFree, gap-free-count}
use Rattle.proposals.proofs.PartPairs.{pair, in_pairs, Before, first-of-pairs}

module _ (width : ℕ) (s : Schema) where
  -- ---- a turn
  pub merging-begins : proposed_parts width s ≡ merge_from width s (length s.atoms) (own_parts s)
  unfolding proposed_parts
  merging-begins = refl

  pub merging-goes-on : (n : ℕ) (ps : List ℕ) (c : PartPair) → first_pair width s ps ≡ Some c →
      merge_from width s (suc n) ps ≡ merge_from width s n (merged c.lower c.higher ps)
  unfolding merge_from merge_first
  merging-goes-on n ps c e = ap (merge_first (λ qs. merge_from width s n qs) ps) e

  pub merging-stops : (n : ℕ) (ps : List ℕ) → first_pair width s ps ≡ None → merge_from width s n ps ≡ ps
  unfolding merge_from merge_first
  merging-stops zero ps e = refl
  merging-stops (suc n) ps e = ap (merge_first (λ qs. merge_from width s n qs) ps) e

  -- ---- the first pair
  module _ (n : ℕ) (ps : List ℕ) (g : GapFree n ps) where
    pub found-pair : (c : PartPair) → first_pair width s ps ≡ Some c →
        (c.lower < c.higher) × (c.higher < n) × (mergeable width s ps c ≡ true)
    unfolding first_pair
    found-pair c e =
        let (i, t) = first_found (mergeable width s ps) (part_pairs (count_of ps)) c e in
        let (l, m) = in_pairs (count_of ps) c i in
        (l, omega (arith, gap-free-count n ps g), t)

    -- a pair that can be merged where none before it can is the first
    pub first-pair-is : (a b : ℕ) → a < b → b < n → mergeable width s ps (pair a b) ≡ true →
        ((c d : ℕ) → c < d → d < n → Before c d a b → mergeable width s ps (pair c d) ≡ false) →
        first_pair width s ps ≡ Some (pair a b)
    unfolding first_pair
    first-pair-is a b l m h before =
        ap (λ (k : ℕ). first (mergeable width s ps) (part_pairs k)) (gap-free-count n ps g)
        ∙ first-of-pairs (mergeable width s ps) n a b l m before h

    -- and where none can there is none
    pub first-pair-none : ((a b : ℕ) → a < b → b < n → mergeable width s ps (pair a b) ≡ false) →
        first_pair width s ps ≡ None
    first-pair-none h = go (first_pair width s ps) refl
      where
        go : (r : Option PartPair) → first_pair width s ps ≡ r → r ≡ None
        go None e = refl
        go (Some c) e = let (l, m, t) = found-pair c e in absurd (both-ft t (h c.lower c.higher l m))
