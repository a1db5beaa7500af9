-- The test for a circle on merged arcs tells whether some order complies once a and b are merged, however the arcs
-- before the merge are kept: merged arcs depend on those between parts alone, and for a schema they are its own arcs
-- after the merge.
use Prim.Native.Nat.{ℕ, suc, ◌≤◌, ◌<◌}
use mathlib.Core.Path.{◌≡◌, refl, sym, ◌∙◌, ap}
use mathlib.Core.Bool.{false, not, ◌&&◌}
use mathlib.Core.List.{List}
use lib.ListN.{length}
use lib.Dec.{eqb}
use borrow.Author.Tests.{eq-eqb}
use Rattle.words.specs.Lists.{any}
use Rattle.words.proofs.Lists.{any_same}
use Rattle.task.specs.Task.{Schema}
use Rattle.proposals.specs.Proposal.{with_parts, merged, some_order}
use Rattle.proposals.specs.Circle.{Arcs, arcs_of, becoming, merged_arcs, no_circle}
use Rattle.proposals.proofs.SomeOrder.{some-order-by-sets}
use Rattle.proposals.proofs.Partitions.{GapFree, gap-free-count, parted-count}
use Rattle.proposals.proofs.MergedNumbers.{becoming-small, merged-gap-free, merged-length}
use Rattle.proposals.proofs.Merges.{arc-merged}

-- "Arcs inside a part don't count"
pub merged-self : (a b : ℕ) (arcs : Arcs) (p : ℕ) → merged_arcs a b arcs p p ≡ false
unfolding merged_arcs
merged-self a b arcs p =
    ap (λ c. not c && any (λ x. any (arcs x) (becoming a b p)) (becoming a b p)) (eq-eqb p p refl)

module _ (a b : ℕ) (l : a < b) (n : ℕ) (m : b ≤ n) where
  -- arcs that agree on n + 1 parts do so on the n that are left
  merged-alike : (arcs others : Arcs) → ((p q : ℕ) → p < suc n → q < suc n → arcs p q ≡ others p q) →
      (p q : ℕ) → p < n → q < n → merged_arcs a b arcs p q ≡ merged_arcs a b others p q
  unfolding merged_arcs
  merged-alike arcs others h p q i j =
      ap (λ c. not (eqb p q) && c)
      (any_same (λ x. any (arcs x) (becoming a b q)) (λ x. any (others x) (becoming a b q)) (becoming a b p)
      (λ x u. any_same (arcs x) (others x) (becoming a b q) (λ y v.
      h x y (becoming-small a b l n m p x i u) (becoming-small a b l n m q y j v))))

  module _ (s : Schema) (ps : List ℕ) (size : length ps ≡ length s.atoms) (g : GapFree (suc n) ps) (arcs : Arcs)
      (same : (p q : ℕ) → p < suc n → q < suc n → arcs p q ≡ arcs_of (with_parts s ps) p q) where
    -- merged arcs are those of the merged schema
    pub arcs-merged : (p q : ℕ) → p < n → q < n →
        merged_arcs a b arcs p q ≡ arcs_of (with_parts s (merged a b ps)) p q
    arcs-merged p q i j =
        merged-alike arcs (arcs_of (with_parts s ps)) same p q i j ∙ sym (arc-merged s ps size a b l p q)

    pub mergeable-by-arcs : no_circle (merged_arcs a b arcs) n ≡ some_order (with_parts s (merged a b ps))
    unfolding with_parts
    mergeable-by-arcs =
        let qs = merged a b ps in
        some-order-by-sets (with_parts s qs) (merged_arcs a b arcs) n arcs-merged
        (sym (parted-count s.atoms qs (merged-length a b ps ∙ size)
        ∙ gap-free-count n qs (merged-gap-free a b n ps l m g)))
