-- What the scratch tells while n parts are in play: whether two of them can be merged; and a merge of the part numbers,
-- the parameters and the arcs keeps all of it, with a part fewer.
use Prim.Native.Nat.{ℕ, suc, ◌-◌, ◌≤◌, ◌<◌}
use mathlib.Core.Path.{◌≡◌, sym, ◌∙◌, ap, ap₂, subst}
use mathlib.Core.Bool.{Bool, ◌&&◌, ◌||◌}
use mathlib.Core.List.{List}
use native.Mathlib.Omega.{arith}
use lib.ListN.{length}
use lib.Dec.{leb}
use Rattle.words.specs.Sets.{word_bits, member, members}
use Rattle.words.proofs.Lists.{any_same}
use Rattle.task.specs.Limits.{most_atoms}
use Rattle.task.specs.Task.{Schema}
use Rattle.arcs.specs.Order.{in_part}
use Rattle.arcs.proofs.Arcs.{arc-self}
use Rattle.proposals.specs.Proposal.{with_parts, count_of, merged, mergeable}
use Rattle.proposals.specs.Circle.{arcs_of, becoming, merged_arcs, no_circle}
use Rattle.proposals.specs.Scratch.{arcs_in, parameters_to, NoOwn, MergesArcs, MergesParameters, Named, InPlay}
use Rattle.proposals.proofs.Partitions.{GapFree, numbered-gap-free, gap-free-count}
use Rattle.proposals.proofs.MergedNumbers.{becoming-small, merged-gap-free, merged-length}
use Rattle.proposals.proofs.Merges.{has-merged}
use Rattle.proposals.proofs.MergedArcs.{arcs-merged, mergeable-by-arcs}
use Rattle.proposals.proofs.PartPairs.{pair}
use Rattle.proposals.proofs.Widths.{together-counted}

pub in-play-gap-free : {s : Schema} {n : ℕ} {ps scratch : List ℕ} → InPlay s n ps scratch → GapFree n ps
in-play-gap-free play = numbered-gap-free.0 play.numbered

pub in-play-count : {s : Schema} {n : ℕ} {ps scratch : List ℕ} → InPlay s n ps scratch → count_of ps ≡ n
in-play-count {n = n} {ps = ps} play = gap-free-count n ps (in-play-gap-free play)

-- "Arcs inside a part don't count"
pub in-play-no-own : {s : Schema} {n : ℕ} {ps scratch : List ℕ} → InPlay s n ps scratch → NoOwn n (arcs_in scratch)
unfolding with_parts
in-play-no-own {s} {ps = ps} play p l = play.arcs p p l l ∙ arc-self s.pairs (with_parts s ps).atoms p

-- ---- two parts of them
module _ {s : Schema} {n : ℕ} {ps scratch : List ℕ} (play : InPlay s n ps scratch) (a b : ℕ) (l : a < b)
    (m : b < n) where
  fewer : n ≡ suc (n - 1)
  fewer = omega arith

  numbers : GapFree (suc (n - 1)) ps
  numbers = subst (λ (k : ℕ). GapFree k ps) fewer (in-play-gap-free play)

  -- "together they have at most that many parameters and some order still complies"
  pub mergeable-in-play : Named s → (width set : ℕ) →
      ((x : ℕ) → member set x ≡ member (parameters_to scratch a) x || member (parameters_to scratch b) x) →
      mergeable width s ps (pair a b) ≡
      leb (length (members set word_bits)) width && no_circle (merged_arcs a b (arcs_in scratch)) (n - 1)
  unfolding mergeable
  mergeable-in-play known width set union =
      sym (ap₂ (λ (t : ℕ) (c : Bool). leb t width && c)
      (together-counted s known ps a b set (λ x.
      union x ∙ ap₂ (λ (c d : Bool). c || d) (play.named a x (omega arith)) (play.named b x m)))
      (mergeable-by-arcs a b l (n - 1) (omega arith) s ps play.size numbers (arcs_in scratch)
      (λ p q i j. play.arcs p q (omega arith) (omega arith))))

  -- a merge of the numbers, the parameters and the arcs
  pub in-play-merged : {between after : List ℕ} → MergesParameters a b n scratch between →
      MergesArcs a b n between after → n ≤ most_atoms → InPlay s (n - 1) (merged a b ps) after
  in-play-merged {between} {after} params arcs few = record {
    size = merged-length a b ps ∙ play.size;
    numbered = numbered-gap-free.1 (merged-gap-free a b (n - 1) ps l (omega arith) numbers);
    arcs = λ p q i j.
        arcs.arcs (λ x i. ap (λ (w : ℕ). member w x) (params.arcs x (omega arith)) ∙ in-play-no-own play x i) p q i j
        ∙ arcs-merged a b l (n - 1) (omega arith) s ps play.size numbers (arcs_in between)
        (λ x y u v. same x y (omega arith) (omega arith)) p q i j;
    named = λ q x i.
        ap (λ (w : ℕ). member w x) (arcs.parameters q (omega arith))
        ∙ (params.named q x i
        ∙ (any_same (λ p. member (parameters_to scratch p) x) (λ p. in_part (with_parts s ps).atoms x p) (becoming a b q)
        (λ p k. play.named p x (omega (arith, becoming-small a b l (n - 1) (omega arith) q p i k)))
        ∙ sym (has-merged s ps play.size a b l x q)));
  }
    where
      -- the parameters' merge leaves the arcs
      same : (p q : ℕ) → p < n → q < n → arcs_in between p q ≡ arcs_of (with_parts s ps) p q
      same p q i j = ap (λ (w : ℕ). member w p) (params.arcs q (omega arith)) ∙ play.arcs p q i j
