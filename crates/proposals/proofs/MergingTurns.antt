-- The merging as code does it, turn by turn. A merge leaves a part fewer in play, so that what further merges give is
-- what the merging gives; and where no pair can be merged the parts are those that it ends with.
use Prim.Native.Nat.{ℕ, suc, ◌+◌, ◌-◌, ◌≤◌, ◌<◌}
use mathlib.Core.Path.{◌≡◌, refl, sym, ◌∙◌, ap, subst}
use mathlib.Core.List.{List}
use Rattle.std.specs.Prelude.{None, Some}
use native.Mathlib.Omega.{arith}
use lib.ListN.{length}
use Rattle.words.specs.Lists.{put}
use Rattle.words.specs.Words.{words_at}
use Rattle.words.proofs.Words.{length-words_at}
use Rattle.task.specs.Limits.{most_atoms}
use Rattle.task.specs.Task.{Schema}
use Rattle.proposals.specs.Proposal.{count_of, merged, first_pair, merge_from}
use Rattle.proposals.specs.Scratch.{MergesArcs, MergesParameters, Named, InPlay}
use Rattle.proposals.proofs.MergedNumbers.{merged-length}
use Rattle.proposals.proofs.InPlay.{in-play-count, in-play-merged}
use Rattle.proposals.proofs.PartPairs.{pair}
use Rattle.proposals.proofs.Turns.{merging-goes-on, merging-stops}
use Rattle.words.proofs.PutWords.{words-put, put-again, put-own}
use Rattle.proposals.proofs.Renumbering.{renumbered_all}

-- at a turn: n of k parts are left, what further merges give is what the merging gives, and only the part numbers of
-- the k atoms have changed
pub record Merging (width : ℕ) (s : Schema) (from k : ℕ) (lent : List ℕ) (n : ℕ) (parts scratch : List ℕ) :
    Type 0 where
  pub play : InPlay s n (words_at parts from k) scratch
  pub same : merge_from width s k (words_at lent from k) ≡ merge_from width s n (words_at parts from k)
  pub words : parts ≡ put lent from (words_at parts from k)

-- the same of any schema whose parts were in play at first
abbrev pub MergingAny : ℕ → ℕ → ℕ → List ℕ → List ℕ → ℕ → List ℕ → List ℕ → Type 0
MergingAny width from k lent scratch₀ n parts scratch =
    (s : Schema) → Named s → InPlay s k (words_at lent from k) scratch₀ → Merging width s from k lent n parts scratch

pub merging-first : (width from k : ℕ) (lent scratch : List ℕ) →
    MergingAny width from k lent scratch k lent scratch
merging-first width from k lent scratch s known play = record {
  play = play;
  same = refl;
  words = sym (put-own lent from k);
}

module _ {width from k : ℕ} {lent scratch₀ : List ℕ} {n : ℕ} {parts scratch : List ℕ}
    (h : MergingAny width from k lent scratch₀ n parts scratch) where
  pub merging-turn : (a b : ℕ) → a < b → b < n → from + k ≤ length parts →
      ((s : Schema) (ps : List ℕ) → Named s → InPlay s n ps scratch → Some (pair a b) ≡ first_pair width s ps) →
      n ≤ most_atoms → {parts' between after : List ℕ} → parts' ≡ renumbered_all a b from k parts →
      MergesParameters a b n scratch between → MergesArcs a b n between after →
      MergingAny width from k lent scratch₀ (n - 1) parts' after
  merging-turn a b l m room found few {parts'} {between} {after} e named arcs s known play₀ = record {
    play =
        subst (λ (ps : List ℕ). InPlay s (n - 1) ps after) (sym read)
        (in-play-merged g.play a b l m named arcs few);
    same = g.same ∙ (next ∙ ap (merge_from width s (n - 1)) (sym read));
    words = over ∙ ap (put lent from) (sym read);
  }
    where
      g : Merging width s from k lent n parts scratch
      g = h s known play₀

      ps : List ℕ
      ps = words_at parts from k

      long : length (merged a b ps) ≡ k
      long = merged-length a b ps ∙ length-words_at parts from k

      read : words_at parts' from k ≡ merged a b ps
      read = ap (λ (w : List ℕ). words_at w from k) e ∙ words-put parts from k (merged a b ps) long room

      next : merge_from width s n ps ≡ merge_from width s (n - 1) (merged a b ps)
      next =
          let f : n ≡ suc (n - 1) = omega arith in
          ap (λ (i : ℕ). merge_from width s i ps) f
          ∙ merging-goes-on width s (n - 1) ps (pair a b) (sym (found s ps known g.play))

      over : parts' ≡ put lent from (merged a b ps)
      over =
          e ∙ (ap (λ (w : List ℕ). put w from (merged a b ps)) g.words
          ∙ put-again lent from ps (merged a b ps) (length-words_at parts from k ∙ sym long))

  pub merging-end :
      ((s : Schema) (ps : List ℕ) → Named s → InPlay s n ps scratch → None ≡ first_pair width s ps) →
      (s : Schema) → Named s → InPlay s k (words_at lent from k) scratch₀ →
      (parts ≡ put lent from (merge_from width s k (words_at lent from k))) ×
      (n ≡ count_of (merge_from width s k (words_at lent from k)))
  merging-end found s known play₀ =
      let g = h s known play₀ in
      let ps : List ℕ = words_at parts from k in
      let e : merge_from width s k (words_at lent from k) ≡ ps =
      g.same ∙ merging-stops width s n ps (sym (found s ps known g.play)) in
      (g.words ∙ ap (put lent from) (sym e), sym (ap count_of e ∙ in-play-count g.play))
