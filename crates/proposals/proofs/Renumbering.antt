-- The part numbers of a schema's atoms while they become those after a merge, one by one: those before atom i are
-- renumbered, all other words stand as found.
use Prim.Native.Nat.{ℕ, ◌+◌, ◌-◌, ◌≤◌}
use mathlib.Core.Path.{◌≡◌, sym, ◌∙◌, ap}
use mathlib.Core.List.{List, [], ◌∷◌, ◌++◌}
use native.Mathlib.Omega.{arith}
use lib.ListN.{length, get_or, set, length-map}
use Rattle.words.specs.Lists.{put}
use Rattle.words.specs.Words.{words_at}
use Rattle.words.proofs.Lists.{map-append}
use Rattle.words.proofs.Puts.{length-put, put_word, words_more}
use Rattle.words.proofs.Words.{length-words_at}
use Rattle.proposals.specs.Proposal.{merged_number, merged}
use Rattle.words.proofs.PutWords.{behind-put}

-- the parts of atoms `from` to i - 1 after the merge
abbrev renumbered_to : ℕ → ℕ → ℕ → List ℕ → ℕ → List ℕ
renumbered_to a b from parts i = merged a b (words_at parts from (i - from))

pub record Renumbered (a b from : ℕ) (parts : List ℕ) (i : ℕ) (after : List ℕ) : Type 0 where
  pub begun : from ≤ i
  pub words : after ≡ put parts from (renumbered_to a b from parts i)

length-renumbered : (a b from : ℕ) (parts : List ℕ) (i : ℕ) → length (renumbered_to a b from parts i) ≡ i - from
unfolding merged
length-renumbered a b from parts i =
    length-map (words_at parts from (i - from)) (merged_number a b) ∙ length-words_at parts from (i - from)

pub renumbered-none : (a b from : ℕ) (parts : List ℕ) → Renumbered a b from parts from parts
unfolding merged words_at
renumbered-none a b from parts = let e : from - from ≡ 0 = omega arith in record {
  begun = omega arith;
  words = ap (λ (n : ℕ). put parts from (merged a b (words_at parts from n))) (sym e);
}

module _ {a b from : ℕ} {parts : List ℕ} {i : ℕ} {after : List ℕ} (h : Renumbered a b from parts i after) where
  -- the next atom's number stands as found
  as-found : get_or after i 0 ≡ get_or parts i 0
  as-found =
      let e = length-renumbered a b from parts i in
      let s = h.begun in
      ap (λ (w : List ℕ). get_or w i 0) h.words
      ∙ behind-put parts from (renumbered_to a b from parts i) i (omega arith)

  one_more : renumbered_to a b from parts (i + 1) ≡
      renumbered_to a b from parts i ++ (merged_number a b (get_or after i 0) ∷ [])
  unfolding merged
  one_more =
      let s = h.begun in
      let e : (i + 1) - from ≡ (i - from) + 1 = omega arith in
      let f : from + (i - from) ≡ i = omega arith in
      ap (λ (n : ℕ). merged a b (words_at parts from n)) e
      ∙ (ap (merged a b) (words_more parts from (i - from))
      ∙ (map-append (merged_number a b) (words_at parts from (i - from)) (get_or parts (from + (i - from)) 0 ∷ [])
      ∙ ap (λ (x : ℕ). renumbered_to a b from parts i ++ (merged_number a b x ∷ []))
      (ap (λ (k : ℕ). get_or parts k 0) f ∙ sym as-found)))

  pub renumbered-more : (x : ℕ) → x ≡ merged_number a b (get_or after i 0) →
      Renumbered a b from parts (i + 1) (set after i x)
  renumbered-more x e =
      let s = h.begun in
      let n = length-renumbered a b from parts i in
      record {
        begun = omega arith;
        words =
            ap (λ (w : List ℕ). set w i x) h.words
            ∙ (put_word parts from (renumbered_to a b from parts i) i x (omega arith)
            ∙ ap (put parts from)
            (ap (λ (y : ℕ). renumbered_to a b from parts i ++ (y ∷ [])) e ∙ sym one_more));
      }

-- the numbers of atoms after a merge, with all words around them
abbrev pub renumbered_all : ℕ → ℕ → ℕ → ℕ → List ℕ → List ℕ
renumbered_all a b from k parts = put parts from (merged a b (words_at parts from k))

pub renumbered-long : (a b from k : ℕ) (parts : List ℕ) {after : List ℕ} → after ≡ renumbered_all a b from k parts →
    length after ≡ length parts
renumbered-long a b from k parts e = ap length e ∙ length-put parts from (merged a b (words_at parts from k))

pub renumbered-end : {a b from : ℕ} {parts : List ℕ} {i to : ℕ} {after : List ℕ} → i ≡ to →
    Renumbered a b from parts i after → after ≡ renumbered_all a b from (to - from) parts
renumbered-end {a} {b} {from} {parts} e h = h.words ∙ ap (λ (k : ℕ). renumbered_all a b from (k - from) parts) e
