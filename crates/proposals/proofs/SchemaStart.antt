-- A schema of a table when its merging begins: each of its atoms is in its own part, the scratch has the arcs that two
-- atoms give, and the parameters of each. So what the merging promises is the parts proposed.
use Prim.Native.Nat.{ℕ, ◌+◌, ◌-◌, ◌≤◌, ◌<◌}
use mathlib.Core.Path.{◌≡◌, sym, ◌∙◌, ap, ap₂, subst, subst₂}
use mathlib.Core.List.{List}
use native.Mathlib.Omega.{arith}
use lib.ListN.{length, get_or, length-map}
use Rattle.words.specs.Lists.{put, up_from, up_to}
use Rattle.words.specs.Words.{words_at}
use Rattle.words.specs.Sets.{member}
use Rattle.words.proofs.Lists.{get_or-mapped, length-up_from, length-up_to}
use Rattle.task.specs.Task.{Atom, Pair, Schema, names}
use Rattle.task.specs.Table.{atom_in}
use Rattle.task.proofs.AtomsStand.{no_atom}
use Rattle.arcs.specs.Order.{gives_arc}
use Rattle.arcs.specs.Stretches.{stretch, stretch_in}
use Rattle.proposals.specs.Proposal.{own_parts, count_of, merge_from, proposed_parts}
use Rattle.proposals.specs.Scratch.{arcs_in, parameters_to, InPlay}
use Rattle.proposals.proofs.OwnParts.{own-in-play}
use Rattle.proposals.proofs.Proposed.{proposed}
use Rattle.words.proofs.PutWords.{words-put, put-again}
use Rattle.proposals.proofs.Turns.{merging-begins}

-- the schema whose atoms are atoms `from` to `to - 1` of a table
module _ (w : List ℕ) (s : Schema) (from to : ℕ) (atoms : s.atoms ≡ stretch_in w from to) where
  count : length s.atoms ≡ to - from
  unfolding stretch
  count = ap length atoms ∙ (length-map (up_from from (to - from)) (atom_in w) ∙ length-up_from from (to - from))

  at : (p : ℕ) → p < to - from → get_or s.atoms p no_atom ≡ atom_in w (from + p)
  unfolding stretch
  at p l = ap (λ (bs : List Atom). get_or bs p no_atom) atoms ∙ get_or-mapped (atom_in w) from (to - from) p no_atom l

  own-numbers : own_parts s ≡ up_to (to - from)
  unfolding own_parts
  own-numbers = ap up_to count

  -- the numbers, arcs and parameters of its atoms are those of the parts at the start
  pub stretch-in-play : (pairs : List Pair) → s.pairs ≡ pairs → (scratch : List ℕ) →
      ((p q : ℕ) → p < to - from → q < to - from →
      arcs_in scratch p q ≡ gives_arc pairs (atom_in w (from + p)) (atom_in w (from + q))) →
      ((p x : ℕ) → p < to - from → member (parameters_to scratch p) x ≡ names x (atom_in w (from + p))) →
      InPlay s (to - from) (up_to (to - from)) scratch
  stretch-in-play pairs same scratch arcs named =
      subst₂ (λ (n : ℕ) (ps : List ℕ). InPlay s n ps scratch) count own-numbers
      (own-in-play s scratch
      (λ p q l m.
      let j : p < to - from = omega (arith, count) in
      let k : q < to - from = omega (arith, count) in
      arcs p q j k ∙
      (ap₂ (gives_arc pairs) (sym (at p j)) (sym (at q k)) ∙
      ap (λ (qs : List Pair). gives_arc qs (get_or s.atoms p no_atom) (get_or s.atoms q no_atom)) (sym same)))
      (λ p x l.
      let k : p < to - from = omega (arith, count) in
      named p x k ∙ ap (names x) (sym (at p k))))

  -- what the merging promises of parts numbered so is that the parts proposed are put, and how many there are
  module _ (width : ℕ) (parts numbered scratch after : List ℕ) (left : ℕ) where
    abbrev own : List ℕ
    own = up_to (to - from)

    abbrev merged_to : List ℕ → List ℕ
    merged_to ps = merge_from width s (to - from) ps

    abbrev Merges : List ℕ → Type 0
    Merges ps = InPlay s (to - from) ps scratch →
        (after ≡ put numbered from (merged_to ps)) × (left ≡ count_of (merged_to ps))

    all-merged : merged_to own ≡ proposed_parts width s
    all-merged = sym (merging-begins width s ∙ ap₂ (merge_from width s) count own-numbers)

    own-long : length own ≡ length (proposed_parts width s)
    own-long = length-up_to (to - from) ∙ (sym count ∙ sym (proposed width s).size)

    pub merged-proposed : from + (to - from) ≤ length parts → numbered ≡ put parts from own →
        Merges (words_at numbered from (to - from)) → InPlay s (to - from) own scratch →
        (after ≡ put parts from (proposed_parts width s)) × (left ≡ count_of (proposed_parts width s))
    merged-proposed room e promise begun =
        let read = ap (λ (w : List ℕ). words_at w from (to - from)) e ∙
        words-put parts from (to - from) own (length-up_to (to - from)) room in
        let (words, counted) = subst Merges read promise begun in
        let again = put-again parts from own (proposed_parts width s) own-long in (
          words ∙ (ap₂ (λ (w ps : List ℕ). put w from ps) e all-merged ∙ again),
          counted ∙ ap count_of all-merged,
        )
