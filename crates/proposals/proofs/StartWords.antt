-- Words put one after another: the part numbers of the atoms of a stretch, and in the scratch the parameters of each.
use Prim.Native.Nat.{ℕ, suc, ◌+◌, ◌-◌, ◌≤◌, ◌<◌}
use mathlib.Core.Path.{◌≡◌, refl, sym, ◌∙◌, ap, subst}
use mathlib.Core.List.{List}
use native.Mathlib.Omega.{arith}
use native.Mathlib.Nat.{lt_of_lt_of_le}
use lib.ListN.{length, set}
use borrow.Author.Count.{below_more}
use Rattle.words.specs.Lists.{put, up_to, up_from}
use Rattle.words.specs.Sets.{member}
use Rattle.words.proofs.Lists.{length-up_to, up_to-suc}
use Rattle.words.proofs.Puts.{put_word}
use Rattle.task.specs.Limits.{most_atoms}
use Rattle.task.specs.Task.{Atom, names}
use Rattle.proposals.specs.Circle.{Arcs}
use Rattle.proposals.specs.Outcome.{scratch_words}
use Rattle.proposals.specs.Scratch.{KeepsArcs, KeepsBehind, arcs_in, parameters_to}
use Rattle.proposals.proofs.Scratches.{keeps-refl, keeps-room, keeps-trans, parameters-set-arcs}
use Rattle.proposals.proofs.Scratches.{parameters-set-here, parameters-set-keeps, parameters-set-other}

-- ---- the numbers of parts
pub numbers-none : (w : List ℕ) (from : ℕ) → w ≡ put w from (up_to (from - from))
unfolding up_to up_from
numbers-none w from = let e : 0 ≡ from - from = omega arith in ap (λ (n : ℕ). put w from (up_to n)) e

-- one more
pub numbers_more : (w : List ℕ) (from i : ℕ) → from ≤ i →
    set (put w from (up_to (i - from))) i (i - from) ≡ put w from (up_to (i + 1 - from))
numbers_more w from i l =
    let n = i - from in
    let e : suc n ≡ i + 1 - from = omega arith in
    put_word w from (up_to n) i n (omega (arith, length-up_to n)) ∙
    ap (put w from) (sym (up_to-suc n) ∙ ap up_to e)

-- ---- words that are found one after another
-- what holds of each word before word k holds of word k too, once it is put and the others stay
words_more : (Is : ℕ → ℕ → Type 0) (word after : ℕ → ℕ) (k own : ℕ) → ((j : ℕ) → (j ≡ k → ⊥) → after j ≡ word j) →
    after k ≡ own → ((j : ℕ) → j < k → Is j (word j)) → Is k own → (j : ℕ) → j < k + 1 → Is j (after j)
words_more Is word after k own stays here before is =
    below_more (λ j. Is j (after j)) k
    (λ j l. subst (Is j) (sym (stays j (λ e. let o = e in omega arith))) (before j l)) (subst (Is k) (sym here) is)

-- ---- the parameters of each atom
-- those of the first n atoms are put; the arcs stay, and so does what lies behind the scratch
pub record ParametersPut (atom : ℕ → Atom) (n : ℕ) (lent scratch : List ℕ) : Type 0 where
  pub keeps : KeepsBehind lent scratch
  pub arcs : KeepsArcs lent scratch
  pub named : (p x : ℕ) → p < n → member (parameters_to scratch p) x ≡ names x (atom p)

pub parameters-none : (atom : ℕ → Atom) (from : ℕ) (lent : List ℕ) → ParametersPut atom (from - from) lent lent
parameters-none atom from lent = record {
  keeps = keeps-refl lent;
  arcs = λ q l. refl;
  named = λ p x l. absurd (omega arith);
}

-- one more
pub parameters-more : {atom : ℕ → Atom} {n m : ℕ} {lent scratch : List ℕ} (own : ℕ) → m ≡ n + 1 → n < most_atoms →
    scratch_words ≤ length lent → ParametersPut atom n lent scratch → ((x : ℕ) → member own x ≡ names x (atom n)) →
    ParametersPut atom m lent (set scratch (most_atoms + n) own)
parameters-more {atom} {n} {m} {lent} {scratch} own e l room h new = record {
  keeps = keeps-trans h.keeps (parameters-set-keeps scratch n l own);
  arcs = λ q a. parameters-set-arcs scratch n l own q a ∙ h.arcs q a;
  named = λ p x a.
      words_more (λ p set. (x : ℕ) → member set x ≡ names x (atom p)) (parameters_to scratch)
      (parameters_to (set scratch (most_atoms + n) own)) n own (parameters-set-other scratch n l own)
      (parameters-set-here scratch n l own (keeps-room h.keeps room)) (λ p l x. h.named p x l) new p (omega arith)
      x;
}

-- the arcs that were put before are still there
pub arcs-still : (arcs : Arcs) {n : ℕ} (lent scratch : List ℕ) → n ≤ most_atoms → KeepsArcs lent scratch →
    ((p q : ℕ) → p < n → q < n → arcs_in lent p q ≡ arcs p q) →
    (p q : ℕ) → p < n → q < n → arcs_in scratch p q ≡ arcs p q
arcs-still arcs lent scratch few keeps h p q l m =
    ap (λ (set : ℕ). member set p) (keeps q (lt_of_lt_of_le m few)) ∙ h p q l m
