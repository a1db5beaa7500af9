-- Repeated atoms, looked for from the last atom back. For each role a set has the predicates of the atoms seen; an atom
-- whose predicate is not in the set of its role doesn't stand again. Where none stands again, the atoms are distinct.
use Prim.Native.Nat.{ℕ, ◌+◌, ◌-◌, ◌≤◌, ◌<◌}
use mathlib.Core.Path.{◌≡◌, refl, sym, ◌∙◌, ap, ap₂, subst}
use mathlib.Core.Bool.{Bool, true, false, not, ◌&&◌, ◌||◌}
use mathlib.Core.List.{List}
use native.Mathlib.Omega.{arith}
use native.Mathlib.Decide.{dec_le}
use lib.ListN.{length, get_or, set}
use lib.Dec.{eqb}
use lib.Seq.{get_or-set_same, get_or-set_other}
use borrow.Author.Tests.{eqb-true, eqb-false, eq-eqb}
use Rattle.words.specs.Sets.{member}
use Rattle.task.specs.Task.{same_atom, distinct}
use Rattle.task.specs.Table.{atom_in}
use Rattle.task.specs.WordTests.{atoms_in, stands_again, predicate_bit, HoldsBehind}
use Rattle.words.proofs.Lists.{both-ft, or_left, or_right, false-if}
use Rattle.words.proofs.Ranges.{all_from}
use Rattle.words.proofs.Loops.{any-start, any_none}
use Rattle.task.proofs.AtomWords.{other-atom}
use Rattle.task.proofs.AtomRuns.{distinct-step, distinct-start}

-- ---- the sets
module _ (w : List ℕ) (e : ℕ) where
  abbrev bit_in : ℕ → ℕ
  bit_in i = predicate_bit (atom_in w i).pred

  -- each atom from i on has its predicate in the set of its role
  abbrev pub SeenFrom : ℕ → List ℕ → Type 0
  SeenFrom i seen = (j : ℕ) → i ≤ j → j < e → member (get_or seen (atom_in w j).role 0) (bit_in j) ≡ true

  pub unseen : (i behind : ℕ) → HoldsBehind w i e behind → member behind (bit_in i) ≡ false →
      false ≡ stands_again w i e
  unfolding stands_again
  unseen i behind h f =
      any_none (any-start {p = λ j. same_atom (atom_in w i) (atom_in w j)}) (λ j l m. other-atom w i j (λ r p.
      both-ft (h j (omega arith) m r) (ap (λ (n : ℕ). member behind (predicate_bit n)) (sym p) ∙ f)))

  -- an atom's predicate joins the set of its role
  module _ (seen : List ℕ) (r bit more : ℕ) (l : r < length seen)
      (h : (x : ℕ) → member more x ≡ member (get_or seen r 0) x || eqb bit x) where
    sets-grow : (q x : ℕ) → member (get_or seen q 0) x ≡ true → member (get_or (set seen r more) q 0) x ≡ true
    sets-grow q x t = go (eqb r q) refl
      where
        go : (b : Bool) → eqb r q ≡ b → member (get_or (set seen r more) q 0) x ≡ true
        go true z =
            rw (← eqb-true r q z, get_or-set_same seen r more 0 l, h x)
            (or_left (member (get_or seen r 0) x) _ (ap (λ (n : ℕ). member (get_or seen n 0) x) (eqb-true r q z) ∙ t))
        go false z = rw (get_or-set_other seen r q more 0 (λ y. eqb-false r q z (sym y))) t

    pub seen_more : (i : ℕ) → SeenFrom i seen → r ≡ (atom_in w (i - 1)).role → bit ≡ bit_in (i - 1) →
        SeenFrom (i - 1) (set seen r more)
    seen_more i s q b j a m = elim (dec_le i j) [
      | yes y ↦ sets-grow (atom_in w j).role (bit_in j) (s j y m)
      | no n ↦ let z : i - 1 ≡ j = omega arith in
          subst (λ (k : ℕ). member (get_or (set seen r more) (atom_in w k).role 0) (bit_in k) ≡ true) z here
    ]
      where
        here : member (get_or (set seen r more) (atom_in w (i - 1)).role 0) (bit_in (i - 1)) ≡ true
        here =
            ap₂ (λ (k x : ℕ). member (get_or (set seen r more) k 0) x) (sym q) (sym b) ∙
            (ap (λ (k : ℕ). member k bit) (get_or-set_same seen r more 0 l) ∙
            (h bit ∙ or_right (member (get_or seen r 0) bit) _ (eq-eqb bit bit refl)))

-- ---- the atoms
module _ (w : List ℕ) (e i : ℕ) where
  pub some-repeated : (first : ℕ) → first ≤ i → i < e → stands_again w i e ≡ true →
      false ≡ distinct (atoms_in w first (e - first))
  some-repeated first l m h = sym (false-if (distinct (atoms_in w first (e - first))) (λ t.
      both-ft (all_from (λ k. not (stands_again w k e)) first (e - first) (sym (distinct-start w first e).left ∙ t) i l
      (omega arith)) (ap not h)))

  pub distinct_more : 0 < i → i ≤ e → false ≡ stands_again w (i - 1) e → distinct (atoms_in w i (e - i)) ≡ true →
      distinct (atoms_in w (i - 1) (e - (i - 1))) ≡ true
  distinct_more k l f h =
      let z : i - 1 + 1 ≡ i = omega arith in
      distinct-step w (i - 1) e (omega arith) ∙
      ap₂ (λ (b c : Bool). not b && c) (sym f) (ap (λ (n : ℕ). distinct (atoms_in w n (e - n))) z ∙ h)
