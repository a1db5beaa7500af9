-- What the tests of one atom, and of two, say of their words: the equations that the code of each test shows.
use Prim.Native.Nat.{ℕ, ◌+◌, ◌-◌, ◌≤◌, ◌<◌}
use mathlib.Core.Path.{◌≡◌, sym, ◌∙◌, ap, ap₂}
use mathlib.Core.Bool.{Bool, true, false, ◌&&◌, ◌||◌}
use mathlib.Core.List.{List}
use native.Mathlib.Omega.{arith}
use lib.ListN.{length, get_or}
use lib.Dec.{eqb, ltb}
use borrow.Author.Tests.{ltb-true, eqb-true, lt-ltb, le-ltb, eq-eqb, ne_eqb}
use Rattle.words.specs.Lists.{all, up_from, eq_list, less_list}
use Rattle.task.specs.Limits.{head_words}
use Rattle.task.specs.Layout.{head_in, arity_in, atom_base}
use Rattle.task.specs.Task.{args_fit, same_atom, fact_less}
use Rattle.words.specs.Words.{words_at, zeros_at}
use Rattle.task.specs.Table.{atom_in, schema_number_in, fact_in, arities_in}
use Rattle.task.specs.WordTests.{unused_zero, arg_words_fit, fact_words_fit}
use Rattle.words.proofs.Lists.{and_left, and_right, false-if}
use Rattle.words.proofs.Ranges.{or-false, all_map, all_from}
use Rattle.words.proofs.Words.{length-words_at, at-words_at}
use Rattle.task.proofs.WordTables.{args_known}

-- ---- one atom
module _ (w : List ℕ) (bound i : ℕ) where
  pub args-fit-known : arg_words_fit w bound i ≡ true → (atom_in w i).pred < (head_in w).predicates
  unfolding arg_words_fit
  args-fit-known h =
      let fit : Bool = args_fit (arities_in w) bound (atom_in w i).pred (atom_in w i).args in
      (args_known w bound i (and_left fit (unused_zero w i) h) (and_right fit (unused_zero w i) h)).known

  pub args-unknown : (head_in w).predicates ≤ (atom_in w i).pred → false ≡ arg_words_fit w bound i
  args-unknown l = sym (false-if (arg_words_fit w bound i) (λ h. let k = args-fit-known h in omega arith))

  -- from where the arguments begin to where they end, and from there to where an atom ends
  pub args-words : (from to : ℕ) → from ≡ atom_base w i + 4 → to ≡ from + arity_in w (atom_in w i).pred →
      (atom_in w i).pred < (head_in w).predicates →
      arg_words_fit w bound i ≡ all (λ a. ltb a bound) (words_at w from (to - from)) && zeros_at w to (from + 4 - to)
  unfolding arg_words_fit args_fit unused_zero atom_in arity_in
  args-words from to f t l =
      let p = (atom_in w i).pred in
      let n = length-words_at w head_words (head_in w).predicates in
      let m = length-words_at w (atom_base w i + 4) (arity_in w p) in
      let a = at-words_at w head_words (head_in w).predicates p (omega arith) in
      let args : Bool = all (λ a. ltb a bound) (atom_in w i).args in
      ap₂ (λ (x y : Bool). (x && (y && args)) && unused_zero w i)
      (lt-ltb p (length (arities_in w)) (omega arith))
      (eq-eqb (length (atom_in w i).args) (get_or (arities_in w) p 0) (m ∙ a)) ∙
      let many : arity_in w p ≡ to - from = omega arith in
      let begin : atom_base w i + 4 + arity_in w p ≡ to = omega arith in
      let unused : 4 - arity_in w p ≡ from + 4 - to = omega arith in
      ap₂ (λ (x y : Bool). x && y) (ap₂ (λ (x y : ℕ). all (λ a. ltb a bound) (words_at w x y)) (sym f) many)
      (ap₂ (zeros_at w) begin unused)

  pub args-below : arg_words_fit w bound i ≡ true → (from to : ℕ) → from ≡ atom_base w i + 4 → to ≡
      from + arity_in w (atom_in w i).pred →
      (k : ℕ) → from ≤ k → k < to → get_or w k 0 < bound
  unfolding words_at
  args-below h from to f t k l m =
      ltb-true (get_or w k 0) bound (all_from (λ k. ltb (get_or w k 0) bound) from (to - from)
      (sym (all_map (λ a. ltb a bound) (λ k. get_or w k 0) (up_from from (to - from))) ∙
      and_left (all (λ a. ltb a bound) (words_at w from (to - from))) _
      (sym (args-words from to f t (args-fit-known h)) ∙ h)) k l (omega arith))

-- ---- two atoms
module _ (w : List ℕ) (i j : ℕ) where
  abbrev same_args : Bool
  same_args = eq_list (atom_in w i).args (atom_in w j).args

  abbrev less_args : Bool
  less_args = less_list (atom_in w i).args (atom_in w j).args

  -- another role or another predicate
  pub other-atom : ((atom_in w i).role ≡ (atom_in w j).role → (atom_in w i).pred ≡ (atom_in w j).pred → ⊥) →
      same_atom (atom_in w i) (atom_in w j) ≡ false
  unfolding same_atom
  other-atom h = false-if (same_atom (atom_in w i) (atom_in w j)) (λ k.
      let role : Bool = eqb (atom_in w i).role (atom_in w j).role in
      let pred : Bool = eqb (atom_in w i).pred (atom_in w j).pred in
      h (eqb-true _ _ (and_left role _ k)) (eqb-true _ _ (and_left pred _ (and_right role _ k))))

  pub less-predicate : ((atom_in w i).pred ≡ (atom_in w j).pred → ⊥) → ltb (atom_in w i).pred (atom_in w j).pred ≡
      fact_less (fact_in w i) (fact_in w j)
  unfolding fact_less fact_in less_list
  less-predicate h =
      sym (ap (λ (b : Bool). ltb (atom_in w i).pred (atom_in w j).pred || (b && less_args)) (ne_eqb _ _ h) ∙ or-false _)

  -- the words of their arguments, where the predicates are equal
  module _ (left right n : ℕ) (l : left ≡ atom_base w i + 4) (r : right ≡ atom_base w j + 4)
      (e : n ≡ arity_in w (atom_in w i).pred) (p : (atom_in w i).pred ≡ (atom_in w j).pred) where
    left-args : words_at w left n ≡ (atom_in w i).args
    unfolding atom_in
    left-args = ap₂ (words_at w) l e

    right-args : words_at w right n ≡ (atom_in w j).args
    unfolding atom_in
    right-args = ap₂ (words_at w) r (e ∙ ap (arity_in w) p)

    pub same-args : (atom_in w i).role ≡ (atom_in w j).role → eq_list (words_at w left n) (words_at w right n) ≡
        same_atom (atom_in w i) (atom_in w j)
    unfolding same_atom
    same-args q =
        ap₂ eq_list left-args right-args ∙ sym (ap₂ (λ (x y : Bool). x && (y && same_args)) (eq-eqb _ _ q) (eq-eqb _ _ p))

    pub less-args : less_list (words_at w left n) (words_at w right n) ≡ fact_less (fact_in w i) (fact_in w j)
    unfolding fact_less fact_in less_list
    less-args =
        ap₂ less_list left-args right-args ∙
        sym (ap₂ (λ (x y : Bool). x || (y && less_args)) (le-ltb (atom_in w i).pred (atom_in w j).pred (omega arith))
        (eq-eqb _ _ p))

-- ---- ground atoms
module _ (w : List ℕ) (r i : ℕ) where
  abbrev numbered : Bool
  numbered = eqb (schema_number_in w i) 0

  abbrev roled : Bool
  roled = eqb (atom_in w i).role r

  abbrev parted : Bool
  parted = eqb (atom_in w i).part 0

  pub fact-known : fact_words_fit w r i ≡ true → (atom_in w i).pred < (head_in w).predicates
  unfolding fact_words_fit
  fact-known h =
      args-fit-known w (head_in w).objects i (and_right parted _ (and_right roled _ (and_right numbered _ h)))
