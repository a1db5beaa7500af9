-- How the sets of parameters of the parts grow, an atom at a time: what the atom names joins the set of its part, and
-- where the atom is a precondition the set of what the part's preconditions name.
use Prim.Native.Nat.{ℕ, ◌-◌, ◌<◌}
use mathlib.Core.Path.{◌≡◌, refl, sym, ◌∙◌, subst}
use mathlib.Core.Bool.{Bool, true, false, ◌&&◌, ◌||◌}
use mathlib.Core.List.{List, [], ◌∷◌, ◌++◌}
use native.Mathlib.Omega.{arith}
use lib.ListN.{get_or, set, replicate}
use lib.Dec.{eqb}
use borrow.Author.Tests.{eq-eqb, ne_eqb}
use Rattle.words.specs.Lists.{any, up_from}
use Rattle.words.specs.Sets.{member}
use Rattle.words.proofs.Lists.{and_left, and_right, and_both, any-in, in-any, map-in, up_from-in}
use Rattle.words.proofs.Ranges.{or-false, any_last}
use Rattle.words.proofs.BitSets.{member-zero}
use Rattle.words.proofs.Sums.{eqb-turn}
use Rattle.task.specs.Limits.{most_parts, most_parameters}
use Rattle.task.specs.Task.{Atom, names, precondition}
use Rattle.task.specs.Table.{atom_in}
use Rattle.task.proofs.States.{names_in}
use Rattle.arcs.specs.Order.{in_part, is_test, tests}
use Rattle.arcs.specs.Stretches.{IsStretch, stretch, stretch_in}
use Rattle.arcs.proofs.AtomWords.{argument-small}
use Rattle.arcs.proofs.Stretches.{stretch-atom}
use Rattle.arcs.proofs.Counting.{Each, each_none, each_same, each-stored, test-of-part, test-of-none}

-- ---- an array of sets
-- the set of those x that a test takes with part p
abbrev SetOf : (ℕ → ℕ → Bool) → ℕ → ℕ → Type 0
SetOf test p set = (x : ℕ) → member set x ≡ test x p

abbrev pub Kept : (ℕ → ℕ → Bool) → List ℕ → Type 0
Kept test sets = Each (SetOf test) sets

pub kept-none : (test : ℕ → ℕ → Bool) → ((x p : ℕ) → test x p ≡ false) → Kept test (replicate most_parts 0)
kept-none test h = each_none (SetOf test) (λ p x. member-zero x ∙ sym (h x p))

-- what is found of an atom: its part, and the set of its parameters
pub record Found (a : Atom) (part parameters : ℕ) : Type 0 where
  pub of : part ≡ a.part
  pub below : part < most_parts
  pub brings : (x : ℕ) → member parameters x ≡ names x a

module _ (test later : ℕ → ℕ → Bool) (sets : List ℕ) (k : Kept test sets) where
  pub kept_same : ((x p : ℕ) → later x p ≡ test x p) → Kept later sets
  kept_same h = each_same (SetOf test) (SetOf later) sets k (λ p s o x. o x ∙ sym (h x p))

  -- what an atom names joins the set of its part, which becomes r
  pub kept_more : {a : Atom} {part parameters : ℕ} → Found a part parameters →
      ((x p : ℕ) → later x p ≡ test x p || (eqb p a.part && names x a)) → (r : ℕ) →
      ((x : ℕ) → member r x ≡ member (get_or sets part 0) x || member parameters x) → Kept later (set sets part r)
  kept_more {a} {part} f h r u =
      each-stored (SetOf test) (SetOf later) sets k part r f.below joined
      (λ p s d o x. o x ∙ sym (other x p d))
    where
      joined : (x : ℕ) → member r x ≡ later x part
      joined x = rw (u x, k.at part x, f.brings x, h x part, eq-eqb part a.part f.of) refl

      other : (x p : ℕ) → (part ≡ p → ⊥) → later x p ≡ test x p
      other x p d = rw (h x p, ne_eqb p a.part (λ e. d (f.of ∙ sym e))) (or-false (test x p))

-- ---- the parameters of parts
pub in-part-none : (x p : ℕ) → in_part [] x p ≡ false
unfolding in_part any
in-part-none x p = refl

pub in-part-more : (atoms : List Atom) (a : Atom) (x p : ℕ) →
    in_part (atoms ++ (a ∷ [])) x p ≡ in_part atoms x p || (eqb p a.part && names x a)
unfolding in_part
in-part-more atoms a x p = any_last (λ a. eqb p a.part && names x a) atoms a

-- parameters are below 12
pub part_small : (w : List ℕ) (from to p x : ℕ) → IsStretch w from to → in_part (stretch_in w from to) x p ≡ true →
    x < most_parameters
unfolding in_part stretch
part_small w from to p x s h =
    let (a, i, e) = any-in (λ a. eqb p a.part && names x a) (stretch_in w from to) h in
    let (k, m, q) = map-in (atom_in w) (up_from from (to - from)) a i in
    let l = (up_from-in from (to - from) k m).1 in
    let f = s.forward in
    let n : names x (atom_in w k) ≡ true =
    subst (λ (b : Atom). names x b ≡ true) q (and_right (eqb p a.part) _ e) in
    argument-small w k (stretch-atom s k (omega arith)) x (names_in x (atom_in w k) n)

-- ---- those that preconditions name
pub tests-none : (x p : ℕ) → tests [] x p ≡ false
unfolding tests any
tests-none x p = refl

tests-last : (atoms : List Atom) (a : Atom) (x p : ℕ) →
    tests (atoms ++ (a ∷ [])) x p ≡ tests atoms x p || (is_test p a && names x a)
unfolding tests
tests-last atoms a x p = any_last (λ a. is_test p a && names x a) atoms a

pub tests-more : (atoms : List Atom) (a : Atom) → eqb a.role precondition ≡ true → (x p : ℕ) →
    tests (atoms ++ (a ∷ [])) x p ≡ tests atoms x p || (eqb p a.part && names x a)
tests-more atoms a e x p = rw (← test-of-part p a e) (tests-last atoms a x p)

pub tests_same : (atoms : List Atom) (a : Atom) → eqb a.role precondition ≡ false → (x p : ℕ) →
    tests (atoms ++ (a ∷ [])) x p ≡ tests atoms x p
tests_same atoms a e x p = rw (tests-last atoms a x p, test-of-none p a e) (or-false (tests atoms x p))

-- what a part's preconditions name stands in the part
pub tests-in-part : (atoms : List Atom) (x p : ℕ) → tests atoms x p ≡ true → in_part atoms x p ≡ true
unfolding tests in_part is_test
tests-in-part atoms x p h =
    let (a, i, e) = any-in (λ a. is_test p a && names x a) atoms h in
    let q = and_left (eqb a.part p) _ (and_left (is_test p a) _ e) in
    in-any (λ a. eqb p a.part && names x a) i
    (and_both _ _ (eqb-turn p a.part ∙ q) (and_right (is_test p a) _ e))
