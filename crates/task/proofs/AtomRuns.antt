-- The tests of a run of atoms, one atom further: what is left of a test at atom i is what atom i says and what is left
-- at the next. So 'the facts ascend' and 'the atoms differ' are tests of each atom, as a loop makes them; a loop over
-- the roles goes on by `and-more` and ends by `and-fails`. `neighbours-start` says it of all that ascends, so of pairs.
use Prim.Native.Nat.{ℕ, zero, suc, ◌+◌, ◌-◌, ◌≤◌, ◌<◌, max}
use mathlib.Core.Path.{◌≡◌, refl, sym, ◌∙◌, ap, ap₂, subst}
use mathlib.Core.Bool.{Bool, true, not, ◌&&◌, and_assoc}
use mathlib.Core.List.{List, [], ◌∷◌, map}
use native.Mathlib.Omega.{arith}
use native.Mathlib.Decide.{dec_le}
use lib.Dec.{leb}
use borrow.Author.Tests.{leb-true}
use Rattle.std.specs.List.{fold, reduce}
use Rattle.std.specs.Option.{unwrap_or}
use Rattle.words.specs.Lists.{all, up_from}
use Rattle.task.specs.Task.{deletion, same_atom, distinct, roles_ascend, part_count, fact_less, ascending}
use Rattle.task.specs.Table.{atom_in, fact_in}
use Rattle.task.specs.WordTests.{atoms_in, facts_in, stands_again, RolesRise}
use Rattle.words.proofs.Lists.{and_left, and_right}
use Rattle.words.proofs.Ranges.{range-step, range-done, any-map}
use Rattle.words.proofs.Loops.{AllLeft, all-steps}

-- a range of two or more
two-step : (i e : ℕ) → i + 1 < e → up_from i (e - i) ≡ i ∷ (i + 1) ∷ up_from (i + 1 + 1) (e - (i + 1 + 1))
two-step i e l = range-step i e (omega arith) ∙ ap {B = List ℕ} (λ (is : List ℕ). i ∷ is) (range-step (i + 1) e l)

one-step : (i e : ℕ) → i + 1 ≡ e → up_from i (e - i) ≡ i ∷ []
one-step i e l =
    range-step i e (omega arith) ∙ ap {B = List ℕ} (λ (is : List ℕ). i ∷ is) (range-done (i + 1) e (omega arith))

-- ---- a test of each element beside the one before
all-shifted : (p : ℕ → Bool) (i n : ℕ) → all p (up_from (i + 1) n) ≡ all (λ k. p (k + 1)) (up_from i n)
unfolding all up_from
all-shifted p i zero = refl
all-shifted p i (suc n) =
    let e : suc (i + 1) ≡ suc i + 1 = omega arith in
    ap (λ (b : Bool). p (i + 1) && b) (ap (λ (s : ℕ). all p (up_from s n)) e ∙ all-shifted p (suc i) n)

module _ {A : Type 0} (less : A → A → Bool) (test : List A → Bool) (none : test [] ≡ true)
    (one : (x : A) → test (x ∷ []) ≡ true)
    (more : (x y : A) (xs : List A) → test (x ∷ y ∷ xs) ≡ less x y && test (y ∷ xs)) (f : ℕ → A) where
  abbrev test_left : ℕ → ℕ → Bool
  test_left e k = test (map f (up_from k (e - k)))

  neighbours-step : (i e : ℕ) → i + 1 < e → test_left e i ≡ less (f i) (f (i + 1)) && test_left e (i + 1)
  neighbours-step i e l =
      ap (λ (is : List ℕ). test (map f is)) (two-step i e l) ∙
      (more (f i) (f (i + 1)) (map f (up_from (i + 1 + 1) (e - (i + 1 + 1)))) ∙
      ap (λ (is : List ℕ). less (f i) (f (i + 1)) && test (map f is)) (sym (range-step (i + 1) e l)))

  neighbours-end : (i e : ℕ) → e ≤ i + 1 → test_left e i ≡ true
  neighbours-end i e l = elim (dec_le e i) [
    | yes m ↦ ap (λ (is : List ℕ). test (map f is)) (range-done i e m) ∙ none
    | no m ↦ ap (λ (is : List ℕ). test (map f is)) (one-step i e (omega arith)) ∙ one (f i)
  ]

  by-next : (first e : ℕ) → AllLeft (λ k. less (f k) (f (k + 1))) (e - 1) (test_left e first) first
  by-next first e = all-steps (test_left e) (λ k. less (f k) (f (k + 1))) (e - 1)
      (λ k l. neighbours-step k e (omega arith)) (λ k l. neighbours-end k e (omega arith)) first

  pub neighbours-start : (first e : ℕ) → AllLeft (λ k. less (f (k - 1)) (f k)) e
      (test (map f (up_from first (e - first)))) (first + 1)
  neighbours-start first e =
      let n : e - 1 - first ≡ e - (first + 1) = omega arith in
      let back : (k : ℕ) → k ≡ k + 1 - 1 = λ k. omega arith in
      let next : (λ (k : ℕ). less (f k) (f (k + 1))) ≡ (λ (k : ℕ). less (f (k + 1 - 1)) (f (k + 1))) =
      λ j k. less (f (back k j)) (f (k + 1)) in
      record {
        left = (by-next first e).left ∙
            (ap (λ (p : ℕ → Bool). all p (up_from first (e - 1 - first))) next ∙
            (ap (λ (m : ℕ). all (λ k. less (f (k + 1 - 1)) (f (k + 1))) (up_from first m)) n ∙
            sym (all-shifted (λ k. less (f (k - 1)) (f k)) first (e - (first + 1)))));
      }

-- ---- one atom further
module _ (w : List ℕ) (i e : ℕ) where
  abbrev pub roles_left : ℕ → Bool
  roles_left k = roles_ascend (atoms_in w k (e - k))

  abbrev distinct_left : ℕ → Bool
  distinct_left k = distinct (atoms_in w k (e - k))

  pub roles-step : i + 1 < e → roles_left i ≡ leb (atom_in w i).role (atom_in w (i + 1)).role && roles_left (i + 1)
  unfolding roles_ascend
  roles-step l =
      ap (λ (is : List ℕ). roles_ascend (map (atom_in w) is)) (two-step i e l) ∙
      ap (λ (is : List ℕ). leb (atom_in w i).role (atom_in w (i + 1)).role && roles_ascend (map (atom_in w) is))
      (sym (range-step (i + 1) e l))

  pub roles-last : i + 1 ≡ e → roles_left i ≡ leb (atom_in w i).role 2
  unfolding roles_ascend
  roles-last l = ap (λ (is : List ℕ). roles_ascend (map (atom_in w) is)) (one-step i e l)

  pub distinct-step : i < e → distinct_left i ≡ not (stands_again w i e) && distinct_left (i + 1)
  unfolding distinct stands_again
  distinct-step l =
      ap (λ (is : List ℕ). distinct (map (atom_in w) is)) (range-step i e l) ∙
      ap (λ (b : Bool). not b && distinct_left (i + 1))
      (any-map (λ b. same_atom (atom_in w i) b) (atom_in w) (up_from (i + 1) (e - (i + 1))))

  pub distinct_none : e ≤ i → distinct_left i ≡ true
  unfolding distinct
  distinct_none l = ap (λ (is : List ℕ). distinct (map (atom_in w) is)) (range-done i e l)

-- ---- as tests of each atom
module _ (w : List ℕ) (first e : ℕ) where
  pub ascend-start : AllLeft (λ k. fact_less (fact_in w (k - 1)) (fact_in w k)) e
      (ascending (facts_in w first (e - first))) (first + 1)
  unfolding ascending
  ascend-start = neighbours-start fact_less ascending refl (λ f. refl) (λ f g fs. refl) (fact_in w) first e

  pub distinct-start : AllLeft (λ k. not (stands_again w k e)) e (distinct_left w first e first) first
  distinct-start = all-steps (distinct_left w first e) (λ k. not (stands_again w k e)) e
      (λ k l. distinct-step w k e l) (λ k l. distinct_none w k e l) first

-- ---- roles ascend where each is no lower than the one before, and the last is known
abbrev pub role_rises : List ℕ → ℕ → Bool
role_rises w k = leb (atom_in w (k - 1)).role (atom_in w k).role

module _ (w : List ℕ) (e : ℕ) where
  abbrev last_known : Bool
  last_known = leb (atom_in w (e - 1)).role deletion

  roles-tests : (n i : ℕ) → i + n + 1 ≡ e → roles_left w i e i ≡ all (role_rises w) (up_from (i + 1) n) && last_known
  unfolding all up_from
  roles-tests zero i q =
      let z : i ≡ e - 1 = omega arith in
      roles-last w i e (omega arith) ∙ ap (λ (k : ℕ). leb (atom_in w k).role deletion) z
  roles-tests (suc n) i q =
      let z : i ≡ i + 1 - 1 = omega arith in
      let s : i + 1 + 1 ≡ suc (i + 1) = omega arith in
      roles-step w i e (omega arith) ∙
      (ap (λ (b : Bool). leb (atom_in w i).role (atom_in w (i + 1)).role && b) (roles-tests n (i + 1) (omega arith)) ∙
      (sym (and_assoc (leb (atom_in w i).role (atom_in w (i + 1)).role) _ last_known) ∙
      ap₂ (λ (k s : ℕ). (leb (atom_in w k).role (atom_in w (i + 1)).role && all (role_rises w) (up_from s n)) && last_known) z s))

  pub roles-start : (first : ℕ) → first < e →
      roles_left w first e first ≡ all (role_rises w) (up_from (first + 1) (e - (first + 1))) && last_known
  roles-start first l = roles-tests (e - (first + 1)) first (omega arith)

-- ---- roles that ascend rise from any atom to any later one
module _ (w : List ℕ) (first e : ℕ) (h : roles_left w first e first ≡ true) where
  ascend-from : (k : ℕ) → first + k < e → roles_left w first e (first + k) ≡ true
  ascend-from zero l = let z : first + 0 ≡ first = omega arith in ap (roles_left w first e) z ∙ h
  ascend-from (suc k) l =
      let i = first + k in
      let z : first + suc k ≡ i + 1 = omega arith in
      ap (roles_left w first e) z ∙
      and_right (leb (atom_in w i).role (atom_in w (i + 1)).role) _
      (sym (roles-step w i e (omega arith)) ∙ ascend-from k (omega arith))

  next-role : (i : ℕ) → first ≤ i → i + 1 < e → (atom_in w i).role ≤ (atom_in w (i + 1)).role
  next-role i l m =
      let z : first + (i - first) ≡ i = omega arith in
      leb-true _ _ (and_left (leb (atom_in w i).role (atom_in w (i + 1)).role) (roles_left w first e (i + 1))
      (sym (roles-step w i e m) ∙ (ap (roles_left w first e) (sym z) ∙ ascend-from (i - first) (omega arith))))

  later-role : (i k : ℕ) → first ≤ i → i + k < e → (atom_in w i).role ≤ (atom_in w (i + k)).role
  later-role i zero l m = let z : i + 0 ≡ i = omega arith in rw z (omega arith)
  later-role i (suc k) l m =
      let z : i + suc k ≡ i + k + 1 = omega arith in
      let a = later-role i k l (omega arith) in
      let b = next-role (i + k) (omega arith) (omega arith) in
      rw z (omega arith)

  pub roles-rise : RolesRise w first e
  roles-rise i j l m n =
      let z : i + (j - i) ≡ j = omega arith in
      subst (λ (k : ℕ). (atom_in w i).role ≤ (atom_in w k).role) z (later-role i (j - i) l (omega arith))

  -- the last has no role behind deletes, so that none has
  pub roles-known : (i : ℕ) → first ≤ i → i < e → (atom_in w i).role ≤ deletion
  roles-known i l m =
      let last = first + (e - 1 - first) in
      let z : last ≡ e - 1 = omega arith in
      let low = leb-true (atom_in w last).role deletion
      (sym (roles-last w last e (omega arith)) ∙ ascend-from (e - 1 - first) (omega arith)) in
      let up = roles-rise i last l (omega arith) (omega arith) in
      omega arith

-- ---- the highest part
module _ (w : List ℕ) where
  abbrev pub part_bound : ℕ → ℕ
  part_bound i = (atom_in w i).part + 1

  highest : (x : ℕ) (is : List ℕ) → fold max x (map part_bound is) ≡ max x (part_count (map (atom_in w) is))
  unfolding part_count
  highest x [] = omega arith
  highest x (i ∷ is) = let h = highest (max x (part_bound i)) is in omega arith

  pub part-count : (is : List ℕ) → unwrap_or (reduce max (map part_bound is)) 0 ≡ part_count (map (atom_in w) is)
  unfolding part_count
  part-count [] = refl
  part-count (i ∷ is) = let h = highest (part_bound i) is in omega arith
