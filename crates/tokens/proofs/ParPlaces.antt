-- Where a par is added, required and deleted, by the parts that have its parameter before and after a position: a
-- parameter of the part stood before where its first position is lower, and stands again where its last is higher.
use Prim.Native.Nat.{ℕ, zero, suc, ◌+◌, ◌-◌, ◌≤◌, ◌<◌}
use mathlib.Core.Path.{◌≡◌, refl, sym, ◌∙◌, ap, ap₂}
use mathlib.Core.Bool.{Bool, true, false, not, ◌&&◌, ◌||◌}
use mathlib.Core.List.{List}
use native.Mathlib.Omega.{arith}
use native.Mathlib.Decide.{dec_lt}
use lib.ListN.{length, get_or}
use lib.Dec.{eqb, ltb}
use borrow.Author.Tests.{eq-eqb, ne_eqb, ltb-true, lt-ltb, le-ltb}
use Rattle.words.specs.Lists.{any, filter, up_to, up_from}
use Rattle.task.specs.Task.{Schema, Task, schema_fits}
use Rattle.task.specs.Run.{schema_at}
use Rattle.words.proofs.Lists.{bool-ext, and_left, any-in, in-any, in-up_from, up_from-in, filter_same}
use Rattle.task.proofs.States.{schema_fits-fits}
use Rattle.words.specs.Sets.{member, members}
use Rattle.tokens.specs.Split.{has, params_of, first_position, last_position, own, first_here, last_here, later_here}
use Rattle.tokens.specs.Acceptance.{ParsHere}
use Rattle.tokens.specs.declared.pars.Pars.{Pars}
use Rattle.tokens.proofs.Places.{At, at-first, at_last, first-at, last-at, has-small}
use Rattle.words.proofs.Sums.{eqb-turn, filter-filter}
use Rattle.words.proofs.SetMembers.{filter-below}
use Rattle.tokens.specs.Kept.{kept_own, ParamsKept}

-- ---- a parameter that the part at position j has
module _ (s : Schema) (o : List ℕ) (x j : ℕ) where
  abbrev test : ℕ → Bool
  test i = has s x (get_or o i 0)

  stood-before : At s o x j → any test (up_from 0 (j - 0)) ≡ ltb (first_position s o x) j
  stood-before at = bool-ext (any test (up_from 0 (j - 0))) (ltb (first_position s o x) j)
      (λ h.
      let (i, k, e) = any-in test (up_from 0 (j - 0)) h in
      let l = (up_from-in 0 (j - 0) i k).1 in
      let f = at-first s o x i (record { inside = let n = at.inside in omega arith; found = e }) in
      lt-ltb (first_position s o x) j (omega arith))
      (λ h.
      let l = ltb-true (first_position s o x) j h in
      in-any test (in-up_from 0 (j - 0) (first_position s o x) (omega arith) (omega arith)) (first-at s o x j at).found)

  stands_after : At s o x j → any test (up_from (j + 1) (length o - (j + 1))) ≡ ltb j (last_position s o x)
  stands_after at = bool-ext (any test (up_from (j + 1) (length o - (j + 1)))) (ltb j (last_position s o x))
      (λ h.
      let (i, k, e) = any-in test (up_from (j + 1) (length o - (j + 1))) h in
      let (a, b) = up_from-in (j + 1) (length o - (j + 1)) i k in
      let n = at.inside in
      let f = at_last s o x i (record { inside = omega arith; found = e }) in
      lt-ltb j (last_position s o x) (omega arith))
      (λ h.
      let l = ltb-true j (last_position s o x) h in
      let z = last-at s o x j at in
      let n = z.inside in
      in-any test (in-up_from (j + 1) (length o - (j + 1)) (last_position s o x) (omega arith) (omega arith)) z.found)

-- the tests of the definitions, by what stands before and after
turned : (m n : ℕ) → m ≤ n → not (ltb m n) ≡ eqb m n
turned m n l = elim (dec_lt m n) [
  | yes k ↦ rw (lt-ltb m n k, ne_eqb m n (λ e. omega arith)) refl
  | no k ↦ rw (le-ltb m n (omega arith), eq-eqb m n (omega arith)) refl
]

and-swap : (a b : Bool) → a && b ≡ b && a
and-swap true true = refl
and-swap true false = refl
and-swap false true = refl
and-swap false false = refl

module _ (t : Task) (s : ℕ) (o : List ℕ) (j : ℕ) (l : j < length o) where
  abbrev here : ℕ → Bool
  here x = has (schema_at t s) x (get_or o j 0)

  -- where the part has the parameter, and where not
  by_part : (x : ℕ) (a b : Bool → Bool) → (At (schema_at t s) o x j → a true ≡ b true) → a false ≡ b false →
      a (here x) ≡ b (here x)
  by_part x a b h k = go (here x) refl
    where
      go : (c : Bool) → here x ≡ c → a c ≡ b c
      go true e = h (record { inside = l; found = e })
      go false e = k

  module _ (x : ℕ) (before after : Bool)
      (is-before : At (schema_at t s) o x j → before ≡ ltb (first_position (schema_at t s) o x) j)
      (is-after : At (schema_at t s) o x j → after ≡ ltb j (last_position (schema_at t s) o x)) where
    later-is : here x && before ≡ here x && later_here t s o j x
    unfolding later_here
    later-is = by_part x (λ c. c && before) (λ c. c && later_here t s o j x) is-before refl

    first-is : (here x && not before) && after ≡ here x && first_here t s o j x
    unfolding first_here
    first-is = by_part x (λ c. (c && not before) && after) (λ c. c && first_here t s o j x)
        (λ at. ap₂ ◌&&◌ (ap not (is-before at) ∙
        turned (first_position (schema_at t s) o x) j (at-first (schema_at t s) o x j at)) (is-after at))
        refl

    last-is : (here x && before) && not after ≡ here x && last_here t s o j x
    unfolding last_here
    last-is = by_part x (λ c. (c && before) && not after) (λ c. c && last_here t s o j x)
        (λ at.
        ap₂ ◌&&◌ (is-before at)
        (ap not (is-after at) ∙ turned j (last_position (schema_at t s) o x) (at_last (schema_at t s) o x j at) ∙
        eqb-turn j (last_position (schema_at t s) o x)) ∙
        and-swap (ltb (first_position (schema_at t s) o x) j) (eqb (last_position (schema_at t s) o x) j))
        refl

-- ---- the sets that the code makes
module _ (t : Task) (s : ℕ) (o : List ℕ) (j : ℕ) (l : j < length o) (kept : List ℕ)
    (known : ParamsKept t s o kept) where
  -- the set kept at a position
  abbrev at : ℕ → ℕ
  at i = kept_own kept s i

  same_tests : (x from n : ℕ) → from + n ≤ length o →
      any (λ i. member (at i) x) (up_from from n) ≡ any (λ i. has (schema_at t s) x (get_or o i 0)) (up_from from n)
  unfolding any up_from
  same_tests x from zero h = refl
  same_tests x from (suc n) h = ap₂ ◌||◌ (known.params from x (omega arith)) (same_tests x (suc from) n (omega arith))

  module _ (r : Pars) (before after : ℕ)
      (is-own : (x : ℕ) → member r.own x ≡ member (at j) x)
      (is-before : (x : ℕ) → member before x ≡ any (λ i. member (at i) x) (up_from 0 (j - 0)))
      (is-after : (x : ℕ) → member after x ≡ any (λ i. member (at i) x) (up_from (j + 1) (length o - (j + 1))))
      (is_later : (x : ℕ) → member r.later x ≡ member (at j) x && member before x)
      (is-first : (x : ℕ) → member r.first x ≡ (member (at j) x && not (member before x)) && member after x)
      (is_last : (x : ℕ) → member r.last x ≡ member r.later x && not (member after x)) where
    before-is : (x : ℕ) → At (schema_at t s) o x j → member before x ≡ ltb (first_position (schema_at t s) o x) j
    before-is x a = is-before x ∙ same_tests x 0 (j - 0) (omega arith) ∙ stood-before (schema_at t s) o x j a

    after_is : (x : ℕ) → At (schema_at t s) o x j → member after x ≡ ltb j (last_position (schema_at t s) o x)
    after_is x a =
        is-after x ∙ same_tests x (j + 1) (length o - (j + 1)) (omega arith) ∙ stands_after (schema_at t s) o x j a

    pub pars-here : ParsHere t s o j r
    pars-here = record {
      own = λ x. is-own x ∙ known.params j x l;
      later = λ x.
          is_later x ∙ ap (λ c. c && member before x) (known.params j x l) ∙
          later-is t s o j l x (member before x) (member after x) (before-is x) (after_is x);
      first = λ x.
          is-first x ∙ ap (λ c. (c && not (member before x)) && member after x) (known.params j x l) ∙
          first-is t s o j l x (member before x) (member after x) (before-is x) (after_is x);
      last = λ x.
          is_last x ∙ ap (λ c. c && not (member after x)) (is_later x) ∙
          ap (λ c. (c && member before x) && not (member after x)) (known.params j x l) ∙
          last-is t s o j l x (member before x) (member after x) (before-is x) (after_is x);
    }

-- ---- as lists
-- the numbers of a set of the part's parameters that a test picks are those of its own list
module _ (t : Task) (s : ℕ) (o : List ℕ) (j n : ℕ) (fits : schema_fits t.arities (schema_at t s) ≡ true)
    (wide : (schema_at t s).params ≤ n) where
  abbrev old : Schema
  old = schema_at t s

  pub own-listed : (set : ℕ) → ((x : ℕ) → member set x ≡ has old x (get_or o j 0)) → members set n ≡ own t s o j
  unfolding members own params_of
  own-listed set h =
      filter_same (member set) (λ x. has old x (get_or o j 0)) (up_to n) (λ x i. h x) ∙
      filter-below (λ x. has old x (get_or o j 0)) old.params n wide
      (λ x e. has-small old t.arities (schema_fits-fits t.arities old fits) x (get_or o j 0) e)

  pub picked-listed : (set : ℕ) (test : ℕ → Bool) → ((x : ℕ) → member set x ≡ has old x (get_or o j 0) && test x) →
      members set n ≡ filter test (own t s o j)
  unfolding members own params_of
  picked-listed set test h =
      filter_same (member set) (λ x. has old x (get_or o j 0) && test x) (up_to n) (λ x i. h x) ∙
      filter-below (λ x. has old x (get_or o j 0) && test x) old.params n wide
      (λ x e. has-small old t.arities (schema_fits-fits t.arities old fits) x (get_or o j 0)
      (and_left (has old x (get_or o j 0)) _ e)) ∙
      sym (filter-filter test (λ x. has old x (get_or o j 0)) (up_to old.params))
