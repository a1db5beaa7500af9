-- Where the pars of a parameter stand in the split: "a parameter in several parts has its par added in the first of
-- them, required in each later one, deleted in the last". Each law says it of the split's own atoms, by the positions
-- of the parameter.
use Prim.Native.Nat.{ℕ, ◌≤◌, ◌<◌}
use mathlib.Core.Path.{◌≡◌, refl}
use mathlib.Core.Bool.{Bool, true, false}
use mathlib.Core.List.{List}
use native.Mathlib.Omega.{arith}
use lib.ListN.{length, get_or}
use borrow.Author.Tests.{lt-ltb, eq-eqb, ne_eqb}
use Rattle.task.specs.Task.{Task, precondition, addition, deletion}
use Rattle.task.specs.Run.{schema_at}
use Rattle.tokens.specs.Split.{first_position, last_position, own, required, handed_on, lone, first_here, last_here}
use Rattle.tokens.specs.Split.{later_here, split_schema}
use Rattle.words.proofs.Lists.{and_both, In}
use Rattle.tokens.proofs.Places.{At, at-first, at_last, first-at, last-at, params-in}
use Rattle.tokens.proofs.RoleAtoms.{par_atom, role_atoms, of-parameter, to-role, of-pre, of-add, of-del, in-schema}

-- the parameter x stands in the part at position j
module _ (t : Task) (s : ℕ) (o : List ℕ) (j x : ℕ) (small : x < (schema_at t s).params)
    (here : At (schema_at t s) o x j) where
  abbrev position : ℕ → Type 0
  position i = At (schema_at t s) o x i

  abbrev first : ℕ
  first = first_position (schema_at t s) o x

  abbrev last : ℕ
  last = last_position (schema_at t s) o x

  owned : In x (own t s o j)
  unfolding own
  owned = params-in (schema_at t s) x (get_or o j 0) small here.found

  not-lone : 2 ≤ length o → lone t s o j ≡ false
  unfolding lone
  not-lone h = ne_eqb (length o) 1 (λ e. omega arith)

  -- nowhere before, nowhere behind
  first-is : ((i : ℕ) → position i → j ≤ i) → first ≡ j
  first-is none_before =
      let least = none_before first (first-at (schema_at t s) o x j here) in
      omega (arith, at-first (schema_at t s) o x j here)

  last-is : ((k : ℕ) → position k → k ≤ j) → last ≡ j
  last-is none_after =
      let most = none_after last (last-at (schema_at t s) o x j here) in
      omega (arith, at_last (schema_at t s) o x j here)

  -- where a role's atoms have tokens, the parameter's par is one of them if the role's test picks it
  par-in : (r : ℕ) (without : Bool) (k : ℕ) (test : ℕ → Bool) → without ≡ false → test x ≡ true →
      In (par_atom t s o j r x) (role_atoms t s o j r without k test)
  par-in r without k test tokens picked =
      to-role t s o j r without k test (par_atom t s o j r x) (of-parameter tokens x owned picked refl)

  -- "required in each later one"
  pub par-required : (i : ℕ) → position i → i < j → In (par_atom t s o j precondition x) (split_schema t s o j).atoms
  unfolding later_here
  par-required i a l =
      in-schema t s o j _ (of-pre
      (par-in precondition false (required t s o j) (later_here t s o j) refl
      (lt-ltb first j (omega (arith, at-first (schema_at t s) o x i a)))))

  -- "added in the first of them"
  pub par-added : ((i : ℕ) → position i → j ≤ i) → (k : ℕ) → position k → j < k →
      In (par_atom t s o j addition x) (split_schema t s o j).atoms
  unfolding first_here
  par-added none_before k a l =
      let end = a.inside in
      in-schema t s o j _ (of-add
      (par-in addition (lone t s o j) (handed_on t s o j) (first_here t s o j) (not-lone (omega arith))
      (and_both _ _ (eq-eqb first j (first-is none_before))
      (lt-ltb j last (omega (arith, at_last (schema_at t s) o x k a))))))

  -- "deleted in the last"
  pub par-deleted : (i : ℕ) → position i → i < j → ((k : ℕ) → position k → k ≤ j) →
      In (par_atom t s o j deletion x) (split_schema t s o j).atoms
  unfolding last_here
  par-deleted i a l none_after =
      let end = here.inside in
      in-schema t s o j _ (of-del
      (par-in deletion (lone t s o j) (required t s o j) (last_here t s o j) (not-lone (omega arith))
      (and_both _ _ (eq-eqb last j (last-is none_after))
      (lt-ltb first j (omega (arith, at-first (schema_at t s) o x i a))))))
