-- A part's schema is a schema of the split: it meets every test, the limit of 64 atoms aside, and has just the
-- parameters that its atoms name. Its three roles are put together: roles differ between them, all atoms are in
-- part 0, and the part's own parameters each stand in one of its old atoms.
use Prim.Native.Nat.{ℕ, zero, suc, ◌≤◌, ◌<◌}
use mathlib.Core.Path.{◌≡◌, refl, sym}
use mathlib.Core.Bool.{true, false}
use mathlib.Core.List.{List, [], ◌++◌, append-nil}
use mathlib.Core.Logic.{inl, inr}
use native.Mathlib.Omega.{arith}
use lib.ListN.{length, get_or}
use lib.Dec.{eqb, leb}
use borrow.Author.Tests.{leb-true, le-leb, eq-eqb}
use Rattle.words.specs.Lists.{any, up_to, index_of}
use Rattle.task.specs.Limits.{most_parameters, most_atoms, most_parts}
use Rattle.task.specs.Task.{Atom, Schema, Task, args_fit, roles_ascend, names, part_count, schema_fits, precondition}
use Rattle.task.specs.Task.{addition, deletion}
use Rattle.task.specs.Run.{schema_at}
use Rattle.tokens.specs.Split.{has, params_of, token, own, required, handed_on, lone, first_here, last_here}
use Rattle.tokens.specs.Split.{later_here, split_schema, split_task}
use Rattle.words.proofs.Lists.{In, in-empty, in-append, in_all, in-any, in-eq, in-get_or, in_map, up_to-in, length-up_to}
use Rattle.words.proofs.Lists.{some-length}
use Rattle.task.proofs.Tests.{tests-schema, has_part}
use Rattle.task.proofs.States.{Fitting, fitting-args_fit, in-names}
use Rattle.words.proofs.Ascending.{filter-le}
use Rattle.tokens.proofs.Places.{index-get_or, has-atom, in_params}
use Rattle.tokens.proofs.AtomLists.{Apart, apart_distinct, apart-append, roles-append, role-small, one-part}
use Rattle.tokens.proofs.RoleAtoms.{renumber, an-old, the-token, to-role, part-is, pre_atoms, add_atoms, del_atoms}
use Rattle.tokens.proofs.RoleAtoms.{of-pre, of-add, of-del, of-schema, in-schema, pre-role, add-role, del-role}
use Rattle.tokens.proofs.PartPairs.{part-pairs-fit, part-pairs-ascend}
use Rattle.tokens.proofs.PartRoles.{PartOf, tests, facts, pre-tokens, add-tokens, del-tokens, role-fits}
use Rattle.tokens.proofs.PartRoles.{role-apart}

-- a schema has just the parameters that its atoms name
pub record JustNamed (u : Schema) : Type 0 where
  pub named : (x : ℕ) → x < u.params → (a : Atom) × In a u.atoms × In x a.args
  pub small : (a : Atom) → In a u.atoms → (x : ℕ) → In x a.args → x < u.params

module _ (t : Task) (s : ℕ) (o : List ℕ) (j : ℕ) (P : PartOf t s o j) where
  abbrev new : Schema
  new = split_schema t s o j

  schema-fits : (a : Atom) → In a new.atoms → Fitting new.params (split_task t).arities a.pred a.args
  unfolding split_schema
  schema-fits a i = elim (of-schema t s o j a i) [
    | of-pre h ↦
        role-fits t s o j P precondition false (required t s o j) (later_here t s o j) (pre-tokens t s o j P) a h
    | of-add h ↦
        role-fits t s o j P addition (lone t s o j) (handed_on t s o j) (first_here t s o j) (add-tokens t s o j P) a h
    | of-del h ↦
        role-fits t s o j P deletion (lone t s o j) (required t s o j) (last_here t s o j) (del-tokens t s o j P) a h
  ]

  -- ---- no atom twice in one role, roles ascending
  behind : (b : Atom) → In b (add_atoms t s o j ++ del_atoms t s o j) → 1 ≤ b.role
  behind b i = elim (in-append (add_atoms t s o j) i) [
    | inl h ↦ omega (arith, add-role t s o j b h)
    | inr h ↦ omega (arith, del-role t s o j b h)
  ]

  schema-apart : Apart new.atoms
  unfolding split_schema
  schema-apart =
      apart-append
      (role-apart t s o j P precondition false (required t s o j) (later_here t s o j) (pre-tokens t s o j P))
      (apart-append
      (role-apart t s o j P addition (lone t s o j) (handed_on t s o j) (first_here t s o j) (add-tokens t s o j P))
      (role-apart t s o j P deletion (lone t s o j) (required t s o j) (last_here t s o j) (del-tokens t s o j P))
      (λ a b i k e. omega (arith, add-role t s o j a i, del-role t s o j b k, e.role)))
      (λ a b i k e. omega (arith, pre-role t s o j a i, behind b k, e.role))

  pub schema-roles : roles_ascend new.atoms ≡ true
  unfolding split_schema roles_ascend
  schema-roles =
      roles-append 0 (omega arith) (pre_atoms t s o j) (add_atoms t s o j ++ del_atoms t s o j) (pre-role t s o j)
      (λ b i. omega arith)
      (roles-append 1 (omega arith) (add_atoms t s o j) (del_atoms t s o j) (add-role t s o j)
      (λ b i. omega (arith, del-role t s o j b i))
      (rw (← append-nil (del_atoms t s o j))
      (roles-append 2 (omega arith) (del_atoms t s o j) [] (del-role t s o j) (λ b i. absurd (in-empty i)) refl)))

  -- ---- parameters
  old-stays : (a : Atom) → In a (schema_at t s).atoms → a.part ≡ get_or o j 0 → (r : ℕ) → a.role ≡ r → r ≤ 2 →
      In (renumber t s o j r a) new.atoms
  old-stays a i p zero q h =
      in-schema t s o j _
      (of-pre (to-role t s o j 0 false (required t s o j) (later_here t s o j) _ (an-old a i q p refl)))
  old-stays a i p (suc zero) q h =
      in-schema t s o j _
      (of-add (to-role t s o j 1 (lone t s o j) (handed_on t s o j) (first_here t s o j) _ (an-old a i q p refl)))
  old-stays a i p (suc (suc zero)) q h =
      in-schema t s o j _
      (of-del (to-role t s o j 2 (lone t s o j) (required t s o j) (last_here t s o j) _ (an-old a i q p refl)))
  old-stays a i p (suc (suc (suc r))) q h = absurd (omega arith)

  own-named : (y : ℕ) → In y (own t s o j) → (a : Atom) × In a new.atoms × In (index_of y (own t s o j)) a.args
  unfolding own
  own-named y i =
      let (l, h) = in_params (schema_at t s) y (get_or o j 0) i in
      let (a, k, p, n) = has-atom (schema_at t s) y (get_or o j 0) h in
      let m = role-small (schema_at t s).atoms (tests t s o j P).roles a k in
      (renumber t s o j a.role a, old-stays a k p a.role refl m, in_map (λ x. index_of x (own t s o j)) n)

  pub part-params : JustNamed new
  unfolding split_schema own params_of up_to
  part-params = record {
    named = λ x l.
        let (a, i, n) = own-named (get_or (own t s o j) x 0) (in-get_or (own t s o j) x 0 l) in
        (a, i, in-eq (sym (index-get_or (λ x. has (schema_at t s) x (get_or o j 0)) 0 (schema_at t s).params x l)) n);
    small = λ a i. (schema-fits a i).small;
  }

  few-params : new.params ≤ most_parameters
  unfolding split_schema own params_of
  few-params =
      omega (
        arith,
        filter-le (λ x. has (schema_at t s) x (get_or o j 0)) (up_to (schema_at t s).params),
        length-up_to (schema_at t s).params,
        leb-true (schema_at t s).params most_parameters (tests t s o j P).params,
      )

  -- ---- one part
  pub schema-part : (a : Atom) → In a new.atoms → a.part ≡ 0
  schema-part a i = elim (of-schema t s o j a i) [
    | of-pre h ↦ part-is t s o j precondition false (required t s o j) (later_here t s o j) a h
    | of-add h ↦ part-is t s o j addition (lone t s o j) (handed_on t s o j) (first_here t s o j) a h
    | of-del h ↦ part-is t s o j deletion (lone t s o j) (required t s o j) (last_here t s o j) a h
  ]

  pub requires-token : In (token precondition (required t s o j) []) new.atoms
  requires-token =
      in-schema t s o j _
      (of-pre (to-role t s o j 0 false (required t s o j) (later_here t s o j) _ (the-token refl refl)))

  schema-parts : part_count new.atoms ≡ 1
  schema-parts = one-part new.atoms (some-length requires-token) schema-part

  -- the limit of 64 atoms aside, a part's schema fits
  pub part-fits : leb (length new.atoms) most_atoms ≡ true → schema_fits (split_task t).arities new ≡ true
  unfolding token
  part-fits few = tests-schema (split_task t).arities new (record {
    params = le-leb new.params most_parameters few-params;
    some-atom = le-leb 1 (length new.atoms) (some-length requires-token);
    few = few;
    roles = schema-roles;
    fit = in_all (λ a. args_fit (split_task t).arities new.params a.pred a.args) new.atoms
        (λ a i. fitting-args_fit new.params (split_task t).arities a.pred a.args (schema-fits a i));
    apart = apart_distinct schema-apart;
    used = in_all (λ x. any (names x) new.atoms) (up_to new.params) (λ x i.
        let (a, k, n) = part-params.named x (up_to-in new.params x i) in
        in-any (names x) k (in-names x a n));
    parts = le-leb (part_count new.atoms) most_parts (omega (arith, schema-parts));
    filled = in_all (has_part new.atoms) (up_to (part_count new.atoms)) (λ x i.
        let l = up_to-in (part_count new.atoms) x i in
        in-any (λ a. eqb x a.part) requires-token (eq-eqb x 0 (omega (arith, schema-parts))));
    pairs = part-pairs-fit t s o j t.arities (facts t s o j P);
    pairs-order = part-pairs-ascend t s o j t.arities (facts t s o j P) (tests t s o j P).pairs-order;
  })
