-- The words of a table's schema atom: what is known of its role, predicate and arguments, and where these stand.
-- An atom lies in the schema that its first word names, and a schema's atoms fit.
use Prim.Native.Nat.{ℕ, ◌+◌, ◌-◌, ◌≤◌, ◌<◌}
use mathlib.Core.Path.{◌≡◌, sym, ◌∙◌, ap, subst}
use mathlib.Core.Bool.{true}
use mathlib.Core.List.{List}
use native.Mathlib.Omega.{arith}
use lib.ListN.{length, get_or, length-map}
use borrow.Author.Tests.{leb-true}
use Rattle.words.specs.Lists.{up_from}
use Rattle.task.specs.Layout.{head_in, arity_in, atom_base}
use Rattle.task.specs.Task.{Atom, schema_roles, schema_fits, no_schema}
use Rattle.task.specs.Run.{schema_at}
use Rattle.words.specs.Words.{words_at}
use Rattle.task.specs.Table.{atom_in, schema_number_in, task_of, is_table}
use Rattle.words.proofs.Lists.{In, all_in, in-get_or, length-up_from, get_or-map, get_or-up_from}
use Rattle.task.proofs.Tests.{schema-tests, task-tests}
use Rattle.task.proofs.AtomsStand.{no_atom}
use Rattle.task.proofs.Tables.{of-table}
use Rattle.task.proofs.TablesByIndex.{table-frame, schemas-word, arities-word, arity-at, atom-at, atom-lies, start-suc}
use Rattle.task.proofs.SchemaAtoms.{role-most}
use Rattle.task.proofs.States.{Fitting, schema_fits-fits}
use Rattle.arcs.specs.Stretches.{IsSchemaAtom}
use Rattle.task.specs.Turns.{first_atom}
use Rattle.task.specs.Limits.{most_parameters, most_arity}

-- a table's schemas fit
pub schema-fits : (w : List ℕ) → is_table w ≡ true → (s : ℕ) → s < length (task_of w).schemas →
    schema_fits (task_of w).arities (schema_at (task_of w) s) ≡ true
unfolding schema_at
schema-fits w h s l =
    let t = task_of w in
    all_in (schema_fits t.arities) (task-tests t (of-table w h).0).fit (in-get_or t.schemas s no_schema l)

module _ (w : List ℕ) (i : ℕ) (is : IsSchemaAtom w i) where
  -- an atom of a schema of the task
  pub record Placed : Type 0 where
    pub known : schema_number_in w i < length (task_of w).schemas
    pub atom : In (atom_in w i) (schema_at (task_of w) (schema_number_in w i)).atoms

  pub placed : Placed
  placed =
      let t = task_of w in
      let fr = table-frame w is.table in
      let s = schema_number_in w i in
      let lies = atom-lies w fr i is.known in
      let n = schemas-word w fr in
      let g = start-suc w fr s lies.known in
      let l : i - first_atom t s < length (schema_at t s).atoms =
      let x = lies.from_start in let y = lies.before-next in omega arith in
      let e : first_atom t s + (i - first_atom t s) ≡ i = let x = lies.from_start in omega arith in
      record {
        known = let x = lies.known in omega arith;
        atom = subst (λ (a : Atom). In a (schema_at t s).atoms)
            (sym (ap (atom_in w) (sym e) ∙ atom-at w fr s (i - first_atom t s) lies.known l))
            (in-get_or (schema_at t s).atoms (i - first_atom t s) no_atom l);
      }

  fits : schema_fits (task_of w).arities (schema_at (task_of w) (schema_number_in w i)) ≡ true
  fits = schema-fits w is.table (schema_number_in w i) placed.known

  -- ---- what is known of an atom
  fitting : Fitting (schema_at (task_of w) (schema_number_in w i)).params (task_of w).arities (atom_in w i).pred
      (atom_in w i).args
  fitting =
      let t = task_of w in
      (schema_fits-fits t.arities (schema_at t (schema_number_in w i)) fits).fit (atom_in w i) placed.atom

  -- a table's schema atom has one of the three roles: an index by role needs no test
  pub role-known : (atom_in w i).role < schema_roles
  role-known =
      let lies = atom-lies w (table-frame w is.table) i is.known in
      omega (arith, role-most w is.table (schema_number_in w i) lies.known i lies.from_start lies.before-next)

  pub predicate-known : (atom_in w i).pred < (head_in w).predicates
  predicate-known = let f = fitting.known in let e = arities-word w (table-frame w is.table) in omega arith

  pub argument-small : (x : ℕ) → In x (atom_in w i).args → x < most_parameters
  argument-small x k =
      let t = task_of w in
      let s = schema_at t (schema_number_in w i) in
      let b = leb-true s.params most_parameters (schema-tests t.arities s fits).params in
      omega (arith, fitting.small x k)

  pub few-arguments : length (atom_in w i).args ≤ most_arity
  unfolding schema_at
  few-arguments =
      let t = task_of w in
      ((table-frame w is.table).sizes.schema (schema_at t (schema_number_in w i))
      (in-get_or t.schemas (schema_number_in w i) no_schema placed.known) (atom_in w i) placed.atom).short

  -- ---- where its arguments stand
  pub argument-count : length (atom_in w i).args ≡ arity_in w (atom_in w i).pred
  argument-count =
      fitting.count ∙ arity-at w (table-frame w is.table) (atom_in w i).pred predicate-known

  pub argument-at : (k : ℕ) → k < length (atom_in w i).args →
      get_or (atom_in w i).args k 0 ≡ get_or w (atom_base w i + 4 + k) 0
  unfolding atom_in words_at
  argument-at k l =
      let n = arity_in w (get_or w (atom_base w i + 2) 0) in
      let ks = up_from (atom_base w i + 4) n in
      let e : length (atom_in w i).args ≡ length ks = length-map ks (λ (j : ℕ). get_or w j 0) in
      let m = length-up_from (atom_base w i + 4) n in
      get_or-map (λ (j : ℕ). get_or w j 0) ks k 0 0 (omega arith) ∙
      ap (λ (j : ℕ). get_or w j 0) (get_or-up_from (atom_base w i + 4) n k 0 (omega arith))

-- two atoms of one predicate have as many arguments
pub same-count : (w : List ℕ) (i j : ℕ) → IsSchemaAtom w i → IsSchemaAtom w j →
    (atom_in w i).pred ≡ (atom_in w j).pred → length (atom_in w j).args ≡ length (atom_in w i).args
same-count w i j a b e = argument-count w j b ∙ (ap (arity_in w) (sym e) ∙ sym (argument-count w i a))
