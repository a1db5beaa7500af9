-- The atoms of a table, for code that writes them: each lies in the table with its arity, and its role says which line
-- it has.
use Prim.Native.Nat.{ℕ, ◌+◌, ◌≤◌, ◌<◌}
use mathlib.Core.Path.{◌≡◌, sym, ap, subst}
use mathlib.Core.Bool.{true}
use mathlib.Core.List.{List, [], ◌∷◌}
use native.Mathlib.Omega.{arith}
use lib.ListN.{length, get_or}
use lib.Dec.{leb}
use borrow.Author.Tests.{leb-true}
use Rattle.task.specs.Layout.{head_in, goals_from, atom_total, atom_base}
use Rattle.task.specs.Task.{Atom, Task, roles_ascend, schema_fits, no_schema}
use Rattle.task.specs.Run.{schema_at}
use Rattle.task.specs.Table.{atom_in, task_of, is_table}
use Rattle.words.proofs.Lists.{and_left, and_right, In, here, there, all_in, in-get_or}
use Rattle.task.proofs.Tests.{schema-tests, task-tests}
use Rattle.task.proofs.AtomsStand.{no_atom}
use Rattle.task.proofs.Tables.{start_of, of-table, init-stands, goal-stands}
use Rattle.task.proofs.TableReads.{table-roomy}
use Rattle.task.proofs.TablesPass.{table-words}
use Rattle.task.proofs.TablesByIndex.{Frame, table-frame, schemas-word, init-word, goal-word, atom-at}
use Rattle.text.specs.TableLines.{AtomInside}

-- "preconditions first, then adds, then deletes": no role of a schema's atom is above 2
first-role : (a : Atom) (rest : List Atom) → roles_ascend (a ∷ rest) ≡ true → a.role ≤ 2
unfolding roles_ascend
first-role a [] h = leb-true a.role 2 h
first-role a (b ∷ rest) h =
    let l = leb-true a.role b.role (and_left (leb a.role b.role) (roles_ascend (b ∷ rest)) h) in
    let m = first-role b rest (and_right (leb a.role b.role) (roles_ascend (b ∷ rest)) h) in
    omega arith

each-role : {x : Atom} {xs : List Atom} → In x xs → roles_ascend xs ≡ true → x.role ≤ 2
unfolding roles_ascend
each-role (here {y = a} {ys = rest} e) h = subst (λ (x : Atom). x.role ≤ 2) (sym e) (first-role a rest h)
each-role (there {y = a} {ys = []} i) h = elim i [ ]
each-role (there {y = a} {ys = b ∷ rest} i) h =
    each-role i (and_right (leb a.role b.role) (roles_ascend (b ∷ rest)) h)

module _ (w : List ℕ) (table : is_table w ≡ true) where
  abbrev t : Task
  t = task_of w

  pub frame : Frame w
  frame = table-frame w table

  -- ---- an atom and its arity lie in the table
  abbrev total : ℕ
  total = atom_total w

  pub each-inside : (i : ℕ) → i < total → AtomInside w (atom_base w i)
  unfolding atom_base atom_in
  each-inside i h =
      let fit = table-words w table in
      let known = fit.known i h in
      let room = (table-roomy w table).inside in
      record { inside = omega arith; known = omega arith; short = fit.arity (get_or w (atom_base w i + 2) 0) known }

  -- ---- the roles of atoms
  pub schema-role : (s k : ℕ) → s < (head_in w).schemas → k < length (schema_at t s).atoms →
      (atom_in w (start_of t s + k)).role ≤ 2
  unfolding schema_at
  schema-role s k l h =
      let n = schemas-word w frame in
      let tests = task-tests t (of-table w table).0 in
      let is = in-get_or t.schemas s no_schema (omega arith) in
      let c = schema-tests t.arities (schema_at t s) (all_in (schema_fits t.arities) tests.fit is) in
      subst (λ (a : Atom). a.role ≤ 2) (sym (atom-at w frame s k l h))
      (each-role (in-get_or (schema_at t s).atoms k no_atom h) c.roles)

  pub init-role : (i : ℕ) → i < (head_in w).initial_atoms → get_or w (atom_base w ((head_in w).schema_atoms + i) + 1) 0 ≡ 3
  unfolding atom_in
  init-role i h =
      let n = init-word w frame in
      ap (λ (a : Atom). a.role) (init-stands w t frame.sizes frame.tabled i (omega arith)).atom

  pub goal-role : (i : ℕ) → i < (head_in w).goal_atoms → get_or w (atom_base w (goals_from w + i) + 1) 0 ≡ 4
  unfolding atom_in
  goal-role i h =
      let n = goal-word w frame in
      ap (λ (a : Atom). a.role) (goal-stands w t frame.sizes frame.tabled i (omega arith)).atom
