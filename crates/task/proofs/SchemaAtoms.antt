-- The atoms of a schema in the table, by their places: they stand together, their roles ascend, and none is beyond a
-- delete.
use Prim.Native.Nat.{ℕ, zero, suc, ◌+◌, ◌-◌, ◌≤◌, ◌<◌}
use mathlib.Core.Path.{◌≡◌, sym, ◌∙◌, ap}
use mathlib.Core.Bool.{true}
use mathlib.Core.List.{List, [], ◌∷◌, map}
use native.Mathlib.Omega.{arith}
use lib.ListN.{length, get_or}
use lib.Dec.{leb}
use borrow.Author.Tests.{leb-true}
use Rattle.words.specs.Lists.{up_from}
use Rattle.task.specs.Layout.{head_in}
use Rattle.task.specs.Task.{Atom, Task, schema_fits, roles_ascend, no_schema}
use Rattle.task.specs.Table.{atom_in, schema_number_in, task_of, is_table}
use Rattle.task.specs.Run.{schema_at}
use Rattle.words.proofs.Lists.{and_left, and_right, all_in, in-get_or, tabulate}
use Rattle.task.proofs.Tests.{SchemaTests, schema-tests, task-tests}
use Rattle.task.proofs.AtomsStand.{no_atom}
use Rattle.task.proofs.Tables.{start_of, of-table}
use Rattle.task.proofs.TablesByIndex.{table-frame, schemas-word, start-suc, start-end, atom-at, schema-of-atom}
use Rattle.task.proofs.StartLaws.{start-rises}

-- ---- roles that ascend, by place
pub roles-places : (atoms : List Atom) → roles_ascend atoms ≡ true → (i j : ℕ) → i ≤ j → j < length atoms →
    (get_or atoms i no_atom).role ≤ (get_or atoms j no_atom).role
unfolding roles_ascend
roles-places [] h i j l m = absurd (omega arith)
roles-places (a ∷ []) h i j l m =
    let p : i ≡ 0 = omega arith in
    let q : j ≡ 0 = omega arith in
    let e : (get_or (a ∷ []) i no_atom).role ≡ (get_or (a ∷ []) j no_atom).role =
    ap (λ (k : ℕ). (get_or (a ∷ []) k no_atom).role) (p ∙ sym q) in
    omega arith
roles-places (a ∷ b ∷ atoms) h zero zero l m = omega arith
roles-places (a ∷ b ∷ atoms) h zero (suc j) l m =
    let p = leb-true a.role b.role (and_left (leb a.role b.role) (roles_ascend (b ∷ atoms)) h) in
    let q = roles-places (b ∷ atoms) (and_right (leb a.role b.role) (roles_ascend (b ∷ atoms)) h) zero j
    (omega arith) (omega arith) in
    omega arith
roles-places (a ∷ b ∷ atoms) h (suc i) zero l m = absurd (omega arith)
roles-places (a ∷ b ∷ atoms) h (suc i) (suc j) l m =
    roles-places (b ∷ atoms) (and_right (leb a.role b.role) (roles_ascend (b ∷ atoms)) h) i j (omega arith)
    (omega arith)

pub last-role : (atoms : List Atom) → roles_ascend atoms ≡ true → (j : ℕ) → j < length atoms →
    (get_or atoms j no_atom).role ≤ 2
unfolding roles_ascend
last-role [] h j l = absurd (omega arith)
last-role (a ∷ []) h zero l = leb-true a.role 2 h
last-role (a ∷ []) h (suc j) l = absurd (omega arith)
last-role (a ∷ b ∷ atoms) h zero l =
    let p = leb-true a.role b.role (and_left (leb a.role b.role) (roles_ascend (b ∷ atoms)) h) in
    let q = last-role (b ∷ atoms) (and_right (leb a.role b.role) (roles_ascend (b ∷ atoms)) h) zero (omega arith)
    in
    omega arith
last-role (a ∷ b ∷ atoms) h (suc j) l =
    last-role (b ∷ atoms) (and_right (leb a.role b.role) (roles_ascend (b ∷ atoms)) h) j (omega arith)

-- ---- the atoms of a schema in the table
module _ (w : List ℕ) (h : is_table w ≡ true) (s : ℕ) (l : s < (head_in w).schemas) where
  abbrev t : Task
  t = task_of w

  abbrev atoms : List Atom
  atoms = (schema_at t s).atoms

  pub schema-inside : start_of t (suc s) ≤ (head_in w).schema_atoms
  schema-inside =
      let e = start-end w (table-frame w h) in
      let r = start-rises w h (suc s) (head_in w).schemas (omega arith) in
      omega arith

  place : (k : ℕ) → start_of t s ≤ k → k < start_of t (suc s) →
      (k - start_of t s < length atoms) × (atom_in w k ≡ get_or atoms (k - start_of t s) no_atom)
  place k a b =
      let fr = table-frame w h in
      let e = start-suc w fr s l in
      let z : start_of t s + (k - start_of t s) ≡ k = omega arith in
      let m : k - start_of t s < length atoms = omega arith in
      (m, ap (atom_in w) (sym z) ∙ atom-at w fr s (k - start_of t s) l m)

  pub own-number : (k : ℕ) → start_of t s ≤ k → k < start_of t (suc s) → schema_number_in w k ≡ s
  own-number k a b =
      let fr = table-frame w h in
      let z : start_of t s + (k - start_of t s) ≡ k = omega arith in
      ap (schema_number_in w) (sym z) ∙ schema-of-atom w fr s (k - start_of t s) l (place k a b).0

  tests : SchemaTests t.arities (get_or t.schemas s no_schema)
  tests =
      let c = task-tests t (of-table w h).0 in
      let n = schemas-word w (table-frame w h) in
      schema-tests t.arities (get_or t.schemas s no_schema)
      (all_in (schema_fits t.arities) c.fit (in-get_or t.schemas s no_schema (omega arith)))

  roles-ascend : roles_ascend atoms ≡ true
  unfolding schema_at
  roles-ascend = tests.roles

  pub role-rises : (j k : ℕ) → start_of t s ≤ j → j ≤ k → k < start_of t (suc s) → (atom_in w j).role ≤ (atom_in w k).role
  role-rises j k a b d =
      let p = ap (λ (x : Atom). x.role) (place j a (omega arith)).1 in
      let q = ap (λ (x : Atom). x.role) (place k (omega arith) d).1 in
      let r = roles-places atoms roles-ascend (j - start_of t s) (k - start_of t s) (omega arith)
      (place k (omega arith) d).0 in
      omega arith

  pub role-most : (k : ℕ) → start_of t s ≤ k → k < start_of t (suc s) → (atom_in w k).role ≤ 2
  role-most k a b =
      let p = ap (λ (x : Atom). x.role) (place k a b).1 in
      let r = last-role atoms roles-ascend (k - start_of t s) (place k a b).0 in
      omega arith

  pub atoms-listed : map (λ k. atom_in w (start_of t s + k)) (up_from 0 (length atoms)) ≡ atoms
  atoms-listed = tabulate (λ k. atom_in w (start_of t s + k)) 0 atoms no_atom (λ k x.
      let e : start_of t s + (0 + k) ≡ start_of t s + k = omega arith in
      ap (atom_in w) e ∙ atom-at w (table-frame w h) s k l x)

  -- "A schema has 1 to 64 atoms"
  pub few-atoms : length atoms ≤ 64
  unfolding schema_at
  few-atoms = leb-true (length atoms) 64 tests.few
