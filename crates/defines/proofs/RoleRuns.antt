-- The atoms of a table, run after run of one schema and role: those of a schema are its preconditions, adds and deletes
-- (`by-roles`), so each role's begin where the one before it ends; behind the schemas stand the initial and the goal
-- atoms. What is put of a run is what its items say one behind another.
use Prim.Native.Nat.{ℕ, suc, ◌+◌, ◌-◌, ◌≤◌, ◌<◌}
use mathlib.Core.Path.{◌≡◌, sym, ◌∙◌, ap, ap₂, subst}
use mathlib.Core.Bool.{true}
use mathlib.Core.List.{List, ◌∷◌, ◌++◌, map, append_assoc}
use native.Mathlib.Omega.{arith}
use native.Mathlib.Decide.{dec_lt}
use lib.ListN.{length, length-append, length-map}
use Rattle.words.specs.Lists.{up_from}
use Rattle.words.proofs.Lists.{In, all_in, in-get_or, in_map, in-up_from, length-up_from, up_from-append}
use Rattle.words.proofs.Lists.{map-append, append-same-length}
use Rattle.task.specs.Layout.{head_in, goals_from, atom_total, params_in}
use Rattle.task.specs.Task.{Atom, Task, precondition, addition, deletion, initial, goal_role, schema_fits, no_schema}
use Rattle.task.specs.Table.{atom_in, schema_number_in, fact_in, task_of, is_table}
use Rattle.task.specs.Run.{schema_at, of_role}
use Rattle.task.specs.Turns.{first_atom, first_pair}
use Rattle.task.proofs.Tests.{schema-tests, task-tests}
use Rattle.task.proofs.Tables.{of-table, init-stands, goal-stands, atoms_are, inits-are, goals-are}
use Rattle.task.proofs.TablesByIndex.{table-frame, schemas-word, init-word, goal-word, start-suc, atom-lies, params_at}
use Rattle.task.proofs.SchemaAtoms.{schema-inside, own-number}
use Rattle.text.specs.Lines.{bytes, digits}
use Rattle.defines.specs.Pddl.{space, parameter, following, neighbours, names_up_to, schema_atom_text, fact_text}
use Rattle.defines.specs.Pddl.{pair_text, preconditions, effects}
use Rattle.defines.specs.ByWords.{item_in, items_in, pairs_in, RoleRun, head_text, action_in}
use Rattle.defines.proofs.Pieces.{following-append, delete_text, action-pieces}
use Rattle.defines.proofs.AtomItems.{item-plain, item-negated, item-fact}
use Rattle.defines.proofs.TableItems.{items-listed}
use Rattle.defines.proofs.PairItems.{pair-items}
use Rattle.defines.proofs.Roles.{by_roles, by-roles, has-role}

-- ---- lists by a counter
-- where a counter runs through two lists, it runs through each
counted-parts : {A : Type 0} (f : ℕ → A) (i : ℕ) (xs ys : List A) →
    map f (up_from i (length (xs ++ ys))) ≡ xs ++ ys →
    (map f (up_from i (length xs)) ≡ xs) × (map f (up_from (i + length xs) (length ys)) ≡ ys)
counted-parts f i xs ys e =
    append-same-length (map f (up_from i (length xs))) xs (map f (up_from (i + length xs) (length ys))) ys
    (length-map (up_from i (length xs)) f ∙ length-up_from i (length xs))
    (sym (map-append f (up_from i (length xs)) (up_from (i + length xs) (length ys))) ∙
    (ap (map f) (sym (up_from-append i (length xs) (length ys)) ∙ ap (up_from i) (sym (length-append xs ys))) ∙ e))

-- ---- the facts of a table
module _ (w : List ℕ) (h : is_table w ≡ true) where
  abbrev t : Task
  t = task_of w

  -- of no schema, and of a role
  abbrev FactOf : ℕ → ℕ → Type 0
  FactOf r k = (schema_number_in w k ≡ 0) × ((atom_in w k).role ≡ r)

  by_place : (r from n : ℕ) → ((i : ℕ) → i < n → FactOf r (from + i)) → (k : ℕ) → from ≤ k → k < from + n → FactOf r k
  by_place r from n f k a b =
      let e : from + (k - from) ≡ k = omega arith in subst (FactOf r) e (f (k - from) (omega arith))

  initial-fact : (k : ℕ) → (head_in w).schema_atoms ≤ k → k < goals_from w → FactOf initial k
  initial-fact = by_place initial (head_in w).schema_atoms (head_in w).initial_atoms (λ i l.
      let fr = table-frame w h in
      let n = init-word w fr in
      let stands = init-stands w t fr.sizes fr.tabled i (omega arith) in
      (stands.number, ap (λ (a : Atom). a.role) stands.atom))

  goal-fact : (k : ℕ) → goals_from w ≤ k → k < atom_total w → FactOf goal_role k
  goal-fact = by_place goal_role (goals_from w) (head_in w).goal_atoms (λ i l.
      let fr = table-frame w h in
      let n = goal-word w fr in
      let stands = goal-stands w t fr.sizes fr.tabled i (omega arith) in
      (stands.number, ap (λ (a : Atom). a.role) stands.atom))

  pub initial-run : RoleRun w 0 initial (head_in w).schema_atoms (goals_from w)
  initial-run = record {
    ordered = omega arith;
    within = omega arith;
    has = initial-fact;
    stops = λ l number role. let (_, r) = goal-fact (goals_from w) (omega arith) l in omega arith;
  }

  pub goal-run : RoleRun w 0 goal_role (goals_from w) (atom_total w)
  goal-run = record {
    ordered = omega arith;
    within = omega arith;
    has = goal-fact;
    stops = λ l number role. omega arith;
  }

  pub initial-items : following (map fact_text t.init) ≡ items_in w (head_in w).schema_atoms (goals_from w)
  unfolding items_in
  initial-items =
      let fr = table-frame w h in
      items-listed (item_in w) (fact_in w) fact_text (head_in w).schema_atoms (head_in w).initial_atoms t.init
      (inits-are w t fr.sizes fr.tabled)
      (λ k a b. let (_, e) = initial-fact k a b in item-fact w k (omega arith))

  pub goal-items : following (map fact_text t.goal) ≡ items_in w (goals_from w) (atom_total w)
  unfolding items_in
  goal-items =
      let fr = table-frame w h in
      items-listed (item_in w) (fact_in w) fact_text (goals_from w) (head_in w).goal_atoms t.goal
      (goals-are w t fr.sizes fr.tabled)
      (λ k a b. let (_, e) = goal-fact k a b in item-fact w k (omega arith))

-- ---- the atoms of a schema
-- where its adds and its deletes begin
unfoldable pub adds_from : List ℕ → ℕ → ℕ
adds_from w s = first_atom (task_of w) s + length (of_role precondition (schema_at (task_of w) s).atoms)

unfoldable pub deletes_from : List ℕ → ℕ → ℕ
deletes_from w s = adds_from w s + length (of_role addition (schema_at (task_of w) s).atoms)

module _ (w : List ℕ) (h : is_table w ≡ true) (s : ℕ) (l : s < (head_in w).schemas) where
  abbrev task : Task
  task = task_of w

  abbrev atoms : List Atom
  atoms = (schema_at task s).atoms

  abbrev first : ℕ
  first = first_atom task s

  abbrev end : ℕ
  end = first_atom task (suc s)

  known : s < length task.schemas
  known = let n = schemas-word w (table-frame w h) in omega arith

  by-role : atoms ≡ by_roles atoms
  unfolding schema_at
  by-role =
      let fits = all_in (schema_fits task.arities) (task-tests task (of-table w h).0).fit
      (in-get_or task.schemas s no_schema known) in
      by-roles atoms (schema-tests task.arities (schema_at task s) fits).roles

  listed : map (atom_in w) (up_from first (length atoms)) ≡ atoms
  unfolding schema_at
  listed = let fr = table-frame w h in atoms_are w task fr.sizes fr.tabled s known

  -- a role's atoms, from a place on
  abbrev RoleFrom : ℕ → ℕ → Type 0
  RoleFrom r from = map (atom_in w) (up_from from (length (of_role r atoms))) ≡ of_role r atoms

  roles-from : RoleFrom precondition first × (RoleFrom addition (adds_from w s) × RoleFrom deletion (deletes_from w s))
  unfolding adds_from deletes_from
  roles-from =
      let pres = of_role precondition atoms in
      let adds = of_role addition atoms in
      let dels = of_role deletion atoms in
      let (p, rest) = counted-parts (atom_in w) first pres (adds ++ dels)
      (subst (λ (xs : List Atom). map (atom_in w) (up_from first (length xs)) ≡ xs) by-role listed) in
      (p, counted-parts (atom_in w) (first + length pres) adds dels rest)

  deletes-end : deletes_from w s + length (of_role deletion atoms) ≡ end
  unfolding adds_from deletes_from
  deletes-end =
      let e = start-suc w (table-frame w h) s l in
      let n = ap length by-role in
      let a = length-append (of_role precondition atoms) (of_role addition atoms ++ of_role deletion atoms) in
      let b = length-append (of_role addition atoms) (of_role deletion atoms) in
      omega arith

  role-in : (r from : ℕ) → RoleFrom r from → (k : ℕ) → from ≤ k → k < from + length (of_role r atoms) →
      (atom_in w k).role ≡ r
  role-in r from e k a b =
      (has-role r atoms (atom_in w k)
      (subst (In (atom_in w k)) e (in_map (atom_in w) (in-up_from from (length (of_role r atoms)) k a b)))).1

  -- no atom behind the schema's is of the schema and of a schema's role
  none-behind : (k : ℕ) → end ≤ k → k < atom_total w → schema_number_in w k ≡ s → (atom_in w k).role < initial → ⊥
  none-behind k a b number role = elim (dec_lt k (head_in w).schema_atoms) [
    | yes m ↦
        let next = subst (λ (x : ℕ). k < first_atom task (suc x)) number
        (atom-lies w (table-frame w h) k m).before-next in
        omega arith
    | no m ↦ elim (dec_lt k (goals_from w)) [
      | yes n ↦ let (_, e) = initial-fact w h k (omega arith) n in omega arith
      | no n ↦ let (_, e) = goal-fact w h k (omega arith) b in omega arith
    ]
  ]

  run_of : (r from : ℕ) → r < initial → RoleFrom r from → first ≤ from → from + length (of_role r atoms) ≤ end →
      (from + length (of_role r atoms) < end → (atom_in w (from + length (of_role r atoms))).role ≡ r → ⊥) →
      RoleRun w s r from (from + length (of_role r atoms))
  run_of r from low e a b stops =
      let to : ℕ = from + length (of_role r atoms) in
      record {
        ordered = omega arith;
        within = let inside = schema-inside w h s l in omega arith;
        has = λ k x y. (own-number w h s l k (omega arith) (omega arith), role-in r from e k x y);
        stops = λ x number role. elim (dec_lt to end) [
          | yes m ↦ stops m role
          | no m ↦ none-behind to (omega arith) x number (omega arith)
        ];
      }

  add-in : (k : ℕ) → adds_from w s ≤ k → k < deletes_from w s → (atom_in w k).role ≡ addition
  unfolding deletes_from
  add-in = role-in addition (adds_from w s) roles-from.1.0

  delete-in : (k : ℕ) → deletes_from w s ≤ k → k < end → (atom_in w k).role ≡ deletion
  delete-in k a b =
      let e = deletes-end in role-in deletion (deletes_from w s) roles-from.1.1 k a (omega arith)

  pub precondition-run : RoleRun w s precondition first (adds_from w s)
  unfolding adds_from deletes_from
  precondition-run =
      let e = deletes-end in
      run_of precondition first (omega arith) roles-from.0 (omega arith) (omega arith)
      (λ m role. elim (dec_lt (adds_from w s) (deletes_from w s)) [
        | yes n ↦ let r = add-in (adds_from w s) (omega arith) n in omega arith
        | no n ↦ let r = delete-in (adds_from w s) (omega arith) m in omega arith
      ])

  pub add-run : RoleRun w s addition (adds_from w s) (deletes_from w s)
  unfolding adds_from deletes_from
  add-run =
      let e = deletes-end in
      run_of addition (adds_from w s) (omega arith) roles-from.1.0 (omega arith) (omega arith)
      (λ m role. let r = delete-in (deletes_from w s) (omega arith) m in omega arith)

  pub delete-run : RoleRun w s deletion (deletes_from w s) end
  unfolding adds_from deletes_from
  delete-run =
      let e = deletes-end in
      subst (RoleRun w s deletion (deletes_from w s)) e
      (run_of deletion (deletes_from w s) (omega arith) roles-from.1.1 (omega arith) (omega arith)
      (λ m role. omega arith))

  -- ---- its text
  role-items : (r from : ℕ) (say : Atom → List ℕ) → RoleFrom r from →
      ((k : ℕ) → (atom_in w k).role ≡ r → item_in w k ≡ space ∷ say (atom_in w k)) →
      following (map say (of_role r atoms)) ≡ items_in w from (from + length (of_role r atoms))
  unfolding items_in
  role-items r from say e said =
      items-listed (item_in w) (atom_in w) say from (length (of_role r atoms)) (of_role r atoms) e
      (λ k a b. said k (role-in r from e k a b))

  -- those of its pairs
  abbrev apartness : List ℕ
  apartness = pairs_in w (first_pair task s) (first_pair task (suc s))

  pub precondition-items : following (preconditions (schema_at task s)) ≡ items_in w first (adds_from w s) ++ apartness
  unfolding preconditions adds_from
  precondition-items =
      following-append (map schema_atom_text (of_role precondition atoms)) (map pair_text (schema_at task s).pairs) ∙
      ap₂ (λ (xs ys : List ℕ). xs ++ ys)
      (role-items precondition first schema_atom_text roles-from.0 (λ k e. item-plain w k (omega arith)))
      (pair-items w h s l)

  pub effect-items : following (effects (schema_at task s)) ≡
      items_in w (adds_from w s) (deletes_from w s) ++ items_in w (deletes_from w s) end
  unfolding effects deletes_from
  effect-items =
      following-append (map schema_atom_text (of_role addition atoms))
      (map delete_text (of_role deletion atoms)) ∙
      ap₂ (λ (xs ys : List ℕ). xs ++ ys)
      (role-items addition (adds_from w s) schema_atom_text roles-from.1.0
      (λ k e. item-plain w k (omega arith)))
      (role-items deletion (deletes_from w s) delete_text roles-from.1.1 (item-negated w) ∙
      ap (items_in w (deletes_from w s)) deletes-end)

  -- an action up to its preconditions, and what comes behind
  head-then : (params : ℕ) (rest : List ℕ) →
      head_text s params ++ rest ≡
      bytes " (:action a" ++ (digits s ++ (bytes " :parameters (" ++ (neighbours (names_up_to parameter params) ++
      (bytes ") :precondition (and" ++ rest))))
  unfolding head_text
  head-then params rest = simp append_assoc

  pub action-in : action_in w s ≡
      head_text s (params_in w s) ++ (items_in w first (adds_from w s) ++ (apartness ++ (bytes ") :effect (and" ++
      (items_in w (adds_from w s) (deletes_from w s) ++ (items_in w (deletes_from w s) end ++ bytes "))")))))
  unfolding action_in bytes
  action-in =
      let behind : List ℕ → List ℕ → List ℕ = λ pres effs. pres ++ (bytes ") :effect (and" ++ (effs ++ bytes "))")) in
      let pres = items_in w first (adds_from w s) in
      let adds = items_in w (adds_from w s) (deletes_from w s) in
      let dels = items_in w (deletes_from w s) end in
      ap {B = List ℕ} (λ text. space ∷ text) (action-pieces s (schema_at task s)) ∙
      (sym (head-then (schema_at task s).params
      (behind (following (preconditions (schema_at task s))) (following (effects (schema_at task s))))) ∙
      (ap (λ (n : ℕ). head_text s n ++
      behind (following (preconditions (schema_at task s))) (following (effects (schema_at task s))))
      (params_at w (table-frame w h) s l) ∙
      (ap₂ (λ (pres effs : List ℕ). head_text s (params_in w s) ++ behind pres effs) precondition-items effect-items ∙
      ap (λ (rest : List ℕ). head_text s (params_in w s) ++ rest)
      (append_assoc pres apartness (bytes ") :effect (and" ++ ((adds ++ dels) ++ bytes "))")) ∙
      ap (λ (effs : List ℕ). pres ++ (apartness ++ (bytes ") :effect (and" ++ effs)))
      (append_assoc adds dels (bytes "))"))))))
