-- The text by the words of a table, in the pieces that the writer puts one behind another.
-- No promise of an entry point cites these.
use Rattle.std.specs.Prelude.{ℕ, zero, suc, ◌+◌, ◌-◌, ◌≤◌, ◌<◌, ◌≡◌, cond, List, [], ◌∷◌, ◌++◌, get_or, eqb}
use Rattle.words.specs.Lists.{up_to, up_from, concat_map}
use Rattle.words.specs.Words.{words_at}
use Rattle.task.specs.Layout.{atom_total, arity_in, params_in, pair_base, atom_base}
use Rattle.task.specs.Run.{schema_at}
use Rattle.task.specs.Table.{atom_in, schema_number_in, task_of}
use Rattle.text.specs.Lines.{bytes, digits}
use Rattle.defines.specs.Pddl.{space, closing, neighbours, parameter, names_up_to, action_text}

-- numbers one behind another, each behind its mark: ` ?x0 ?x1`
unfoldable pub marked : List ℕ → List ℕ → List ℕ
unfolding concat_map digits
marked mark ns = concat_map (λ n. mark ++ digits n) ns

-- ` (p0 ?x0)`: a predicate and its arguments, behind a space
unfoldable pub formula : List ℕ → ℕ → List ℕ → List ℕ
unfolding bytes digits marked
formula mark p ns = bytes " (p" ++ (digits p ++ (marked mark ns ++ (closing ∷ [])))

-- the atom whose words begin at b
unfoldable pub formula_at : List ℕ → List ℕ → ℕ → List ℕ
unfolding formula words_at arity_in
formula_at mark w b = formula mark (get_or w (b + 2) 0) (words_at w (b + 4) (arity_in w (get_or w (b + 2) 0)))

-- "role (0 precondition, 1 add, 2 delete, 3 initial, 4 goal)": a schema's atoms are over parameters, a delete stands in
-- a `not`, and the others are over objects
unfoldable pub item_at : ℕ → List ℕ → ℕ → List ℕ
unfolding bytes formula_at
item_at zero w b = formula_at (bytes " ?x") w b
item_at (suc zero) w b = formula_at (bytes " ?x") w b
item_at (suc (suc zero)) w b = bytes " (not" ++ (formula_at (bytes " ?x") w b ++ (closing ∷ []))
item_at (suc (suc (suc r))) w b = formula_at (bytes " o") w b

-- atom i of a table, by its role; and those from one to another
unfoldable pub item_in : List ℕ → ℕ → List ℕ
unfolding item_at atom_in atom_base
item_in w i = item_at (atom_in w i).role w (atom_base w i)

unfoldable pub items_in : List ℕ → ℕ → ℕ → List ℕ
unfolding concat_map item_in up_from
items_in w from to = concat_map (item_in w) (up_from from (to - from))

-- the atoms from one to another are all that stand there of a schema and a role
pub record RoleRun (w : List ℕ) (schema role from to : ℕ) : Type 0 where
  pub ordered : from ≤ to
  pub within : to ≤ atom_total w
  pub has : (k : ℕ) → from ≤ k → k < to → (schema_number_in w k ≡ schema) × ((atom_in w k).role ≡ role)
  pub stops : to < atom_total w → schema_number_in w to ≡ schema → (atom_in w to).role ≡ role → ⊥

-- ` (not (= ?x0 ?x1))`: two numbers, behind a space
unfoldable pub apart : List ℕ → List ℕ
unfolding bytes marked
apart ns = bytes " (not (=" ++ (marked (bytes " ?x") ns ++ bytes "))")

-- pair i of a table; and those from one to another
unfoldable pub apart_in : List ℕ → ℕ → List ℕ
unfolding apart words_at pair_base
apart_in w i = apart (words_at w (pair_base w i + 1) 2)

unfoldable pub pairs_in : List ℕ → ℕ → ℕ → List ℕ
unfolding concat_map apart_in up_from
pairs_in w from to = concat_map (apart_in w) (up_from from (to - from))

-- what so many pairs require, behind a space
unfoldable pub needs_in : ℕ → List ℕ
unfolding bytes
needs_in pairs = cond (eqb pairs 0) [] (bytes " (:requirements :strips :equality :negative-preconditions)")

-- ` (:action a0 :parameters (?x0 ?x1) :precondition (and`: an action up to its preconditions
unfoldable pub head_text : ℕ → ℕ → List ℕ
unfolding bytes digits neighbours names_up_to
head_text s params =
    bytes " (:action a" ++ (digits s ++ (bytes " :parameters (" ++
    (neighbours (names_up_to parameter params) ++ bytes ") :precondition (and")))

-- schema s of a table as an action that has no atoms and no pairs: as long as what the action has besides them
unfoldable pub frame_in : List ℕ → ℕ → List ℕ
unfolding bytes head_text
frame_in w s = head_text s (params_in w s) ++ bytes ") :effect (and))"

-- predicate p of a table
unfoldable pub predicate_in : List ℕ → ℕ → List ℕ
unfolding bytes formula up_to arity_in
predicate_in w p = formula (bytes " ?x") p (up_to (arity_in w p))

-- schema s of a table, behind a space
unfoldable pub action_in : List ℕ → ℕ → List ℕ
unfolding action_text schema_at task_of
action_in w s = space ∷ action_text s (schema_at (task_of w) s)

-- no text is longer: of the domain 34 bytes, 58 for what pairs require, 23 for each of 400 predicates, 123 for each of
-- 200 schemas with 12 parameters, 20 for each of 200 pairs, 33 for each of 1,000 atoms, all deletes; of the problem 66,
-- 5 for each of 1,000 objects, 27 for each of 600 initial and goal atoms; shut, since a list function would count a
-- numeral down
unfoldable pub longest_pddl : ℕ
longest_pddl = 92158
