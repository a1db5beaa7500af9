-- The two defines of a table's task by the words of the table, in the pieces that code puts: the predicates and the
-- actions are those of their numbers one behind another, the objects are marked numbers, and the initial and the goal
-- atoms are the items of their runs.
use Prim.Native.Nat.{ℕ, suc, ◌+◌, ◌<◌}
use mathlib.Core.Path.{◌≡◌, refl, sym, ◌∙◌, ap, ap₂, subst}
use mathlib.Core.Bool.{true}
use mathlib.Core.List.{List, [], ◌∷◌, ◌++◌}
use native.Mathlib.Omega.{arith}
use lib.ListN.{length, get_or}
use Rattle.words.specs.Lists.{up_to, up_from, concat_map}
use Rattle.task.specs.Layout.{head_in, goals_from, atom_total}
use Rattle.task.specs.Task.{Task, no_schema, schema_pairs}
use Rattle.task.specs.Table.{task_of, is_table}
use Rattle.task.specs.Run.{schema_at}
use Rattle.task.proofs.TablesByIndex.{table-frame, objects-word, arities-word, schemas-word, pairs-word, arity-at}
use Rattle.text.specs.Lines.{bytes, newline}
use Rattle.defines.specs.Pddl.{space, object, following, names_up_to, numbered, predicate_text, action_text}
use Rattle.defines.specs.Pddl.{requirements, domain_text, problem_text}
use Rattle.defines.specs.ByWords.{marked, items_in, needs_in, predicate_in, action_in}
use Rattle.defines.proofs.Pieces.{domain-pieces, problem-pieces}
use Rattle.defines.proofs.AtomItems.{names_marked, predicate-is}
use Rattle.defines.proofs.PairItems.{needs-said}
use Rattle.defines.proofs.RoleRuns.{initial-items, goal-items}

-- ---- things that are numbered, each said by its number
module _ {A : Type 0} (item : ℕ → A → List ℕ) (d : A) (said : ℕ → List ℕ) where
  numbered-from : (i : ℕ) (xs : List A) →
      ((k : ℕ) → k < length xs → said (i + k) ≡ space ∷ item (i + k) (get_or xs k d)) →
      following (numbered item i xs) ≡ concat_map said (up_from i (length xs))
  unfolding numbered following concat_map up_from
  numbered-from i [] h = refl
  numbered-from i (x ∷ xs) h =
      let z : i + 0 ≡ i = omega arith in
      ap₂ (λ (ys zs : List ℕ). ys ++ zs)
      (sym (subst (λ (n : ℕ). said n ≡ space ∷ item n x) z (h 0 (omega arith))))
      (numbered-from (suc i) xs (λ k l.
      let y : i + suc k ≡ suc i + k = omega arith in
      subst (λ (n : ℕ). said n ≡ space ∷ item n (get_or xs k d)) y (h (suc k) (omega arith))))

  numbered-said : (xs : List A) (n : ℕ) → length xs ≡ n →
      ((k : ℕ) → k < n → said k ≡ space ∷ item k (get_or xs k d)) →
      following (numbered item 0 xs) ≡ concat_map said (up_to n)
  unfolding up_to
  numbered-said xs n e h =
      numbered-from 0 xs (λ k l.
      let z : k ≡ 0 + k = omega arith in
      subst (λ (n : ℕ). said n ≡ space ∷ item n (get_or xs k d)) z (h k (omega arith))) ∙
      ap (λ (m : ℕ). concat_map said (up_from 0 m)) e

module _ (w : List ℕ) (h : is_table w ≡ true) where
  abbrev t : Task
  t = task_of w

  -- ---- the domain
  pub predicates-in : following (numbered predicate_text 0 t.arities) ≡
      concat_map (predicate_in w) (up_to (head_in w).predicates)
  predicates-in =
      let fr = table-frame w h in
      numbered-said predicate_text 0 (predicate_in w) t.arities (head_in w).predicates (arities-word w fr) (λ p l.
      predicate-is w p ∙ ap (λ (n : ℕ). space ∷ predicate_text p n) (sym (arity-at w fr p l)))

  pub actions-in : following (numbered action_text 0 t.schemas) ≡ concat_map (action_in w) (up_to (head_in w).schemas)
  unfolding action_in schema_at
  actions-in =
      numbered-said action_text no_schema (action_in w) t.schemas (head_in w).schemas
      (schemas-word w (table-frame w h)) (λ s l. refl)

  pub needs-in : following (requirements (schema_pairs t.schemas)) ≡ needs_in (head_in w).pairs
  needs-in = needs-said (schema_pairs t.schemas) ∙ ap needs_in (pairs-word w (table-frame w h))

  pub domain-in : domain_text t ++ (newline ∷ []) ≡
      bytes "(define (domain d)" ++ (needs_in (head_in w).pairs ++
      (bytes " (:predicates" ++ (concat_map (predicate_in w) (up_to (head_in w).predicates) ++
      (bytes ")" ++ (concat_map (action_in w) (up_to (head_in w).schemas) ++ bytes ")\n")))))
  domain-in = domain-pieces t ∙ rw (needs-in, predicates-in, actions-in) refl

  -- ---- the problem
  pub objects-in : following (names_up_to object t.objects) ≡ marked (bytes " o") (up_to (head_in w).objects)
  unfolding bytes
  objects-in =
      names_marked object t.objects ∙
      ap (λ (n : ℕ). marked (space ∷ bytes object) (up_to n)) (objects-word w (table-frame w h))

  pub problem-in : problem_text t ++ (newline ∷ []) ≡
      bytes "(define (problem q) (:domain d) (:objects" ++ (marked (bytes " o") (up_to (head_in w).objects) ++
      (bytes ") (:init" ++ (items_in w (head_in w).schema_atoms (goals_from w) ++
      (bytes ") (:goal (and" ++ (items_in w (goals_from w) (atom_total w) ++ bytes ")))\n")))))
  problem-in = problem-pieces t ∙ rw (objects-in, initial-items w h, goal-items w h) refl
