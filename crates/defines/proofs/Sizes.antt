-- How long the text of a table's task is: the fixed bytes of both defines, the predicates, the actions without their
-- atoms and pairs, the objects, the items of all atoms, since those of the schemas stand one schema behind another and
-- the initial and the goal atoms follow, the pairs likewise, and what pairs require.
use Prim.Native.Nat.{ℕ, zero, suc, ◌+◌, ◌^◌, ◌≤◌, ◌<◌}
use mathlib.Core.Path.{◌≡◌, ap}
use mathlib.Core.Bool.{true}
use mathlib.Core.List.{List}
use native.Mathlib.Omega.{arith}
use lib.ListN.{length, length-append}
use Rattle.words.specs.Lists.{sum, up_to, up_from, concat_map}
use Rattle.task.specs.Layout.{head_in, goals_from, atom_total, params_in}
use Rattle.task.specs.Task.{Task}
use Rattle.task.specs.Table.{task_of, is_table}
use Rattle.task.specs.Run.{schema_at}
use Rattle.task.specs.Turns.{first_atom, first_pair}
use Rattle.task.proofs.TablesByIndex.{table-frame, params_at, start-end, pair-start-end}
use Rattle.task.proofs.StartLaws.{start-rises}
use Rattle.task.proofs.SchemaAtoms.{schema-inside}
use Rattle.text.specs.Lines.{bytes}
use Rattle.text.proofs.Onwards.{onwards-short}
use Rattle.defines.specs.Pddl.{pddl}
use Rattle.defines.specs.ByWords.{marked, item_in, items_in, apart_in, pairs_in, needs_in, frame_in, predicate_in}
use Rattle.defines.specs.ByWords.{action_in, longest_pddl}
use Rattle.defines.proofs.Pieces.{action-long, pddl-long}
use Rattle.defines.proofs.RoleRuns.{adds_from, deletes_from, precondition-run, add-run, delete-run}
use Rattle.defines.proofs.RoleRuns.{initial-items, goal-items, precondition-items, effect-items}
use Rattle.defines.proofs.Frames.{parameters, head-long, frame-long}
use Rattle.defines.proofs.TableItems.{pieces-parted}
use Rattle.defines.proofs.PairItems.{pairs-rise, pairs-inside}
use Rattle.defines.proofs.DefinesIn.{needs-in, predicates-in, actions-in, objects-in}
use Rattle.defines.proofs.Longest.{table-most}

-- items up to a place, and those from there on; and pairs
items-parted : (w : List ℕ) (from mid to : ℕ) → from ≤ mid → mid ≤ to →
    length (items_in w from to) ≡ length (items_in w from mid) + length (items_in w mid to)
unfolding items_in
items-parted w = pieces-parted (item_in w)

pairs-parted : (w : List ℕ) (from mid to : ℕ) → from ≤ mid → mid ≤ to →
    length (pairs_in w from to) ≡ length (pairs_in w from mid) + length (pairs_in w mid to)
unfolding pairs_in
pairs-parted w = pieces-parted (apart_in w)

-- 100 fixed bytes, and the sizes that code counts
abbrev pub sizes_in : List ℕ → ℕ
sizes_in w =
    100 + length (concat_map (predicate_in w) (up_to (head_in w).predicates)) +
    length (concat_map (frame_in w) (up_to (head_in w).schemas)) +
    length (marked (bytes " o") (up_to (head_in w).objects)) + length (items_in w 0 (atom_total w)) +
    length (needs_in (head_in w).pairs) + length (pairs_in w 0 (head_in w).pairs)

module _ (w : List ℕ) (h : is_table w ≡ true) where
  abbrev t : Task
  t = task_of w

  -- ---- actions: their frames, their atoms and their pairs
  action-sizes : (s : ℕ) → s < (head_in w).schemas →
      length (action_in w s) ≡ length (frame_in w s) + length (items_in w (first_atom t s) (first_atom t (suc s))) +
      length (pairs_in w (first_pair t s) (first_pair t (suc s)))
  unfolding action_in
  action-sizes s l =
      let end : ℕ = first_atom t (suc s) in
      let a = (precondition-run w h s l).ordered in
      let b = (add-run w h s l).ordered in
      let c = (delete-run w h s l).ordered in
      let action = action-long s (schema_at t s) in
      let params = ap (λ (n : ℕ). length (parameters n)) (params_at w (table-frame w h) s l) in
      let pres = ap length (precondition-items w h s l) in
      let tests = length-append (items_in w (first_atom t s) (adds_from w s))
      (pairs_in w (first_pair t s) (first_pair t (suc s))) in
      let effs = ap length (effect-items w h s l) in
      let both = length-append (items_in w (adds_from w s) (deletes_from w s)) (items_in w (deletes_from w s) end) in
      let frame = frame-long w s in
      let head = head-long s (params_in w s) in
      let own = items-parted w (first_atom t s) (adds_from w s) end a (omega arith) in
      let effects = items-parted w (adds_from w s) (deletes_from w s) end b c in
      omega arith

  -- of the schemas from s on
  actions-sizes : (n s : ℕ) → s + n ≡ (head_in w).schemas →
      length (concat_map (action_in w) (up_from s n)) ≡
      length (concat_map (frame_in w) (up_from s n)) + length (items_in w (first_atom t s) (head_in w).schema_atoms) +
      length (pairs_in w (first_pair t s) (head_in w).pairs)
  unfolding up_from concat_map items_in pairs_in
  actions-sizes zero s e =
      let z : (head_in w).schemas ≡ s = omega arith in
      let end = ap (first_atom t) z in
      let all = start-end w (table-frame w h) in
      let none = onwards-short (item_in w) (first_atom t s) (head_in w).schema_atoms (omega arith) in
      let last = ap (first_pair t) z in
      let every = pair-start-end w (table-frame w h) in
      let no-pair = onwards-short (apart_in w) (first_pair t s) (head_in w).pairs (omega arith) in
      omega arith
  actions-sizes (suc n) s e =
      let l : s < (head_in w).schemas = omega arith in
      let action = action-sizes s l in
      let actions = length-append (action_in w s) (concat_map (action_in w) (up_from (suc s) n)) in
      let frames = length-append (frame_in w s) (concat_map (frame_in w) (up_from (suc s) n)) in
      let rest = actions-sizes n (suc s) (omega arith) in
      let rises = start-rises w h s (suc s) (omega arith) in
      let items = items-parted w (first_atom t s) (first_atom t (suc s)) (head_in w).schema_atoms rises
      (schema-inside w h s l) in
      let pairs = pairs-parted w (first_pair t s) (first_pair t (suc s)) (head_in w).pairs
      (pairs-rise w h s (suc s) (omega arith)) (pairs-inside w h s l) in
      omega arith

  -- ---- the whole
  pub pddl-sizes : length (pddl t) ≡ sizes_in w
  unfolding up_to sum
  pddl-sizes =
      let long = pddl-long t in
      let required = ap length (needs-in w h) in
      let predicates = ap length (predicates-in w h) in
      let actions = ap length (actions-in w h) in
      let objects = ap length (objects-in w h) in
      let inits = ap length (initial-items w h) in
      let goals = ap length (goal-items w h) in
      let schemas = actions-sizes (head_in w).schemas 0 (omega arith) in
      let i₁ = items-parted w 0 (head_in w).schema_atoms (atom_total w) (omega arith) (omega arith) in
      let i₂ = items-parted w (head_in w).schema_atoms (goals_from w) (atom_total w) (omega arith) (omega arith) in
      omega arith

  -- no sum wraps
  pub sizes-fit : sizes_in w < 2 ^ 64
  unfolding longest_pddl
  sizes-fit = let e = pddl-sizes in let m = table-most w h in omega arith
