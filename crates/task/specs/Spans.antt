-- The ground atoms of a step by their places in the table, as the inner functions of running speak of them.
-- No promise of an entry point cites these.
use Rattle.std.specs.Prelude.{ℕ, ◌+◌, ◌-◌, ◌*◌, ◌≤◌, ◌<◌, ◌≡◌, Bool, true, cond, List, map, get_or}
use Rattle.words.specs.Lists.{all, up_from}
use Rattle.task.specs.Layout.{head_in}
use Rattle.task.specs.Limits.{step_size, most_atoms}
use Rattle.task.specs.Task.{Fact, Task, args_fit, well_formed}
use Rattle.task.specs.Table.{atom_in, schema_number_in, task_of, is_table}
use Rattle.task.specs.Run.{ground, holds, insert_all, remove_all, step_at, is_step_at, state_in, is_state}
use Rattle.task.specs.Records.{record_number}
use Rattle.task.specs.declared.spans.Spans.{Spans}

-- atom k of the table with the objects of step i
unfoldable pub ground_at : List ℕ → List ℕ → ℕ → ℕ → Fact
unfolding ground step_at task_of atom_in
ground_at table steps i k = ground (step_at (task_of table) steps i).objects (atom_in table k)

-- the atoms of the table from `start` on, with the objects of step i
unfoldable pub ground_from : List ℕ → List ℕ → ℕ → ℕ → ℕ → Fact
unfolding ground_at
ground_from table steps i start k = ground_at table steps i (start + k)

-- the object that step i has for a parameter
abbrev pub object_in : List ℕ → ℕ → ℕ → ℕ
object_in steps i p = get_or steps (step_size * i + 1 + p) 0

-- an argument with its object, or 0 where the predicate has no such argument
unfoldable pub argument_in : Bool → List ℕ → ℕ → ℕ → ℕ
argument_in used steps i p = cond used (object_in steps i p) 0

-- step i is one of the task's, and atom k of the table one of its schema's
pub record AtomOf (table steps : List ℕ) (i k : ℕ) : Type 0 where
  pub tabled : is_table table ≡ true
  pub stepped : is_step_at (task_of table) steps i ≡ true
  pub known : k < (head_in table).schema_atoms
  pub own : schema_number_in table k ≡ get_or steps (step_size * i) 0

-- step i is one of the task's, and the atoms from a to b - 1 of the table are of its schema
pub record SpanOf (table steps : List ℕ) (i a b : ℕ) : Type 0 where
  pub tabled : is_table table ≡ true
  pub stepped : is_step_at (task_of table) steps i ≡ true
  pub ordered : a ≤ b
  pub atoms : (k : ℕ) → a ≤ k → k < b → (k < (head_in table).schema_atoms) ×
      (schema_number_in table k ≡ get_or steps (step_size * i) 0)

-- ---- a step's ground atoms by their places among its numbers, whatever gives them
-- those from a to b - 1
unfoldable pub span : (ℕ → Fact) → ℕ → ℕ → List Fact
unfolding up_from
span g a b = map g (up_from a (b - a))

-- the numbers are those of as many of them
abbrev pub NumbersOf : (ℕ → Fact) → ℕ → List ℕ → Type 0
NumbersOf g count numbers = (k : ℕ) → k < count → get_or numbers k 0 ≡ record_number (g k)

-- a step under way: the numbers are those of ground atoms of the task, which g gives, and the words keep a state of it
pub record UnderWay (t : Task) (g : ℕ → Fact) (spans : Spans) (numbers state : List ℕ) (n : ℕ) : Type 0 where
  pub task : well_formed t ≡ true
  pub adds : spans.adds ≤ spans.deletes
  pub deletes : spans.deletes ≤ spans.end
  pub few : spans.end ≤ most_atoms
  pub fit : (k : ℕ) → k < spans.end → args_fit t.arities t.objects (g k).pred (g k).args ≡ true
  pub number : NumbersOf g spans.end numbers
  pub state_is : is_state t state n ≡ true

-- the atoms from a to b - 1 hold in the state kept
abbrev pub AllHold : Task → (ℕ → Fact) → ℕ → ℕ → List ℕ → ℕ → Type 0
AllHold t g a b state n = all (holds (state_in t state n)) (span g a b) ≡ true

-- the state kept without the deletes, and what the adds make of that
abbrev pub without : Task → (ℕ → Fact) → Spans → List ℕ → ℕ → List Fact
without t g spans state n = remove_all (span g spans.deletes spans.end) (state_in t state n)

abbrev pub exchanged : Task → (ℕ → Fact) → Spans → List ℕ → ℕ → List Fact
exchanged t g spans state n = insert_all (span g spans.adds spans.deletes) (without t g spans state n)
