-- What the code of this crate has of a task's parts, kept in one array, and what its inner functions promise, by the
-- words they read. No promise of an entry point cites these.
use Rattle.std.specs.Prelude.{ℕ, ◌+◌, ◌*◌, ◌≤◌, ◌<◌, ◌≡◌, true, List, map, length, get_or, eqb}
use Rattle.std.specs.Prelude.{None}
use Rattle.words.specs.Lists.{any, concat_map, sum, up_to}
use Rattle.task.specs.Limits.{most_parameters, most_parts, most_schemas, step_size}
use Rattle.task.specs.Task.{Task}
use Rattle.task.specs.Table.{task_of, long_enough, is_table}
use Rattle.task.specs.Run.{Step, param_count, bad_step}
use Rattle.words.specs.Sets.{member, members}
use Rattle.tokens.specs.Split.{orders, split_task, split_as, split, first_of}
use Rattle.blocks.specs.Blocks.{params_at}
use Rattle.tokens.specs.Kept.{kept_first, kept_count, kept_own}

-- ---- what is kept of a task whose split is accepted
-- of each schema: the split's number of its first part, how many parts it has, and the parameters of each as a set of
-- bits; all within the limits
pub record BlocksKept (t : Task) (kept : List ℕ) : Type 0 where
  pub few-schemas : length t.schemas ≤ most_schemas
  pub few-splits : first_of t (length t.schemas) ≤ most_schemas
  pub few-params : (s : ℕ) → param_count t s ≤ most_parameters
  pub some-part : (s : ℕ) → s < length t.schemas → 0 < length (orders t s)
  pub few-parts : (s : ℕ) → s < length t.schemas → length (orders t s) ≤ most_parts
  pub first : (s : ℕ) → s ≤ length t.schemas → kept_first kept s ≡ first_of t s
  pub count : (s : ℕ) → s < length t.schemas → kept_count kept s ≡ length (orders t s)
  pub params : (s j x : ℕ) → s < length t.schemas → j < length (orders t s) →
      member (kept_own kept s j) x ≡ any (eqb x) (params_at t s j)

-- a table whose split is accepted, and what is kept of its blocks
pub record TableKept (w kept : List ℕ) : Type 0 where
  pub long : long_enough w ≡ true
  pub table : is_table w ≡ true
  pub accepted : split (task_of w) ≡ split_as (split_task (task_of w))
  pub blocks : BlocksKept (task_of w) kept

-- ---- unfolding
-- steps of a task whose parts are kept
pub record StepsKept (t : Task) (steps kept : List ℕ) : Type 0 where
  pub blocks : BlocksKept t kept
  pub good : bad_step t steps ≡ None

-- of the step whose words begin at a place: it is whole, and its schema's numbers are within the limits
pub record StepKept (steps kept : List ℕ) (at : ℕ) : Type 0 where
  pub whole : at + step_size ≤ length steps
  pub known : get_or steps at 0 < most_schemas
  pub few : kept_count kept (get_or steps at 0) ≤ most_parts
  pub small : kept_first kept (get_or steps at 0) ≤ most_schemas

-- the objects that it gives to the parameters below n of a set, ascending
unfoldable pub objects_for : List ℕ → ℕ → ℕ → ℕ → List ℕ
unfolding members
objects_for steps at set n = map (λ p. get_or steps (at + 1 + p) 0) (members set n)

-- the part at position j of its block
unfoldable pub part_from : List ℕ → List ℕ → ℕ → ℕ → Step
unfolding objects_for
part_from steps kept at j = record {
  schema = kept_first kept (get_or steps at 0) + j;
  objects = objects_for steps at (kept_own kept (get_or steps at 0) j) most_parameters;
}

-- the first n of its parts
unfoldable pub parts_from : List ℕ → List ℕ → ℕ → ℕ → List Step
unfolding part_from up_to
parts_from steps kept at n = map (part_from steps kept at) (up_to n)

-- how many parts it has
abbrev pub count_from : List ℕ → List ℕ → ℕ → ℕ
count_from steps kept at = kept_count kept (get_or steps at 0)

-- how many the first n steps have together
unfoldable pub sum_from : List ℕ → List ℕ → ℕ → ℕ
unfolding sum up_to
sum_from steps kept n = sum (map (λ i. count_from steps kept (step_size * i)) (up_to n))

-- the blocks of the first n steps
unfoldable pub blocks_from : List ℕ → List ℕ → ℕ → List Step
unfolding concat_map parts_from up_to
blocks_from steps kept n =
    concat_map (λ i. parts_from steps kept (step_size * i) (count_from steps kept (step_size * i))) (up_to n)
