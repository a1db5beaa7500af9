-- What the inner functions of this crate promise: of the pars of a part, the parts of a schema, the sizes of the split,
-- and acceptance. No promise of an entry point cites these.
use Rattle.std.specs.Prelude.{ℕ, ◌+◌, ◌*◌, ◌≤◌, ◌<◌, ◌≡◌, Bool, true, ◌&&◌, List, [], ◌∷◌, map, length, get_or, take, leb}
use Rattle.words.specs.Lists.{every, concat_map, up_to}
use Rattle.task.specs.Limits.{most_predicates, most_schemas, most_schema_atoms, most_atoms, most_initial, most_goal, most_parts}
use Rattle.task.specs.Limits.{most_pairs}
use Rattle.std.specs.Prelude.{Result, Ok, Err}
use Rattle.task.specs.declared.refusals.Refusal.{Refusal}
use Rattle.task.specs.Answers.{Check, reason_number, refuse_unless, refuses, first_refusal}
use Rattle.task.specs.Task.{Schema, Task, schema_atoms, schema_pairs}
use Rattle.task.specs.declared.Part.{Part}
use Rattle.task.specs.declared.Place.{Place}
use Rattle.task.specs.Run.{schema_at}
use Rattle.task.specs.Table.{task_of, long_enough, is_table}
use Rattle.words.specs.Sets.{member, word_bits}
use Rattle.tokens.specs.Split.{has, later_parts, shared_bound, maximum, par_count, orders, first_here, last_here}
use Rattle.tokens.specs.Split.{later_here, split_schema, split_task, within_limits, split_as, split, split_check}
use Rattle.tokens.specs.declared.pars.Pars.{Pars}
use Rattle.tokens.specs.declared.measure.Sizes.{Sizes}
use Rattle.tokens.specs.declared.measure.Measured.{Measured}
use Rattle.tokens.specs.Kept.{order_place, part_word, own_word, PartsKept}

-- ---- parameters
-- the parameters of the part at position j, and those of them whose par it requires, adds and deletes
pub record ParsHere (t : Task) (s : ℕ) (o : List ℕ) (j : ℕ) (r : Pars) : Type 0 where
  pub own : (x : ℕ) → member r.own x ≡ has (schema_at t s) x (get_or o j 0)
  pub later : (x : ℕ) → member r.later x ≡ has (schema_at t s) x (get_or o j 0) && later_here t s o j x
  pub first : (x : ℕ) → member r.first x ≡ has (schema_at t s) x (get_or o j 0) && first_here t s o j x
  pub last : (x : ℕ) → member r.last x ≡ has (schema_at t s) x (get_or o j 0) && last_here t s o j x

-- ---- the order found of a schema's parts
-- the part at position j of parts found
abbrev pub part_at : List Part → ℕ → ℕ
part_at parts j = get_or (map (λ (p : Part). p.0) parts) j 0

-- once the first n parts found of the schema whose atoms begin at `from` are kept: the rows and what stands at the
-- places of earlier atoms still stand, then the parts and the parameters of each
pub record OrderKept (from n : ℕ) (parts : List Part) (named kept kept' : List ℕ) : Type 0 where
  pub long : length kept' ≡ length kept
  pub rows : (k : ℕ) → k < order_place → get_or kept' k 0 ≡ get_or kept k 0
  pub parts-before : (i : ℕ) → i < from → part_word kept' i ≡ part_word kept i
  pub owns-before : (i : ℕ) → i < from → own_word kept' i ≡ own_word kept i
  pub part : (j : ℕ) → j < n → part_word kept' (from + j) ≡ part_at parts j
  pub own : (j : ℕ) → j < n → own_word kept' (from + j) ≡ get_or named (part_at parts j) 0

-- ---- sizes
-- the schemas of the split that schema s becomes
abbrev pub part_schemas : Task → ℕ → List Schema
part_schemas t s = map (split_schema t s (orders t s)) (up_to (length (orders t s)))

-- the most atoms that one of some schemas has, or 0
abbrev pub largest_of : List Schema → ℕ
largest_of ss = maximum (map (λ (s : Schema). length s.atoms) ss)

-- what a part has at most: the atoms of its schema, and in each role a bare token and a par for each bit of a set
abbrev pub most_part_atoms : ℕ
most_part_atoms = most_atoms + 3 + 3 * word_bits

-- what is counted of schema s: the atoms of its parts, and the most that one has; its shared parameters; the pairs that
-- its parts carry
pub record SchemaSized (t : Task) (s : ℕ) (r : Measured) : Type 0 where
  pub atoms : r.atoms ≡ schema_atoms (part_schemas t s)
  pub largest : r.largest ≡ largest_of (part_schemas t s)
  pub shared : r.shared ≡ shared_bound (schema_at t s)
  pub pairs : r.pairs ≡ schema_pairs (part_schemas t s)
  pub atoms-most : r.atoms ≤ most_parts * most_part_atoms
  pub shared-most : r.shared ≤ word_bits
  pub pairs-most : r.pairs ≤ most_parts * most_pairs

-- what is counted of the first n schemas
pub record SizesBefore (t : Task) (n : ℕ) (r : Sizes) : Type 0 where
  pub later : r.later ≡ later_parts (take n t.schemas)
  pub pars : r.pars ≡ maximum (map shared_bound (take n t.schemas))
  pub schemas : r.schemas ≡ length (concat_map (part_schemas t) (up_to n))
  pub atoms : r.atoms ≡ schema_atoms (concat_map (part_schemas t) (up_to n))
  pub largest : r.largest ≡ largest_of (concat_map (part_schemas t) (up_to n))
  pub pairs : r.pairs ≡ schema_pairs (concat_map (part_schemas t) (up_to n))
  pub later-most : r.later ≤ most_parts * n
  pub schemas-most : r.schemas ≤ most_parts * n
  pub atoms-most : r.atoms ≤ most_parts * most_part_atoms * n
  pub pairs-most : r.pairs ≤ most_parts * most_pairs * n

-- the limits of a table that a split can pass, a test each
unfoldable pub are_within : ℕ → ℕ → ℕ → ℕ → ℕ → ℕ → ℕ → Bool
unfolding every
are_within predicates schemas atoms largest initial goal pairs =
    every
    (leb predicates most_predicates ∷
    leb schemas most_schemas ∷
    leb atoms most_schema_atoms ∷
    leb largest most_atoms ∷
    leb initial most_initial ∷
    leb goal most_goal ∷
    leb pairs most_pairs ∷ [])

-- what is counted of the split, also where it passes a limit
pub record SizesCounted (t : Task) (r : Sizes) : Type 0 where
  pub later : r.later ≡ later_parts t.schemas
  pub pars : r.pars ≡ par_count t
  pub schemas : r.schemas ≡ length (split_task t).schemas
  pub atoms : r.atoms ≡ schema_atoms (split_task t).schemas
  pub largest : r.largest ≡ largest_of (split_task t).schemas
  pub pairs : r.pairs ≡ schema_pairs (split_task t).schemas

-- the sizes of the split: that, and whether all limits are kept
pub record SizesTold (t : Task) (r : Sizes) : Type 0 where
  pub later : r.later ≡ later_parts t.schemas
  pub pars : r.pars ≡ par_count t
  pub schemas : r.schemas ≡ length (split_task t).schemas
  pub atoms : r.atoms ≡ schema_atoms (split_task t).schemas
  pub largest : r.largest ≡ largest_of (split_task t).schemas
  pub pairs : r.pairs ≡ schema_pairs (split_task t).schemas
  pub within : r.within ≡ within_limits (split_task t)

-- ---- acceptance
-- the checks of a table that splitting, unfolding and folding make first, and those behind them
abbrev pub accepted_then : List ℕ → List Check → List Check
accepted_then w more =
    refuse_unless (long_enough w) 1 ∷ refuse_unless (is_table w) 2 ∷ split_check (split (task_of w)) ∷ more

-- one of them refuses, whatever stands behind them
abbrev pub RefusedAs : List ℕ → ℕ → Place → Type 0
RefusedAs w n at = (more : List Check) → first_refusal (accepted_then w more) ≡ refuses n at

-- or all pass: what is kept of the parts, and the sizes of the split
pub record AcceptedKept (w : List ℕ) (sizes : Sizes) (kept : List ℕ) : Type 0 where
  pub long : long_enough w ≡ true
  pub table : is_table w ≡ true
  pub accepted : split (task_of w) ≡ split_as (split_task (task_of w))
  pub parts : PartsKept (task_of w) (length (task_of w).schemas) kept
  pub sized : SizesTold (task_of w) sizes

-- that, whatever the sizes
abbrev pub AcceptedParts : List ℕ → List ℕ → Type 0
AcceptedParts w kept = (sizes : Sizes) × AcceptedKept w sizes kept

-- what each case of the answer says
unfoldable pub AcceptanceTold : List ℕ → Result Sizes Refusal → List ℕ → Type 0
AcceptanceTold w (Ok sizes) kept = AcceptedKept w sizes kept
AcceptanceTold w (Err refusal) kept = RefusedAs w (reason_number refusal.reason) refusal.place
