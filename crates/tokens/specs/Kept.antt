-- What is kept of a table's parts, all in one array: a row for each schema, and one row more, for where the last one's
-- atoms and pairs end; behind the rows the parts, and behind these their parameters. No promise of an entry point cites
-- these.
use Rattle.std.specs.Prelude.{ℕ, ◌+◌, ◌*◌, ◌≤◌, ◌<◌, ◌≡◌, true, cond, List, length, get_or, set, ltb}
use Rattle.std.specs.Prelude.{Some}
use Rattle.task.specs.Limits.{most_schemas, most_schema_atoms}
use Rattle.task.specs.Task.{Task}
use Rattle.task.specs.Run.{schema_at}
use Rattle.task.specs.Table.{task_of, is_table}
use Rattle.task.specs.Turns.{first_atom, first_pair}
use Rattle.arcs.specs.Order.{order_of}
use Rattle.words.specs.Sets.{member}
use Rattle.tokens.specs.Split.{has, orders, first_of}

-- ---- the words
-- where in a row each thing stands: the index of the schema's first atom, the split's number of its first part, how
-- many parts it has, and the index of its first pair
abbrev pub start_place : ℕ
start_place = 0

abbrev pub first_place : ℕ
first_place = 1

abbrev pub count_place : ℕ
count_place = 2

abbrev pub pair_place : ℕ
pair_place = 3

-- the words of a row
abbrev pub kept_row : ℕ
kept_row = 4

-- where the parts begin, where their parameters begin, and how many words there are: a schema has no more parts than
-- atoms, so the part at position j of its order stands at the place of its atom j
abbrev pub order_place : ℕ
order_place = kept_row * (most_schemas + 1)

abbrev pub own_place : ℕ
own_place = order_place + most_schema_atoms

abbrev pub kept_words : ℕ
kept_words = own_place + most_schema_atoms

-- the word at place k of row s, and the array with another word there
abbrev pub field : List ℕ → ℕ → ℕ → ℕ
field kept s k = get_or kept (kept_row * s + k) 0

abbrev pub with_field : List ℕ → ℕ → ℕ → ℕ → List ℕ
with_field kept s k v = set kept (kept_row * s + k) v

-- the part at the place of atom i, and its parameters as a set of bits
abbrev pub part_word : List ℕ → ℕ → ℕ
part_word kept i = get_or kept (order_place + i) 0

abbrev pub own_word : List ℕ → ℕ → ℕ
own_word kept i = get_or kept (own_place + i) 0

-- the array with another part and other parameters there
abbrev pub with_part : List ℕ → ℕ → ℕ → ℕ → List ℕ
with_part kept i part own = set (set kept (order_place + i) part) (own_place + i) own

-- of schema s: where its atoms begin, and where they end
abbrev pub kept_start : List ℕ → ℕ → ℕ
kept_start kept s = field kept s start_place

abbrev pub kept_end : List ℕ → ℕ → ℕ
kept_end kept s = kept_start kept (s + 1)

-- the split's number of its first part, and how many parts it has
abbrev pub kept_first : List ℕ → ℕ → ℕ
kept_first kept s = field kept s first_place

abbrev pub kept_count : List ℕ → ℕ → ℕ
kept_count kept s = field kept s count_place

-- where its pairs begin, and where they end
abbrev pub kept_pair : List ℕ → ℕ → ℕ
kept_pair kept s = field kept s pair_place

abbrev pub kept_pair_end : List ℕ → ℕ → ℕ
kept_pair_end kept s = kept_pair kept (s + 1)

-- the word at place i, 0 behind the array: no table has a part there, and those who ask need not know it
unfoldable pub word_in : List ℕ → ℕ → ℕ
word_in kept i = cond (ltb i kept_words) (get_or kept i 0) 0

-- the part at position j of its order, and that part's parameters
abbrev pub kept_part : List ℕ → ℕ → ℕ → ℕ
kept_part kept s j = word_in kept (order_place + (kept_start kept s + j))

abbrev pub kept_own : List ℕ → ℕ → ℕ → ℕ
kept_own kept s j = word_in kept (own_place + (kept_start kept s + j))

-- ---- what the words say
-- the first n schemas of a task are kept
pub record PartsKept (t : Task) (n : ℕ) (kept : List ℕ) : Type 0 where
  pub long : length kept ≡ kept_words
  pub start : (s : ℕ) → s ≤ n → kept_start kept s ≡ first_atom t s
  pub first : (s : ℕ) → s ≤ n → kept_first kept s ≡ first_of t s
  pub pair : (s : ℕ) → s ≤ n → kept_pair kept s ≡ first_pair t s
  pub taken : (s : ℕ) → s < n → order_of (schema_at t s) ≡ Some (orders t s)
  pub count : (s : ℕ) → s < n → kept_count kept s ≡ length (orders t s)
  pub part : (s j : ℕ) → s < n → j < length (orders t s) → kept_part kept s j ≡ get_or (orders t s) j 0
  pub params : (s j x : ℕ) → s < n → j < length (orders t s) →
      member (kept_own kept s j) x ≡ has (schema_at t s) x (get_or (orders t s) j 0)

-- an order of schema s: how many parts it has, and at each position the parameters of its part
pub record ParamsKept (t : Task) (s : ℕ) (o kept : List ℕ) : Type 0 where
  pub count : kept_count kept s ≡ length o
  pub params : (j x : ℕ) → j < length o → member (kept_own kept s j) x ≡ has (schema_at t s) x (get_or o j 0)

-- a table, and one schema of it, when all are kept
pub record SchemaKept (w : List ℕ) (s : ℕ) (kept : List ℕ) : Type 0 where
  pub table : is_table w ≡ true
  pub known : s < length (task_of w).schemas
  pub all : PartsKept (task_of w) (length (task_of w).schemas) kept
