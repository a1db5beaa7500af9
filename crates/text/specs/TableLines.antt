-- The lines of a table by its words, as the writer's contracts name them.
use Rattle.std.specs.Prelude.{ℕ, zero, suc, ◌+◌, ◌*◌, ◌≤◌, ◌<◌, ◌≡◌, List, [], ◌∷◌, ◌++◌, map, length, get_or}
use Rattle.words.specs.Lists.{up_to, concat_map}
use Rattle.task.specs.Layout.{head_in, arity_in}
use Rattle.task.specs.Limits.{head_words, pair_size, atom_size, most_arity}
use Rattle.words.specs.Words.{words_at}
use Rattle.task.specs.Table.{task_of}
use Rattle.text.specs.declared.writer.Rows.{Rows}
use Rattle.text.specs.Lines.{bytes, equals, Entry, digits, commaed, entry_bytes, line}
use Rattle.text.specs.Text.{Key, pre, add, del, init, goal, key_name, init_line, goal_line, write_line, schema_lines}
use Rattle.text.specs.Text.{fact_entry}

-- n words of a table, each `step` words behind the one before
unfoldable pub spaced : List ℕ → ℕ → ℕ → ℕ → List ℕ
unfolding up_to
spaced w from step n = map (λ k. get_or w (from + step * k) 0) (up_to n)

-- the atom whose words begin at b lies in the table, and so does its predicate's arity, which keeps its limit
pub record AtomInside (w : List ℕ) (b : ℕ) : Type 0 where
  pub inside : b + atom_size ≤ length w
  pub known : head_words + get_or w (b + 2) 0 < length w
  pub short : arity_in w (get_or w (b + 2) 0) ≤ most_arity

-- "An atom is predicate, colon, arguments", of the atom whose words begin at b, with n arguments
unfoldable pub entry_at : List ℕ → ℕ → ℕ → Entry
unfolding words_at
entry_at w b n = record { head = get_or w (b + 2) 0; list = words_at w (b + 4) n }

-- "role (0 precondition, 1 add, 2 delete, 3 initial, 4 goal)"
unfoldable pub atom_key : ℕ → Key
atom_key zero = pre
atom_key (suc zero) = add
atom_key (suc (suc zero)) = del
atom_key (suc (suc (suc zero))) = init
atom_key (suc (suc (suc (suc r)))) = goal

-- the key of an atom's line by the atom's role, and its =
unfoldable pub key_bytes : ℕ → List ℕ
unfolding bytes key_name atom_key
key_bytes role = bytes (key_name (atom_key role)) ++ (equals ∷ [])

-- the line of the atom whose words begin at b, with n arguments
unfoldable pub row_text : List ℕ → ℕ → ℕ → List ℕ
unfolding line key_name atom_key entry_bytes entry_at
row_text w b n = line (key_name (atom_key (get_or w (b + 1) 0))) (entry_bytes (entry_at w b n))

-- the same with as many arguments as its predicate has
unfoldable pub atom_text : List ℕ → ℕ → List ℕ
unfolding row_text arity_in
atom_text w b = row_text w b (arity_in w (get_or w (b + 2) 0))

-- the lines of n atoms, whose words begin at b
unfoldable pub atoms_text : List ℕ → ℕ → ℕ → List ℕ
unfolding concat_map atom_text up_to
atoms_text w b n = concat_map (λ k. atom_text w (b + atom_size * k)) (up_to n)

-- the `differ` lines of m pairs, whose words begin at p
unfoldable pub pairs_text : List ℕ → ℕ → ℕ → List ℕ
unfolding concat_map line commaed spaced up_to
pairs_text w p m = concat_map (λ k. line "differ" (commaed (spaced w (p + pair_size * k + 1) 1 2))) (up_to m)

-- "`schema` (parameter count), `pre`, `add`, `del` lines, `part` (a part for each atom)", of a schema with m pairs,
-- whose words begin at p, and n atoms, whose words begin at b
unfoldable pub schema_text : List ℕ → ℕ → ℕ → ℕ → ℕ → ℕ → List ℕ
unfolding line digits commaed pairs_text atoms_text spaced
schema_text w params p m b n =
    line "schema" (digits params) ++
    (pairs_text w p m ++ (atoms_text w b n ++ line "part" (commaed (spaced w (b + 3) atom_size n))))

-- the same, of the rows that the code found of a schema; they lie in the table
abbrev pub schema_text_of : List ℕ → ℕ → Rows → List ℕ
schema_text_of w params rows = schema_text w params rows.pair rows.pairs rows.atom rows.atoms

pub record RowsInside (w : List ℕ) (rows : Rows) : Type 0 where
  pub pairs : rows.pair + pair_size * rows.pairs ≤ length w
  pub atom : rows.atom ≤ length w
  pub atoms : (k : ℕ) → k < rows.atoms → AtomInside w (rows.atom + atom_size * k)

-- "`task=1`, `objects`, `arity` (list)"
unfoldable pub head_text : List ℕ → List ℕ
unfolding line digits commaed spaced
head_text w =
    line "task" (digits 1) ++
    (line "objects" (digits (head_in w).objects) ++
    line "arity" (commaed (spaced w head_words 1 (head_in w).predicates)))

-- the lines of all schemas of a table
unfoldable pub schemas_text : List ℕ → List ℕ
unfolding concat_map write_line schema_lines task_of
schemas_text w = concat_map (λ s. concat_map write_line (schema_lines s)) (task_of w).schemas

-- of `left` rows of a size, whose words begin at b, the first n are those of a schema
pub record SchemaRun (w : List ℕ) (size b left schema n : ℕ) : Type 0 where
  pub within : n ≤ left
  pub same : (k : ℕ) → k < n → get_or w (b + size * k) 0 ≡ schema
  pub stops : n < left → get_or w (b + size * n) 0 ≡ schema → ⊥

-- how many initial and goal atoms a table has
unfoldable pub fact_count : List ℕ → ℕ
fact_count w = (head_in w).initial_atoms + (head_in w).goal_atoms

-- the lines of its initial atoms, then those of its goal atoms
unfoldable pub facts_text : List ℕ → List ℕ
unfolding concat_map write_line fact_entry task_of
facts_text w =
    concat_map write_line
    (map (λ f. init_line (fact_entry f)) (task_of w).init ++ map (λ f. goal_line (fact_entry f)) (task_of w).goal)

-- no text of a task is longer: 7 and 13 bytes for `task` and `objects`, 806 for 400 arities, 15 for each of 200
-- schemas, 13 for each of 200 pairs, 20 for each of 1,000 atoms and 3 for its part, 25 for each of 600 initial and goal
-- atoms, 6 for `end`; shut, since a list function would count a numeral down
unfoldable pub longest_text : ℕ
longest_text = 44432
