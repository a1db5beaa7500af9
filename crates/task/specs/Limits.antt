-- The limits of document 01, 'Task table', each under one name.
use Rattle.std.specs.Prelude.{ℕ}

-- "objects N (1 to 1000), predicates P (1 to 400), schemas (0 to 200)"
abbrev pub most_objects : ℕ
most_objects = 1000

abbrev pub most_predicates : ℕ
most_predicates = 400

abbrev pub most_schemas : ℕ
most_schemas = 200

-- "schema atoms (at most 1000), initial atoms (at most 500), goal atoms (at most 100)"
abbrev pub most_schema_atoms : ℕ
most_schema_atoms = 1000

abbrev pub most_initial : ℕ
most_initial = 500

abbrev pub most_goal : ℕ
most_goal = 100

-- "P arities (0 to 4), then each schema's parameter count (0 to 12)"
abbrev pub most_arity : ℕ
most_arity = 4

abbrev pub most_parameters : ℕ
most_parameters = 12

-- "A schema has 1 to 64 atoms .. It has 1 to 16 parts"
abbrev pub most_atoms : ℕ
most_atoms = 64

abbrev pub most_parts : ℕ
most_parts = 16

-- pairs of parameters that must differ (document 02, note 4): "at most 200", of all schemas together
abbrev pub most_pairs : ℕ
most_pairs = 200

-- "a table then takes 14,007 words"
abbrev pub table_length : ℕ
table_length = 14007

-- the same, shut, for lists of so many words: a list function would count a numeral down
unfoldable pub table_words : ℕ
table_words = table_length

-- a head of six counts, and that of the pairs "in a seventh head word"
abbrev pub head_words : ℕ
head_words = 7

-- "a block of three words per pair", "all atoms in file order, 8 words each"
abbrev pub pair_size : ℕ
pair_size = 3

abbrev pub atom_size : ℕ
atom_size = 8

-- "A step is 13 words", a state is kept as "5-word records"
abbrev pub step_size : ℕ
step_size = 13

abbrev pub record_size : ℕ
record_size = 5
