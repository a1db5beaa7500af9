-- The layout of a table, 'Task table': its counts by name, and where each block of words behind them begins. What reads
-- or writes a table names its places by these.
use Rattle.std.specs.Prelude.{ℕ, ◌+◌, ◌*◌, List, [], ◌∷◌, get_or}
use Rattle.task.specs.Limits.{head_words, pair_size, atom_size}

-- "objects N .., predicates P .., schemas .., schema atoms .., initial atoms .., goal atoms ..", and the pairs' "count
-- in a seventh head word" (document 02, note 4): the head of a table
pub record Head : Type 0 where
  pub objects : ℕ
  pub predicates : ℕ
  pub schemas : ℕ
  pub schema_atoms : ℕ
  pub initial_atoms : ℕ
  pub goal_atoms : ℕ
  pub pairs : ℕ

-- its words
abbrev pub head_block : Head → List ℕ
head_block h =
    h.objects ∷ h.predicates ∷ h.schemas ∷ h.schema_atoms ∷ h.initial_atoms ∷ h.goal_atoms ∷ h.pairs ∷ []

-- the head that some words have; words that are not there count as 0
abbrev pub head_in : List ℕ → Head
head_in w = record {
  objects = get_or w 0 0;
  predicates = get_or w 1 0;
  schemas = get_or w 2 0;
  schema_atoms = get_or w 3 0;
  initial_atoms = get_or w 4 0;
  goal_atoms = get_or w 5 0;
  pairs = get_or w 6 0;
}

-- "all atoms in file order": behind those of the schemas the initial ones, then the goal's
abbrev pub goals_from : List ℕ → ℕ
goals_from w = (head_in w).schema_atoms + (head_in w).initial_atoms

abbrev pub atom_total : List ℕ → ℕ
atom_total w = goals_from w + (head_in w).goal_atoms

-- "P arities .., then each schema's parameter count", the pairs "after the parameter counts", then the atoms: where the
-- parameter counts begin, where the pairs and the atoms do, and which words come before "Zeros fill the rest"
abbrev pub params_base : List ℕ → ℕ
params_base w = head_words + (head_in w).predicates

abbrev pub pairs_base : List ℕ → ℕ
pairs_base w = params_base w + (head_in w).schemas

abbrev pub rows_base : List ℕ → ℕ
rows_base w = pairs_base w + pair_size * (head_in w).pairs

abbrev pub words_used : List ℕ → ℕ
words_used w = rows_base w + atom_size * atom_total w

-- the arity of predicate p, and the parameter count of schema s
unfoldable pub arity_in : List ℕ → ℕ → ℕ
arity_in w p = get_or w (head_words + p) 0

abbrev pub params_in : List ℕ → ℕ → ℕ
params_in w s = get_or w (params_base w + s) 0

-- where pair i begins
unfoldable pub pair_base : List ℕ → ℕ → ℕ
pair_base w i = pairs_base w + pair_size * i

-- where the initial and goal atoms begin, and where atom i does
abbrev pub facts_base : List ℕ → ℕ
facts_base w = rows_base w + atom_size * (head_in w).schema_atoms

unfoldable pub atom_base : List ℕ → ℕ → ℕ
atom_base w i = rows_base w + atom_size * i
