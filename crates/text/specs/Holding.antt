-- How the code holds the draft of a task while it reads: counts beside the table, and the words that the table has so
-- far. And what the code's turn at a line says of the definitions' turn.
use Rattle.text.specs.declared.draft.Kind.TheVariants as kind
use Rattle.text.specs.declared.draft.Turn.TheVariants as turn
use Rattle.text.specs.declared.keys.Key.TheVariants as code
use Rattle.std.specs.Prelude.{ℕ, suc, ◌+◌, ◌*◌, ◌≤◌, ◌<◌, ◌≡◌, true, List, [], ◌∷◌, ◌++◌, map, length, get_or, ltb, leb}
use Rattle.std.specs.Prelude.{Option, Result, Ok, Err}
use Rattle.task.specs.declared.refusals.Reason.{Reason}
use Rattle.task.specs.Answers.{reason_number}
use Rattle.task.specs.Limits.{table_words, most_initial, most_goal, most_objects, most_predicates, most_schemas}
use Rattle.task.specs.Limits.{most_schema_atoms, most_arity, most_parameters, most_atoms, most_parts, most_pairs, head_words}
use Rattle.task.specs.Limits.{pair_size, atom_size}
use Rattle.words.specs.Lists.{all, concat_map, joined}
use Rattle.task.specs.Task.{Task, Fact, Pair, args_fit, schema_atoms, schema_pairs, precondition, addition, deletion}
use Rattle.task.specs.Task.{initial, goal_role, no_schema}
use Rattle.task.specs.Task.{with_pairs, with_atoms}
use Rattle.task.specs.Table.{rows_from, pair_words, atom_words, fact_words, pairs_from, schemas_from}
use Rattle.text.specs.declared.cursor.Cursor.{Cursor}
use Rattle.text.specs.Lines.{Taken, Entry}
use Rattle.text.specs.Reading.{Reading, go_on, refuse, refused_at, at_end, line_at}
use Rattle.text.specs.Text.{Line, between, Draft, role_phase, at_phase, with_schemas, with_parts}
use Rattle.text.specs.Text.{add_pair, close_schema, take_line, Key, init, goal, init_line, goal_line, Phase, in_init}
use Rattle.text.specs.Text.{in_goal}
use Rattle.text.specs.Text.{with_init, with_goal, role_key, at_task, at_arity, in_differ, in_del}
use Rattle.text.specs.ReadCode.{rest, Standing, NextLine, first_key, phase_number, bare_atom, key_number, number_of}
use Rattle.text.specs.ReadCode.{role_place, may_stand}
use Rattle.text.specs.declared.draft.Counts.{Counts}
use Rattle.text.specs.declared.draft.Facts.{Facts}
use Rattle.text.specs.declared.draft.Kind.{Kind}
use Rattle.text.specs.declared.draft.Turn.{Turn}
use Rattle.text.specs.declared.keys.Key.{Key as Code}

-- ---- counts
-- the limits of document 01
pub record Few (c : Counts) : Type 0 where
  pub predicates : c.predicates ≤ most_predicates
  pub schemas : c.schemas ≤ most_schemas
  pub params : c.params ≤ most_parameters
  pub objects : c.objects ≤ most_objects
  pub atoms : c.atoms ≤ most_atoms
  pub total : c.closed + c.atoms ≤ most_schema_atoms
  pub initial : c.initial ≤ most_initial
  pub goal : c.goal ≤ most_goal
  pub pairs : c.pairs + c.apart ≤ most_pairs

-- nothing is read yet
abbrev pub no_counts : Counts
no_counts = record {
  phase = first_key at_task;
  objects = 0;
  predicates = 0;
  schemas = 0;
  params = 0;
  closed = 0;
  atoms = 0;
  initial = 0;
  goal = 0;
  pairs = 0;
  apart = 0;
}

-- where the pairs begin: behind the counts, room for all parameter counts that may come, and the arities; and where the
-- rows of the atoms do: behind room for all pairs that may come
abbrev pub pairs_at : ℕ → ℕ
pairs_at predicates = head_words + most_schemas + predicates

abbrev pub rows_at : ℕ → ℕ
rows_at predicates = head_words + most_schemas + pair_size * most_pairs + predicates

-- where the next pair comes
abbrev pub pair_at : Counts → ℕ
pair_at c = pairs_at c.predicates + pair_size * (c.pairs + c.apart)

-- where the rows of the schema that is being read begin, and where the next atom's row comes
abbrev pub first_row : Counts → ℕ
first_row c = rows_at c.predicates + atom_size * c.closed

abbrev pub row_at : Counts → ℕ
row_at c = rows_at c.predicates + atom_size * (((c.closed + c.atoms) + c.initial) + c.goal)

-- ---- a draft in counts and words
-- the words of the atoms that are read: of the schemas before, of the one that is being read, the initial ones, the
-- goal's
unfoldable pub row_blocks : Draft → List (List ℕ)
unfolding rows_from concat_map atom_words fact_words
row_blocks d =
    schemas_from 0 d.task.schemas ∷
    concat_map (atom_words (length d.task.schemas)) d.current.atoms ∷
    concat_map (fact_words initial) d.task.init ∷
    concat_map (fact_words goal_role) d.task.goal ∷ []

abbrev pub rows_of : Draft → List ℕ
rows_of d = joined (row_blocks d)

-- the words of the pairs that are read: of the schemas before, and of the one that is being read
unfoldable pub pairs_of : Draft → List ℕ
unfolding rows_from concat_map pair_words
pairs_of d = pairs_from 0 d.task.schemas ++ concat_map (pair_words (length d.task.schemas)) d.current.pairs

-- "Fixed order": what cannot have come yet, by the number of the place in the order
pub record Order (d : Draft) (phase : ℕ) : Type 0 where
  pub no-arity : phase ≤ phase_number at_arity → d.task.arities ≡ []
  pub no-schema : phase ≤ phase_number at_arity → d.task.schemas ≡ []
  pub not-open : phase ≤ phase_number at_arity → d.current ≡ no_schema
  pub closed : phase_number between ≤ phase → d.current ≡ no_schema
  pub no-init : phase ≤ phase_number between → d.task.init ≡ []
  pub no-goal : phase ≤ phase_number in_init → d.task.goal ≡ []
  pub room : phase_number in_differ ≤ phase → phase ≤ phase_number in_del → length d.task.schemas < most_schemas

pub record Holds (d : Draft) (w : List ℕ) (c : Counts) : Type 0 where
  pub phase : number_of c.phase ≡ phase_number d.phase
  pub objects : c.objects ≡ d.task.objects
  pub predicates : c.predicates ≡ length d.task.arities
  pub schemas : c.schemas ≡ length d.task.schemas
  pub params : c.params ≡ d.current.params
  pub closed : c.closed ≡ schema_atoms d.task.schemas
  pub atoms : c.atoms ≡ length d.current.atoms
  pub initial : c.initial ≡ length d.task.init
  pub goal : c.goal ≡ length d.task.goal
  pub pairs : c.pairs ≡ schema_pairs d.task.schemas
  pub apart : c.apart ≡ length d.current.pairs
  pub few : Few c
  pub order : Order d (number_of c.phase)
  pub low : all (λ n. leb n most_arity) d.task.arities ≡ true
  pub fit : all (λ a. args_fit d.task.arities d.current.params a.pred a.args) d.current.atoms ≡ true
  pub init-fit : all (λ f. args_fit d.task.arities d.task.objects f.pred f.args) d.task.init ≡ true
  pub goal-fit : all (λ f. args_fit d.task.arities d.task.objects f.pred f.args) d.task.goal ≡ true
  pub long : table_words ≤ length w
  pub arities-stand : Standing w head_words d.task.arities
  pub params-stand : Standing w (head_words + length d.task.arities) (map (λ s. s.params) d.task.schemas)
  pub pairs-stand : Standing w (pairs_at (length d.task.arities)) (pairs_of d)
  pub rows-stand : Standing w (rows_at (length d.task.arities)) (rows_of d)
  pub rows-length : length (rows_of d) ≡ atom_size * (((c.closed + c.atoms) + c.initial) + c.goal)

-- some draft is held so
pub record Drafted (w : List ℕ) (c : Counts) : Type 0 where
  pub draft : Draft
  pub holds : Holds draft w c

-- "words past 14,007 are never touched"
pub record Touched (w after : List ℕ) : Type 0 where
  pub size : length after ≡ length w
  pub beyond : (j : ℕ) → table_words ≤ j → get_or after j 0 ≡ get_or w j 0

-- ---- turns
-- the fixed order allows a line with this key here
abbrev pub Allows : Counts → Key → Type 0
Allows c k = may_stand (number_of c.phase) (key_number k) ≡ true

abbrev pub Next : Type 0
Next = Draft → List ℕ → Reading Task

-- a line that is refused
abbrev pub Refuses : Draft → Option (Taken Line) → ℕ → Type 0
Refuses d l k = (n : ℕ) (next : Next) → line_at n (take_line d) l next ≡ refused_at k n

-- a line behind which reading goes on, with a draft that the code holds again
pub record GoesOn (text : List ℕ) (from : Cursor) (d : Draft) (l : Option (Taken Line)) (w : List ℕ)
    (read : Counts) (at : Cursor) : Type 0 where
  pub draft : Draft
  pub is : (n : ℕ) (next : Next) → line_at n (take_line d) l next ≡ next draft (rest text at)
  pub holds : Holds draft w read
  pub line : NextLine text from at

-- a line that ends reading
pub record Finishes (text : List ℕ) (from : Cursor) (d : Draft) (l : Option (Taken Line)) (at : Cursor) : Type 0 where
  pub is : (n : ℕ) (next : Next) → line_at n (take_line d) l next ≡ at_end d.task (suc n) (rest text at)
  pub line : NextLine text from at
  pub closed : phase_number between ≤ phase_number d.phase

-- what the code does at a line whose body begins at a cursor, with the words before it and after it
abbrev pub Turned : List ℕ → Cursor → Draft → Option (Taken Line) → List ℕ → Result Turn Reason → List ℕ → Type 0
Turned text from d l w (Ok (turn.GoOn read at)) after = GoesOn text from d l after read at
Turned text from d l w (Ok (turn.Finish at)) after = Finishes text from d l at × (after ≡ w)
Turned text from d l w (Err r) after = Refuses d l (reason_number r)

-- the turn at a line with this body: it is taken by every draft that the code may hold
abbrev pub Takes : (List ℕ → Option (Taken Line)) → List ℕ → Cursor → Counts → List ℕ → Result Turn Reason → List ℕ →
    Type 0
Takes body text from c w r after = (d : Draft) → Holds d w c → Turned text from d (body (rest text from)) w r after

-- what a check answers
abbrev pub Passed : Type 0
Passed = Result (Unit {0}) Reason

-- a line whose check passes, and the draft that it leaves, which the code holds again
pub record Grows (d : Draft) (l : Line) (read : Counts) (after : List ℕ) : Type 0 where
  pub draft : Draft
  pub is : take_line d l ≡ go_on draft
  pub holds : Holds draft after read

-- what the code's check of a line says, with the counts and the words behind it
abbrev pub Checked : Draft → Line → Counts → Passed → List ℕ → Type 0
Checked d l read (Ok done) after = Grows d l read after
Checked d l read (Err r) after = take_line d l ≡ refuse (reason_number r)

-- "An atom is predicate, colon, arguments"
abbrev pub entry_of : ℕ → List ℕ → Entry
entry_of p args = record { head = p; list = args }

-- ---- pairs
-- a pair by its two numbers
abbrev pub pair_of : List ℕ → Pair
pair_of ns = record { lower = get_or ns 0 0; higher = get_or ns 1 0 }

-- the draft and the counts with one pair more
unfoldable pub with_pair : Draft → Pair → Draft
with_pair d q = record {
  phase = in_differ;
  task = d.task;
  current = with_pairs d.current (d.current.pairs ++ (q ∷ []));
}

abbrev pub one_pair_more : Counts → Counts
one_pair_more c = record {
  phase = first_key in_differ;
  objects = c.objects;
  predicates = c.predicates;
  schemas = c.schemas;
  params = c.params;
  closed = c.closed;
  atoms = c.atoms;
  initial = c.initial;
  goal = c.goal;
  pairs = c.pairs;
  apart = c.apart + 1;
}

-- the numbers of a `differ` line make one pair more, or are refused
abbrev pub PairTurn : Draft → List ℕ → Passed → Type 0
PairTurn d ns (Ok done) = (add_pair d ns ≡ go_on (with_pair d (pair_of ns))) × (length ns ≡ 2)
PairTurn d ns (Err r) = add_pair d ns ≡ refuse (reason_number r)

-- ---- atoms
-- an atom of a role may come, one of the schema that is being read
pub record InSchema (c : Counts) (role : ℕ) : Type 0 where
  pub known : role ≤ deletion
  pub allowed : Allows c (role_key role)

-- the draft and the counts with one atom more
unfoldable pub with_atom : Draft → ℕ → ℕ → List ℕ → Draft
with_atom d r p args = record {
  phase = role_phase r;
  task = d.task;
  current = with_atoms d.current (d.current.atoms ++ (bare_atom r p args ∷ []));
}

abbrev pub one_atom_more : Counts → ℕ → Counts
one_atom_more c r = record {
  phase = role_place r;
  objects = c.objects;
  predicates = c.predicates;
  schemas = c.schemas;
  params = c.params;
  closed = c.closed;
  atoms = c.atoms + 1;
  initial = c.initial;
  goal = c.goal;
  pairs = c.pairs;
  apart = c.apart;
}

-- ---- facts
-- the key of a kind of ground atoms, its line, and the atoms of the kind in a task
abbrev pub fact_key : Kind → Key
fact_key kind.Initial = init
fact_key kind.Goal = goal

-- the kind of ground atoms by the key that the code names, and the role of a schema's atom: each has one for every key
abbrev pub kind_of : Code → Kind
kind_of code.Init = kind.Initial
kind_of k = kind.Goal

abbrev pub role_of : Code → ℕ
role_of code.Pre = precondition
role_of code.Add = addition
role_of k = deletion

abbrev pub fact_line : Kind → Entry → Line
fact_line kind.Initial e = init_line e
fact_line kind.Goal e = goal_line e

abbrev pub facts_of : Kind → Task → List Fact
facts_of kind.Initial t = t.init
facts_of kind.Goal t = t.goal

-- the draft behind a line of a kind, with these atoms of the kind
abbrev pub with_facts : Kind → Draft → List Fact → Draft
with_facts kind.Initial d fs = at_phase in_init (with_init d.task fs)
with_facts kind.Goal d fs = at_phase in_goal (with_goal d.task fs)

-- "role (.. 3 initial, 4 goal)", "initial atoms (at most 500), goal atoms (at most 100)"
abbrev pub so_far : Counts → Kind → Facts
so_far c kind.Initial = record { role = initial; read = c.initial; most = most_initial }
so_far c kind.Goal = record { role = goal_role; read = c.goal; most = most_goal }

-- the counts behind a line, with so many of either kind
abbrev pub with_counted : Counts → Phase → ℕ → ℕ → Counts
with_counted c p inits goals = record {
  phase = first_key p;
  objects = c.objects;
  predicates = c.predicates;
  schemas = c.schemas;
  params = c.params;
  closed = c.closed;
  atoms = c.atoms;
  initial = inits;
  goal = goals;
  pairs = c.pairs;
  apart = c.apart;
}

abbrev pub one_fact_more : Counts → Kind → Counts
one_fact_more c kind.Initial = with_counted c in_init (c.initial + 1) c.goal
one_fact_more c kind.Goal = with_counted c in_goal c.initial (c.goal + 1)

-- ---- parts
-- the draft whose current schema is closed with its parts
unfoldable pub with_closed : Draft → List ℕ → Draft
unfolding at_phase with_schemas with_parts
with_closed d ps = at_phase between (with_schemas d.task (d.task.schemas ++
    (with_atoms d.current (with_parts d.current.atoms ps) ∷ [])))

-- the parts close the schema, or are refused
abbrev pub PartsTurn : Draft → List ℕ → Passed → Type 0
PartsTurn d ps (Ok done) =
    (close_schema d ps ≡ go_on (with_closed d ps)) ×
    (length ps ≡ length d.current.atoms) ×
    (all (λ p. ltb p most_parts) ps ≡ true)
PartsTurn d ps (Err r) = close_schema d ps ≡ refuse (reason_number r)
