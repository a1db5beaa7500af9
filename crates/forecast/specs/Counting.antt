-- What the functions that count the split's text promise: the bytes of its lines, over what each is handed. No promise
-- of an entry point cites these.
use Rattle.std.specs.Prelude.{ℕ, cond, List, [], ◌∷◌, ◌++◌, map, length, replicate, eqb}
use Rattle.words.specs.Lists.{filter, concat_map}
use Rattle.words.specs.Sets.{members}
use Rattle.task.specs.Task.{Atom, Pair, Schema, Task, precondition, addition, deletion}
use Rattle.arcs.specs.Stretches.{stretch_in}
use Rattle.text.specs.Lines.{line, entry_bytes}
use Rattle.text.specs.Text.{Line, task_line, objects_line, arity_line, differ_line, part_line, init_line, goal_line, key_name}
use Rattle.text.specs.Text.{write_line, fact_entry, atom_entry, pair_list, schema_lines}
use Rattle.text.specs.TableLines.{atom_key}
use Rattle.tokens.specs.Split.{token}
use Rattle.tokens.specs.Writing.{renumbered, par_in, carried_in}
use Rattle.tokens.specs.declared.part_atoms.PartPlace.{PartPlace}
use Rattle.tokens.specs.declared.part_atoms.PartTokens.{PartTokens}

-- ---- lines
-- the bytes of some lines
unfoldable pub lines_bytes : List Line → ℕ
unfolding concat_map write_line
lines_bytes ls = length (concat_map write_line ls)

-- an atom's line, whatever its role: initial and goal atoms are those of roles 3 and 4
unfoldable pub row_line : Atom → List ℕ
unfolding line key_name atom_key entry_bytes atom_entry
row_line a = line (key_name (atom_key a.role)) (entry_bytes (atom_entry a))

-- the bytes of some atoms' lines
unfoldable pub atoms_bytes : List Atom → ℕ
unfolding concat_map row_line
atoms_bytes atoms = length (concat_map row_line atoms)

-- of a pair's line
unfoldable pub pair_bytes : Pair → ℕ
unfolding write_line
pair_bytes q = length (write_line (differ_line (pair_list q)))

-- of a `part` line with a 0 for each of n atoms
unfoldable pub part_line_bytes : ℕ → ℕ
unfolding write_line
part_line_bytes n = length (write_line (part_line (replicate n 0)))

-- of a schema, and of several
unfoldable pub schema_bytes : Schema → ℕ
unfolding lines_bytes schema_lines
schema_bytes s = lines_bytes (schema_lines s)

unfoldable pub schemas_bytes : List Schema → ℕ
unfolding lines_bytes concat_map schema_lines
schemas_bytes ss = lines_bytes (concat_map schema_lines ss)

-- ---- a part's schema, over the set of its parameters
-- those of some atoms that are in part p, renumbered
unfoldable pub old_of : ℕ → ℕ → List Atom → List Atom
unfolding filter members
old_of own p atoms = map (λ a. renumbered own a.role a) (filter (λ a. eqb p a.part) atoms)

abbrev pub old_here : List ℕ → PartPlace → List Atom
old_here w here = old_of here.own here.part.0 (stretch_in w here.from here.to)

-- the pars of role r of the parameters in a set
abbrev pub pars_here : PartPlace → ℕ → ℕ → List Atom
pars_here here r which = map (par_in here.own here.par r) (members which here.params)

-- procnone or a do of role r, and pars
abbrev pub tokens_here : PartPlace → ℕ → ℕ → ℕ → List Atom
tokens_here here r bare which = token r bare [] ∷ pars_here here r which

-- of all three roles: the only part of a schema has tokens among its preconditions alone
unfoldable pub part_tokens : PartPlace → PartTokens → List Atom
unfolding token members
part_tokens here tokens =
    tokens_here here precondition tokens.required tokens.pars.later ++
    cond tokens.lone []
    (tokens_here here addition tokens.handed tokens.pars.first ++
    tokens_here here deletion tokens.required tokens.pars.last)

-- the `differ` lines of those of some pairs that a part carries
unfoldable pub pairs_bytes : ℕ → List Pair → ℕ
unfolding lines_bytes carried_in
pairs_bytes own pairs = lines_bytes (map (λ q. differ_line (pair_list q)) (carried_in own pairs))

-- ---- what stands before the schemas and behind them
unfoldable pub head_bytes : Task → ℕ
unfolding lines_bytes
head_bytes t = lines_bytes (task_line 1 ∷ objects_line t.objects ∷ arity_line t.arities ∷ [])

unfoldable pub facts_bytes : Task → ℕ
unfolding lines_bytes fact_entry
facts_bytes t =
    lines_bytes (map (λ f. init_line (fact_entry f)) t.init ++ map (λ f. goal_line (fact_entry f)) t.goal)
