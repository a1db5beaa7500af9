-- What the functions that write the split promise: the words that each one puts, over what it is handed. No promise of
-- an entry point cites these.
use Rattle.std.specs.Prelude.{ℕ, ◌+◌, ◌-◌, ◌*◌, ◌≤◌, ◌<◌, ◌≡◌, Bool, not, ◌&&◌, List, [], ◌∷◌, ◌++◌, map, length, get_or, replicate, eqb}
use Rattle.std.specs.Prelude.{Option, None, Some}
use Rattle.std.specs.Bool.{then_some}
use Rattle.words.specs.Lists.{filter, concat_map, up_to}
use Rattle.task.specs.Layout.{Head, head_block, head_in}
use Rattle.task.specs.Task.{Atom, Pair, Task, precondition, addition, deletion}
use Rattle.task.specs.Limits.{most_atoms, most_parameters, atom_size}
use Rattle.task.specs.Table.{atom_in, atom_words, pair_words, task_of, arities_in}
use Rattle.task.specs.Run.{of_role, schema_at}
use Rattle.arcs.specs.Stretches.{IsStretch, stretch_in, pair_stretch_in}
use Rattle.words.specs.Sets.{member, members, word_bits}
use Rattle.tokens.specs.Split.{has, orders, par_token, token, required, handed_on, lone}
use Rattle.tokens.specs.declared.part_atoms.PartPlace.{PartPlace}
use Rattle.tokens.specs.Kept.{kept_count, kept_own}
use Rattle.tokens.specs.Acceptance.{ParsHere}
use Rattle.tokens.specs.declared.measure.Sizes.{Sizes}
use Rattle.tokens.specs.declared.part_atoms.PartTokens.{PartTokens}
use Rattle.tokens.specs.declared.part_atoms.RoleTokens.{RoleTokens}

-- ---- a part's atoms, over the set of its parameters
-- a parameter's new number: how many of the set are below it
abbrev pub new_number : ℕ → ℕ → ℕ
new_number own x = length (members own x)

-- an old atom in role r, renumbered
abbrev pub renumbered : ℕ → ℕ → Atom → Atom
renumbered own r a = record { role = r; pred = a.pred; part = 0; args = map (new_number own) a.args }

-- those of some atoms that are in role r and part p
unfoldable pub old_in : ℕ → ℕ → ℕ → List Atom → List Atom
unfolding filter of_role members
old_in own r p atoms = map (renumbered own r) (filter (λ a. eqb p a.part) (of_role r atoms))

-- the par of parameter x, the predicate of par 0 being `par`, which is low enough that its number fits a word
abbrev pub par_bound : ℕ
par_bound = 1000

abbrev pub par_in : ℕ → ℕ → ℕ → ℕ → Atom
par_in own par r x = token r (par + x) (new_number own x ∷ [])

-- ---- a part's pairs, over the set of its parameters
-- "A part that has both parameters carries the line, renumbered"
abbrev pub carries : ℕ → Pair → Bool
carries own q = member own q.lower && member own q.higher

abbrev pub renumbered_pair : ℕ → Pair → Pair
renumbered_pair own q = record { lower = new_number own q.lower; higher = new_number own q.higher }

-- those of some pairs that a part carries
unfoldable pub carried_in : ℕ → List Pair → List Pair
unfolding filter members
carried_in own qs = map (renumbered_pair own) (filter (carries own) qs)

-- their words, of a table's pairs `from` to `to - 1`, under the part's number in the split
abbrev pub carried_words : List ℕ → ℕ → ℕ → ℕ → ℕ → List ℕ
carried_words w number own from to = concat_map (pair_words number) (carried_in own (pair_stretch_in w from to))

-- ---- the atoms of one role
-- of the atoms of a part's schema, whose roles ascend: atom i is the first that is in role r or a later one
pub record RoleBegins (w : List ℕ) (here : PartPlace) (r i : ℕ) : Type 0 where
  pub stretch : IsStretch w here.from here.to
  pub rise : (j k : ℕ) → here.from ≤ j → j ≤ k → k < here.to → (atom_in w j).role ≤ (atom_in w k).role
  pub from : here.from ≤ i
  pub within : i ≤ here.to
  pub before : (k : ℕ) → here.from ≤ k → k < i → (atom_in w k).role < r
  pub behind : (k : ℕ) → i ≤ k → k < here.to → r ≤ (atom_in w k).role

-- ---- a part's words
-- its old atoms of role r
abbrev pub old_words : List ℕ → PartPlace → ℕ → List ℕ
old_words w here r =
    concat_map (atom_words here.number) (old_in here.own r here.part.0 (stretch_in w here.from here.to))

-- the pars of the parameters in a set
abbrev pub par_words : PartPlace → ℕ → ℕ → List ℕ
par_words here r which =
    concat_map (atom_words here.number) (map (par_in here.own here.par r) (members which here.params))

-- the tokens of role r, if it has any: a bare token and pars
abbrev pub token_words : PartPlace → ℕ → Option RoleTokens → List ℕ
token_words here r None = []
token_words here r (Some tokens) = atom_words here.number (token r tokens.bare []) ++ par_words here r tokens.which

-- the old atoms of role r, then its tokens
abbrev pub role_words : List ℕ → PartPlace → ℕ → Option RoleTokens → List ℕ
role_words w here r tokens = old_words w here r ++ token_words here r tokens

-- of all three roles: the only part of a schema has tokens among its preconditions alone
abbrev pub part_words : List ℕ → PartPlace → PartTokens → List ℕ
part_words w here tokens =
    role_words w here precondition (Some (record { bare = tokens.required; which = tokens.pars.later })) ++
    (role_words w here addition
    (then_some (not tokens.lone) (record { bare = tokens.handed; which = tokens.pars.first })) ++
    role_words w here deletion
    (then_some (not tokens.lone) (record { bare = tokens.required; which = tokens.pars.last })))

-- the words that they take at most
abbrev pub most_part_words : ℕ
most_part_words = 3 * (atom_size * (most_atoms + 1 + most_parameters))

-- ---- a part of the task
-- the place of the part of schema s at position j of its order
pub record PlaceOf (w : List ℕ) (s j : ℕ) (here : PartPlace) : Type 0 where
  pub roles : RoleBegins w here precondition here.from
  pub short : here.to - here.from ≤ most_atoms
  pub atoms : stretch_in w here.from here.to ≡ (schema_at (task_of w) s).atoms
  pub part : here.part.0 ≡ get_or (orders (task_of w) s) j 0
  pub params : here.params ≡ (schema_at (task_of w) s).params
  pub few : here.params ≤ most_parameters
  pub own : (x : ℕ) → member here.own x ≡ has (schema_at (task_of w) s) x (get_or (orders (task_of w) s) j 0)
  pub par : here.par ≡ par_token (task_of w) 0
  pub low : here.par < par_bound

-- the tokens of that part: which it requires and hands on, whether it is the only one, and its pars
pub record TokensOf (t : Task) (s j : ℕ) (r : PartTokens) : Type 0 where
  pub alone : r.lone ≡ lone t s (orders t s) j
  pub before : r.required ≡ required t s (orders t s) j
  pub behind : r.handed ≡ handed_on t s (orders t s) j
  pub pars : ParsHere t s (orders t s) j r.pars

-- ---- the head, the arities, and the parameter counts of the parts
-- the counts of the split, by its sizes
abbrev pub split_head : List ℕ → Sizes → Head
split_head w r = record {
  objects = (head_in w).objects;
  predicates = (head_in w).predicates + 1 + r.later + r.pars;
  schemas = r.schemas;
  schema_atoms = r.atoms;
  initial_atoms = (head_in w).initial_atoms + 1;
  goal_atoms = (head_in w).goal_atoms + 1;
  pairs = r.pairs;
}

abbrev pub count_words : List ℕ → Sizes → List ℕ
count_words w r = head_block (split_head w r)

-- the old arities, 0 for procnone and each do, 1 for each par
abbrev pub arity_words : List ℕ → Sizes → List ℕ
arity_words w r = arities_in w ++ (replicate (r.later + 1) 0 ++ replicate r.pars 1)

-- the size of the set kept for position j of schema s, and the sizes for all its parts
abbrev pub set_size : List ℕ → ℕ → ℕ → ℕ
set_size kept s j = length (members (kept_own kept s j) word_bits)

abbrev pub set_sizes : List ℕ → ℕ → List ℕ
set_sizes kept s = map (set_size kept s) (up_to (kept_count kept s))
