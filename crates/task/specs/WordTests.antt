-- Being a table, tested word by word: the tests of 'Task table' that inner functions make, one for each of them.
-- proofs/WordTables.antt shows that together they say `is_table`.
use Rattle.std.specs.Prelude.{ℕ, ◌+◌, ◌-◌, ◌%◌, ◌≤◌, ◌<◌, ◌≡◌, Bool, true, ◌&&◌, List, [], ◌∷◌, map, length, eqb, ltb, leb}
use Rattle.words.specs.Lists.{all, any, filter, up_to, up_from}
use Rattle.task.specs.Layout.{head_in, words_used, arity_in, params_in, atom_base}
use Rattle.task.specs.Limits.{most_objects, most_predicates, most_schemas, most_schema_atoms, most_initial, most_goal}
use Rattle.task.specs.Limits.{most_arity, most_parts, most_pairs, table_length}
use Rattle.task.specs.Task.{Atom, Fact, Pair, args_fit, same_atom, part_count, no_gap, schema_fits, ascending}
use Rattle.task.specs.Task.{pair_fits, pairs_ascend}
use Rattle.words.specs.Words.{words_at}
use Rattle.task.specs.Table.{pair_in, pair_number_in, atom_in, schema_number_in, fact_in, arities_in, naming}
use Rattle.words.specs.Words.{zeros_at}
use Rattle.words.specs.Sets.{member}

-- "objects N (1 to 1000), predicates P (1 to 400), schemas (0 to 200), schema atoms (at most 1000), initial atoms (at
-- most 500), goal atoms (at most 100)"; pairs "at most 200"
unfoldable pub count_tests : List ℕ → List Bool
count_tests w =
    leb 1 (head_in w).objects ∷
    leb (head_in w).objects most_objects ∷
    leb 1 (head_in w).predicates ∷
    leb (head_in w).predicates most_predicates ∷
    leb (head_in w).schemas most_schemas ∷
    leb (head_in w).schema_atoms most_schema_atoms ∷
    leb (head_in w).initial_atoms most_initial ∷
    leb (head_in w).goal_atoms most_goal ∷
    leb (head_in w).pairs most_pairs ∷ []

-- "P arities (0 to 4)"
unfoldable pub arities_fit : List ℕ → Bool
unfolding all up_to arity_in
arities_fit w = all (λ p. leb (arity_in w p) most_arity) (up_to (head_in w).predicates)

-- "Unused words .. are 0": the argument words of atom i behind its predicate's arity
unfoldable pub unused_zero : List ℕ → ℕ → Bool
unfolding zeros_at atom_base arity_in atom_in
unused_zero w i =
    let arity = arity_in w (atom_in w i).pred in
    zeros_at w (atom_base w i + 4 + arity) (most_arity - arity)

-- atom i has a known predicate, arguments below the bound, and unused words 0
unfoldable pub arg_words_fit : List ℕ → ℕ → ℕ → Bool
unfolding args_fit words_at atom_in unused_zero
arg_words_fit w bound i = args_fit (arities_in w) bound (atom_in w i).pred (atom_in w i).args && unused_zero w i

-- "in file order": the rows of each schema follow those of the schema before it. Each of n rows, by the schema's number
-- in it, names one of the schemas, and none lower than the row before it
unfoldable pub in_file_order : (ℕ → ℕ) → ℕ → ℕ → Bool
unfolding all up_to
in_file_order number schemas n = all (λ i. ltb (number i) schemas && leb (number (i - 1)) (number i)) (up_to n)

-- "no atom twice in one role": atom i stands again behind it, before an end
unfoldable pub stands_again : List ℕ → ℕ → ℕ → Bool
unfolding any up_from same_atom atom_in
stands_again w i end = any (λ j. same_atom (atom_in w i) (atom_in w j)) (up_from (i + 1) (end - (i + 1)))

-- the number that stands for a predicate in a set, which has room for 64
abbrev pub predicate_bit : ℕ → ℕ
predicate_bit p = p % 64

-- a set has the predicates of the atoms behind atom i, before an end, that have its role
abbrev pub HoldsBehind : List ℕ → ℕ → ℕ → ℕ → Type 0
HoldsBehind w i end set = (j : ℕ) → i < j → j < end → (atom_in w i).role ≡ (atom_in w j).role →
    member set (predicate_bit (atom_in w j).pred) ≡ true

-- the n atoms from atom i on
abbrev pub atoms_in : List ℕ → ℕ → ℕ → List Atom
atoms_in w i n = map (atom_in w) (up_from i n)

abbrev pub facts_in : List ℕ → ℕ → ℕ → List Fact
facts_in w i n = map (fact_in w) (up_from i n)

-- "It has 1 to 16 parts, numbered without a gap"
unfoldable pub parts_fit : List Atom → Bool
unfolding part_count no_gap
parts_fit atoms = leb (part_count atoms) most_parts && no_gap atoms

-- the n pairs from pair i on
abbrev pub pairs_in : List ℕ → ℕ → ℕ → List Pair
pairs_in w i n = map (pair_in w) (up_from i n)

-- the pairs of a schema with so many parameters
unfoldable pub pairs_fit : ℕ → List Pair → Bool
unfolding all pair_fits pairs_ascend
pairs_fit params qs = all (pair_fits params) qs && pairs_ascend qs

-- the pairs and the atoms at these indices, with the parameter count of schema s, are a schema in words
unfoldable pub schema_words_fit : List ℕ → ℕ → List ℕ → List ℕ → Bool
unfolding all schema_fits words_at pair_in atom_in unused_zero
schema_words_fit w s qs is =
    schema_fits (arities_in w) (record { params = params_in w s; pairs = map (pair_in w) qs; atoms = map (atom_in w) is }) &&
    all (unused_zero w) is

-- the indices of the pairs, and of the atoms, of schema s
unfoldable pub pair_indices_of : List ℕ → ℕ → List ℕ
unfolding filter up_to pair_number_in
pair_indices_of w s = naming (pair_number_in w) (head_in w).pairs s

unfoldable pub indices_of : List ℕ → ℕ → List ℕ
unfolding filter up_to schema_number_in
indices_of w s = naming (schema_number_in w) (head_in w).schema_atoms s

-- the pairs and the atoms that name each schema are one
unfoldable pub schemas_fit : List ℕ → Bool
unfolding all up_to schema_words_fit pair_indices_of indices_of
schemas_fit w = all (λ s. schema_words_fit w s (pair_indices_of w s) (indices_of w s)) (up_to (head_in w).schemas)

-- "schema and part of roles 3 and 4, are 0"
unfoldable pub fact_words_fit : List ℕ → ℕ → ℕ → Bool
unfolding arg_words_fit schema_number_in atom_in
fact_words_fit w r i =
    eqb (schema_number_in w i) 0 && (eqb (atom_in w i).role r &&
    (eqb (atom_in w i).part 0 && arg_words_fit w (head_in w).objects i))

-- the n atoms from i on are ground atoms of role r, strictly ascending
unfoldable pub facts_words_fit : List ℕ → ℕ → ℕ → ℕ → Bool
unfolding all up_from fact_words_fit ascending fact_in
facts_words_fit w r i n = all (fact_words_fit w r) (up_from i n) && ascending (facts_in w i n)

-- what the tests of the counts and the arities leave known: every word of a pair and of an atom lies in the table
pub record Roomy (w : List ℕ) : Type 0 where
  pub inside : words_used w ≤ length w
  pub few : words_used w ≤ table_length
  pub arities : (p : ℕ) → p < (head_in w).predicates → arity_in w p ≤ most_arity

-- each atom from one index to another has a known predicate
abbrev pub KnownIn : List ℕ → ℕ → ℕ → Type 0
KnownIn w from to = (i : ℕ) → from ≤ i → i < to → (atom_in w i).pred < (head_in w).predicates

-- the roles of the atoms from one index to another never fall
abbrev pub RolesRise : List ℕ → ℕ → ℕ → Type 0
RolesRise w from to = (i j : ℕ) → from ≤ i → i ≤ j → j < to → (atom_in w i).role ≤ (atom_in w j).role

-- of n rows, by the schema's number in each, `end` is where those of schema s, which begin at `start`, end
pub record RunOf (number : ℕ → ℕ) (n s start end : ℕ) : Type 0 where
  pub from : start ≤ end
  pub to : end ≤ n
  pub inside : (i : ℕ) → start ≤ i → i < end → number i ≡ s
  pub beyond : end < n → number end ≡ s → ⊥
