-- `task::table::is_table` meets its contract.
-- The tests of WordTables.antt in turn: each that fails refutes a table, and where the others are passed, the words
-- behind the last atom decide.
use Prim.Native.Nat.{ℕ, ◌+◌, ◌-◌}
use mathlib.Core.Path.{◌≡◌, sym, ◌∙◌, ap, ap₂, subst₂}
use mathlib.Core.Bool.{Bool, true}
use mathlib.Core.List.{List}
use native.Mathlib.Omega.{arith}
use borrow.Author.Rules.{rules}
use Rattle.words.specs.Lists.{every}
use Rattle.task.specs.Layout.{head_in, goals_from, atom_total, words_used, atom_base}
use Rattle.task.specs.Limits.{table_words}
use Rattle.task.specs.Table.{pair_number_in, schema_number_in}
use Rattle.task.specs.WordTests.{count_tests, arities_fit, in_file_order, facts_words_fit, Roomy}
use Rattle.words.specs.Words.{zeros_at}
use Rattle.task.proofs.Counts.{counted, roomy}
use Rattle.task.proofs.FileOrder.{pair-numbers, atom-numbers}
use Rattle.task.proofs.WordTables.{not-passed, rest-decides}
use Rattle.task.proofs.table.is_table.Statement.{statement}
use Rattle.task.proofs.table.is_table.Tie as tie

-- the function's start, seen from behind each test
abbrev start₁ : tie.After-counts_fit → tie.Start
start₁ c = c.before.before

abbrev start₂ : tie.After-arities_fit → tie.Start
start₂ c = start₁ c.before.before

abbrev start₃ : tie.After-numbers_fit → tie.Start
start₃ c = start₂ c.before.before.before.before

abbrev start₄ : tie.After-numbers_fit-2 → tie.Start
start₄ c = start₃ c.before.before.before.before

abbrev start₅ : tie.After-schemas_fit → tie.Start
start₅ c = start₄ c.before.before

abbrev start₆ : tie.After-facts_fit → tie.Start
start₆ c = start₅ c.before.before.before

abbrev start₇ : tie.After-facts_fit-2 → tie.Start
start₇ c = start₆ c.before.before.before

abbrev words : tie.Start → List ℕ
words c = c.args.table.now

-- the numbers of the pairs, and those of the atoms
abbrev PairNumbers : List ℕ → Bool
PairNumbers w = in_file_order (pair_number_in w) (head_in w).schemas (head_in w).pairs

abbrev AtomNumbers : List ℕ → Bool
AtomNumbers w = in_file_order (schema_number_in w) (head_in w).schemas (head_in w).schema_atoms

pairs-are : (c : tie.After-numbers_fit) → c.numbers_fit.result ≡ PairNumbers (words (start₃ c))
pairs-are c =
    let w = words (start₃ c) in
    subst₂ (λ (number : ℕ → ℕ) (n : ℕ). c.numbers_fit.result ≡ in_file_order number (head_in w).schemas n)
    (pair-numbers w c.pairs_base.result c.pairs_base.ensures.0)
    c.word-pairs.ensures.0 c.numbers_fit.ensures

atoms_are : (c : tie.After-numbers_fit-2) → c.numbers_fit-2.result ≡ AtomNumbers (words (start₄ c))
atoms_are c =
    let w = words (start₄ c) in
    subst₂ (λ (number : ℕ → ℕ) (n : ℕ). c.numbers_fit-2.result ≡ in_file_order number (head_in w).schemas n)
    (atom-numbers w c.rows_base.result c.rows_base.ensures.0)
    c.word-atoms.ensures.0 c.numbers_fit-2.ensures

-- the tests that are passed, and what they leave known
counts-pass : (c : tie.Else-not-counts_fit) → every (count_tests (words (start₁ c.before))) ≡ true
counts-pass c = sym c.counts_fit.ensures ∙ c.if-not-counts_fit.false

arities-pass : (c : tie.Else-not-arities_fit) → arities_fit (words (start₂ c.before)) ≡ true
arities-pass c = sym c.arities_fit.ensures ∙ c.if-not-arities_fit.false

pairs-pass : (c : tie.Else-not-numbers_fit) → PairNumbers (words (start₃ c.before)) ≡ true
pairs-pass c = sym (pairs-are c.before) ∙ c.if-not-numbers_fit.false

atoms-pass : (c : tie.Else-not-numbers_fit-2) → AtomNumbers (words (start₄ c.before)) ≡ true
atoms-pass c = sym (atoms_are c.before) ∙ c.if-not-numbers_fit-2.false

room : (c : tie.Else-not-arities_fit) → Roomy (words (start₂ c.before))
room c =
    let start = start₂ c.before in
    roomy (words start) start.requires (counts-pass c.before.before) (arities-pass c)

room₃ : (c : tie.Else-not-numbers_fit) → Roomy (words (start₃ c.before))
room₃ c = room c.before.before.before.before

room₅ : (c : tie.Else-not-schemas_fit) → Roomy (words (start₅ c.before))
room₅ c = room₃ c.before.before.before.before.before.before

-- the atom count, seen from behind the test of the schemas
abbrev atoms : tie.Else-not-schemas_fit → tie.After-word-atoms
atoms c = c.before.before.before.before.before

-- the initial atoms, and the goal atoms behind them
abbrev Initial : List ℕ → Bool
Initial w = facts_words_fit w 3 (head_in w).schema_atoms (head_in w).initial_atoms

abbrev Goal : List ℕ → Bool
Goal w = facts_words_fit w 4 (goals_from w) (head_in w).goal_atoms

initial-is : (c : tie.After-facts_fit) → c.facts_fit.result ≡ Initial (words (start₆ c))
initial-is c =
    let k = atoms c.before.before in
    let from = k.word-atoms.result in
    let n : from + c.word.result - from ≡ (head_in (words (start₆ c))).initial_atoms = omega
    (arith, c.word.ensures.0) in
    c.facts_fit.ensures ∙ ap₂ (facts_words_fit (words (start₆ c)) 3) k.word-atoms.ensures.0 n

-- where the initial atoms end
abbrev facts-end : tie.After-word → ℕ
facts-end c = (atoms c.before).word-atoms.result + c.word.result

facts-end-is : (c : tie.After-facts_fit) → facts-end c.before ≡ goals_from (words (start₆ c))
facts-end-is c = omega (arith, c.word.ensures.0, (atoms c.before.before).word-atoms.ensures.0)

goal-is : (c : tie.After-facts_fit-2) → c.facts_fit-2.result ≡ Goal (words (start₇ c))
goal-is c =
    let w = words (start₇ c) in
    let initial = c in
    let from = facts-end initial.before.before.before.before in
    let n : from + c.word-2.result - from ≡ (head_in w).goal_atoms = omega
    (arith, c.word-2.ensures.0) in
    c.facts_fit-2.ensures ∙ ap₂ (facts_words_fit w 4) (facts-end-is initial.before.before.before) n

-- where the atoms end
end_is : (c : tie.After-facts_fit-2) →
    facts-end c.before.before.before.before + c.word-2.result ≡ atom_total (words (start₇ c))
end_is c = omega (arith, c.word-2.ensures.0, facts-end-is c.before.before.before)

counts-fit-requires : tie.Need-counts_fit-requires
unfolding table_words
counts-fit-requires c κs = omega arith

returns : tie.Need-returns-then-not-counts_fit
returns c =
    not-passed (words (start₁ c.before)) _ _ (λ p. p.counts) c.counts_fit.ensures c.if-not-counts_fit.true-raw

arities-fit-requires : tie.Need-arities_fit-requires
unfolding table_words
arities-fit-requires c κs = let k = counted (words (start₁ c.before)) (counts-pass c) in omega arith

returns-2 : tie.Need-returns-then-not-arities_fit
returns-2 c =
    not-passed (words (start₂ c.before)) _ _ (λ p. p.arities) c.arities_fit.ensures c.if-not-arities_fit.true-raw

word-requires : tie.Need-word-pairs-requires
word-requires c κs = let r = room c in omega arith

pairs-base-requires : tie.Need-pairs_base-requires
pairs-base-requires c κs = let r = room c.before in omega arith

numbers-fit-requires : tie.Need-numbers_fit-requires
numbers-fit-requires c κs =
    let r = room c.before.before in
    (omega arith, omega (arith, c.pairs_base.ensures.0, c.word-pairs.ensures.0))

returns-3 : tie.Need-returns-then-not-numbers_fit
returns-3 c =
    not-passed (words (start₃ c.before)) _ _ (λ p. p.pair-numbers) (pairs-are c.before) c.if-not-numbers_fit.true-raw

word-requires-2 : tie.Need-word-atoms-requires
word-requires-2 c κs = let r = room₃ c in omega arith

rows-base-requires : tie.Need-rows_base-requires
rows-base-requires c κs = let r = room₃ c.before in omega arith

numbers-fit-requires-2 : tie.Need-numbers_fit-requires-2
numbers-fit-requires-2 c κs =
    let r = room₃ c.before.before in
    (omega arith, omega (arith, c.rows_base.ensures.0, c.word-atoms.ensures.0))

returns-4 : tie.Need-returns-then-not-numbers_fit-2
returns-4 c =
    not-passed (words (start₄ c.before)) _ _ (λ p. p.numbers) (atoms_are c.before) c.if-not-numbers_fit-2.true-raw

schemas-fit-requires : tie.Need-schemas_fit-requires
schemas-fit-requires c κs =
    let pairs = c in
    (room₃ pairs.before.before.before.before, (pairs-pass pairs.before.before.before.before, atoms-pass c))

returns-5 : tie.Need-returns-then-not-schemas_fit
returns-5 c =
    not-passed (words (start₅ c.before)) _ _ (λ p. p.schemas) c.schemas_fit.ensures c.if-not-schemas_fit.true-raw

word-requires-3 : tie.Need-word-requires
word-requires-3 c κs = let r = room₅ c in omega arith

add-facts : tie.Need-overflow_add-facts
add-facts c = omega (arith, c.word.ensures.1, (atoms c.before).word-atoms.ensures.1)

facts-fit-requires : tie.Need-facts_fit-requires
facts-fit-requires c κs =
    let r = room₅ c.before in
    (r, (omega arith, omega (arith, c.word.ensures.0, (atoms c.before).word-atoms.ensures.0)))

returns-6 : tie.Need-returns-then-not-facts_fit
returns-6 c =
    not-passed (words (start₆ c.before)) _ _ (λ p. p.init) (initial-is c.before) c.if-not-facts_fit.true-raw

word-requires-4 : tie.Need-word-requires-2
word-requires-4 c κs = let r = room₅ c.before.before.before in omega arith

add-end : tie.Need-overflow_add-end
add-end c =
    let k = c in
    omega (arith, c.word-2.ensures.1, k.word.ensures.1, (atoms k.before.before.before.before).word-atoms.ensures.1)

facts-fit-requires-2 : tie.Need-facts_fit-requires-2
facts-fit-requires-2 c κs =
    let initial = c in
    let r = room₅ initial.before.before.before.before in
    (r, (omega arith, omega (arith, c.word-2.ensures.0, facts-end-is initial.before.before)))

returns-7 : tie.Need-returns-then-not-facts_fit-2
returns-7 c =
    not-passed (words (start₇ c.before)) _ _ (λ p. p.goal) (goal-is c.before) c.if-not-facts_fit-2.true-raw

atom-base-requires : tie.Need-atom_base-requires
atom-base-requires c κs =
    let r = room₅ c.before.before.before.before.before.before in
    (omega arith, omega (arith, end_is c.before))

-- the words used end where the atoms do
used : (c : tie.After-atom_base) → c.atom_base.result ≡ words_used (words (start₇ c.before.before))
unfolding atom_base
used c = omega (arith, c.atom_base.ensures, end_is c.before.before)

many-zeros-requires : tie.Need-many_zeros-requires
unfolding table_words
many-zeros-requires c κs =
    let behind = c in
    let r = room₅ behind.before.before.before.before.before.before.before in
    (omega (arith, used c), (start₇ behind.before.before).requires)

returns-8 : tie.Need-returns
unfolding table_words
returns-8 c =
    let behind = c in
    let initial = behind in
    let schemas = initial in
    let numbers = schemas in
    let pairs = numbers in
    let arities = pairs in
    let start = start₇ behind.before.before.before in
    c.many_zeros.ensures ∙ (ap (λ (n : ℕ). zeros_at (words start) n (table_words - n)) (used c.before) ∙
    rest-decides (words start) start.requires (λ h. record {
      counts = counts-pass arities.before.before.before.before.before.before.before.before.before.before.before.before.before.before.before.before.before.before.before.before;
      arities = arities-pass arities.before.before.before.before.before.before.before.before.before.before.before.before.before.before.before.before.before.before;
      pair-numbers = pairs-pass pairs.before.before.before.before.before.before.before.before.before.before.before.before.before.before;
      numbers = atoms-pass numbers.before.before.before.before.before.before.before.before.before.before;
      schemas = sym schemas.schemas_fit.ensures ∙ schemas.if-not-schemas_fit.false;
      init = sym (initial-is initial.before.before.before.before.before.before) ∙ initial.if-not-facts_fit.false;
      goal = sym (goal-is behind.before.before.before) ∙ behind.if-not-facts_fit-2.false;
      rest = h;
    }))

pub is_table_spec : {M : Type 1} → statement M
is_table_spec =
    tie.close
    (tie.spec counts-fit-requires returns arities-fit-requires returns-2 word-requires pairs-base-requires
    numbers-fit-requires returns-3 word-requires-2 rows-base-requires numbers-fit-requires-2 returns-4
    schemas-fit-requires returns-5 word-requires-3 add-facts (λ c. search rules) facts-fit-requires returns-6
    word-requires-4 add-end (λ c. search rules) facts-fit-requires-2 returns-7 atom-base-requires many-zeros-requires
    returns-8)
