-- `forecast::bytes::head_bytes` meets its contract: its three lines are the pieces that the split's head is the sum of,
-- the last one with a number for each new predicate. The head is short, so no sum and no product wraps.
use Rattle.forecast.proofs.bytes.head_bytes.Tie as tie
use Prim.Native.Nat.{ℕ, ◌+◌, ◌*◌, ◌^◌, ◌<◌}
use mathlib.Core.Path.{◌≡◌, sym, ◌∙◌, ap, ap₂}
use mathlib.Core.Bool.{true}
use mathlib.Core.List.{List, ◌∷◌}
use native.Mathlib.Omega.{arith}
use borrow.Author.Rules.{rules}
use borrow.Author.Tests.{leb-true}
use lib.ListN.{length}
use Rattle.task.specs.Limits.{head_words}
use Rattle.task.specs.Task.{Task, well_formed}
use Rattle.task.specs.Table.{task_of}
use Rattle.task.proofs.Tests.{task-tests}
use Rattle.task.proofs.Tables.{of-table}
use Rattle.task.proofs.TableReads.{counts-inside}
use Rattle.text.specs.Lines.{bytes, comma, digits, commaed, line}
use Rattle.text.specs.TableLines.{spaced}
use Rattle.text.proofs.WholeText.{arities-inside}
use Rattle.tokens.specs.Split.{split_task}
use Rattle.forecast.specs.Counting.{head_bytes}
use Rattle.forecast.proofs.HeadText.{head-is, head-fits, arities-spaced}
use Rattle.forecast.proofs.bytes.head_bytes.Statement.{statement}

-- ---- the places, one from the next
abbrev start : tie.After-further_size → tie.Start
start c = c.before.before.before.before

abbrev bared : tie.After-number_line_size → tie.After-further_size
bared c = c.before.before.before.before.before

abbrev titled : tie.After-number_line_size-2 → tie.After-number_line_size
titled c = c.before.before.before.before

abbrev counted : tie.After-list_line_size → tie.After-number_line_size-2
counted c = c.before.before.before

abbrev task : tie.Start → Task
task s = task_of s.args.table.now

-- ---- the pieces
abbrev objects_bytes : tie.Start → ℕ
objects_bytes s = length (line "objects" (digits (task s).objects))

abbrev arity_bytes : tie.Start → ℕ
arity_bytes s = length (line "arity" (commaed (task s).arities))

abbrev bare_bytes : tie.Start → ℕ
bare_bytes s = (s.args.counted.later + 1) * length (comma ∷ digits 0)

abbrev par_bytes : tie.Start → ℕ
par_bytes s = s.args.counted.pars * length (comma ∷ digits 1)

well : (s : tie.Start) → well_formed (task s) ≡ true
well s = (of-table s.args.table.now s.requires.0).0

-- their sum
sum_is : (s : tie.Start) →
    head_bytes (split_task (task s)) ≡
    length (line "task" (digits 1)) + objects_bytes s + (arity_bytes s + bare_bytes s + par_bytes s)
sum_is s =
    let told = s.requires.1.0 in
    head-is (task s) s.args.counted.later s.args.counted.pars told.later told.pars
    (leb-true 1 (length (task s).arities) (task-tests (task s) (well s)).some-pred)

short : (s : tie.Start) → head_bytes (split_task (task s)) < 2 ^ 64
short s =
    let told = s.requires.1.0 in
    let few = s.requires.1.1 in
    head-fits (task s) (well s) (omega (arith, told.later, few.0)) (omega (arith, told.pars, few.1))

fits : (s : tie.Start) →
    length (line "task" (digits 1)) + objects_bytes s + (arity_bytes s + bare_bytes s + par_bytes s) < 2 ^ 64
fits s = omega (arith, sum_is s, short s)

-- ---- what is counted of each
bare-counted : (c : tie.After-further_size) →
    ((start c).args.counted.later + 1) * c.further_size.result ≡ bare_bytes (start c)
bare-counted c = ap (λ (n : ℕ). ((start c).args.counted.later + 1) * n) c.further_size.ensures

pars-counted : (c : tie.After-further_size-2) →
    (start c.before).args.counted.pars * c.further_size-2.result ≡ par_bytes (start c.before)
pars-counted c = ap (λ (n : ℕ). (start c.before).args.counted.pars * n) c.further_size-2.ensures

task-counted : (c : tie.After-number_line_size) → c.number_line_size.result ≡ length (line "task" (digits 1))
unfolding line bytes
task-counted c = c.number_line_size.ensures

objects-counted : (c : tie.After-number_line_size-2) →
    c.number_line_size-2.result ≡ objects_bytes (start (bared (titled c)))
unfolding line bytes task_of
objects-counted c =
    c.number_line_size-2.ensures ∙ ap (λ (n : ℕ). length (line "objects" (digits n))) c.word_at.ensures

arities-are : (c : tie.After-further_size) →
    spaced (start c).args.table.now head_words 1 c.word-predicates.result ≡ (task (start c)).arities
arities-are c =
    let w = (start c).args.table.now in
    ap (spaced w head_words 1) c.word-predicates.ensures.0 ∙ arities-spaced w

arity-counted : (c : tie.After-list_line_size) →
    c.list_line_size.result ≡ arity_bytes (start (bared (titled (counted c))))
unfolding line bytes
arity-counted c =
    c.list_line_size.ensures ∙
    ap (λ (ns : List ℕ). length (line "arity" (commaed ns))) (arities-are (bared (titled (counted c))))

-- ---- the needs
below : {m n : ℕ} → m ≡ n → n < 2 ^ 64 → m < 2 ^ 64
below e l = omega arith

word-requires : tie.Need-word-predicates-requires
word-requires c κs = omega (arith, counts-inside c.args.table.now c.requires.0)

mul-bare : tie.Need-overflow_mul-bare
mul-bare c = record { fits = below (bare-counted c) (omega (arith, fits (start c))) }

mul-pars : tie.Need-overflow_mul-pars
mul-pars c = record { fits = below (pars-counted c.before) (omega (arith, fits (start c.before.before))) }

number-line-size-requires : tie.Need-number_line_size-requires
unfolding line bytes
number-line-size-requires c κs = omega (arith, fits (start c.before.before.before.before))

word-at-requires : tie.Need-word_at-requires
word-at-requires c κs =
    let s = start (bared c.before.before) in
    omega (arith, counts-inside s.args.table.now s.requires.0)

number-line-size-requires-2 : tie.Need-number_line_size-requires-2
unfolding line bytes task_of
number-line-size-requires-2 c κs =
    omega (
      arith,
      fits (start (bared c.before.before.before)),
      ap (λ (n : ℕ). length (line "objects" (digits n))) c.word_at.ensures,
    )

add-result : tie.Need-overflow_add-result
add-result c =
    omega (arith, fits (start (bared (titled c))), task-counted (titled c), objects-counted c)

list-line-size-requires : tie.Need-list_line_size-requires
unfolding line bytes
list-line-size-requires c κs =
    let b = bared (titled c.before.before) in
    let s = start b in (
      λ k l. arities-inside s.args.table.now s.requires.0 k (omega (arith, b.before.before.word-predicates.ensures.0)),
      omega (arith, fits s, ap (λ (ns : List ℕ). length (line "arity" (commaed ns))) (arities-are b)),
    )

add-result-2 : tie.Need-overflow_add-result-2
add-result-2 c =
    let b = bared (titled (counted c)) in
    record { fits = below (ap₂ ◌+◌ (arity-counted c) (bare-counted b)) (omega (arith, fits (start b))) }

arities-counted : (c : tie.After-list_line_size) →
    let b = bared (titled (counted c)) in
    c.list_line_size.result + ((start b).args.counted.later + 1) * b.further_size.result +
    (start b).args.counted.pars * (titled (counted c)).before.before.before.further_size-2.result ≡
    arity_bytes (start b) + bare_bytes (start b) + par_bytes (start b)
arities-counted c =
    let b = bared (titled (counted c)) in
    ap₂ ◌+◌ (ap₂ ◌+◌ (arity-counted c) (bare-counted b)) (pars-counted (titled (counted c)).before.before.before.before)

add-result-3 : tie.Need-overflow_add-result-3
add-result-3 c =
    record { fits = below (arities-counted c) (omega (arith, fits (start (bared (titled (counted c)))))) }

returns : tie.Need-returns
returns c =
    ap₂ ◌+◌ (ap₂ ◌+◌ (task-counted (titled (counted c))) (objects-counted (counted c))) (arities-counted c) ∙
    sym (sum_is (start (bared (titled (counted c)))))

add-result-4 : tie.Need-overflow_add-result-4
add-result-4 c = record { fits = below (returns c) (short (start (bared (titled (counted c))))) }

pub head_bytes_spec : {M : Type 1} → statement M
head_bytes_spec =
    tie.close
    (tie.spec word-requires (λ c. search rules) (λ c κs. search rules) mul-bare (λ c κs. search rules) mul-pars
    number-line-size-requires word-at-requires number-line-size-requires-2 add-result list-line-size-requires
    add-result-2 add-result-3 add-result-4 returns)
