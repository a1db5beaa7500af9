-- What stands before the schemas of the split and behind them. A list's line is longer by each number that comes behind
-- a first one; so the arities' line is that of the task and a number for each new predicate, and a `part` line one 0
-- and those behind it. Initial and goal atoms gain procnone.
use Prim.Native.Nat.{ℕ, zero, suc, ◌+◌, ◌-◌, ◌*◌, ◌^◌, ◌≤◌, ◌<◌}
use Prim.Native.String.{String}
use mathlib.Core.Path.{◌≡◌, refl, sym, ◌∙◌, ap, ap₂}
use mathlib.Core.Bool.{true}
use mathlib.Core.List.{List, [], ◌∷◌, ◌++◌, map, append_assoc}
use native.Mathlib.Nat.{suc-mul}
use native.Mathlib.Omega.{arith}
use native.Mathlib.Numerals.{add-one}
use lib.ListN.{length, replicate, length-append}
use borrow.Author.Tests.{leb-true}
use Rattle.words.proofs.Lists.{map-append}
use Rattle.task.specs.Limits.{head_words, most_predicates}
use Rattle.task.specs.Layout.{head_in}
use Rattle.task.specs.Task.{Fact, Task, initial, goal_role, well_formed}
use Rattle.task.specs.Table.{task_of}
use Rattle.task.proofs.Tests.{task-tests}
use Rattle.text.specs.Lines.{bytes, equals, colon, comma, newline, digits, commaed, entry_bytes, line}
use Rattle.text.specs.Text.{Line, task_line, objects_line, arity_line, init_line, goal_line, write_line, fact_entry}
use Rattle.text.specs.TableLines.{spaced, facts_text, longest_text}
use Rattle.text.proofs.DigitSteps.{at-most-five}
use Rattle.text.proofs.AtomLines.{spaced-words, commaed-within}
use Rattle.text.proofs.LongestText.{text-most}
use Rattle.tokens.specs.Split.{later_parts, par_count, procnone, free, token, split_task}
use Rattle.tokens.proofs.Predicates.{predicate-count}
use Rattle.forecast.specs.Counting.{lines_bytes, row_line, part_line_bytes, head_bytes, facts_bytes}
use Rattle.forecast.proofs.SplitText.{lines-append, lines-one, text-is}

-- ---- a list's line
-- each number behind a first one takes a comma and its digits
commaed-more : (xs : List ℕ) (m d : ℕ) → 1 ≤ length xs →
    length (commaed (xs ++ replicate m d)) ≡ length (commaed xs) + m * length (comma ∷ digits d)
unfolding commaed
commaed-more [] m d some = absurd (omega arith)
commaed-more (x ∷ []) zero d some = omega arith
commaed-more (x ∷ []) (suc m) d some =
    omega (
      arith,
      length-append (digits x) (comma ∷ commaed (d ∷ replicate m d)),
      commaed-more (d ∷ []) m d (omega arith),
      suc-mul m (length (comma ∷ digits d)),
    )
commaed-more (x ∷ y ∷ xs) m d some =
    omega (
      arith,
      length-append (digits x) (comma ∷ commaed (y ∷ (xs ++ replicate m d))),
      length-append (digits x) (comma ∷ commaed (y ∷ xs)),
      commaed-more (y ∷ xs) m d (omega arith),
    )

line-long : (key : String) (body : List ℕ) → length (line key body) ≡ length (bytes key) + (length body + 2)
unfolding line
line-long key body =
    omega (
      arith,
      length-append (bytes key) (equals ∷ (body ++ (newline ∷ []))),
      length-append body (newline ∷ []),
    )

list-more : (key : String) (xs : List ℕ) (m d : ℕ) → 1 ≤ length xs →
    length (line key (commaed (xs ++ replicate m d))) ≡
    length (line key (commaed xs)) + m * length (comma ∷ digits d)
list-more key xs m d some =
    omega (
      arith,
      line-long key (commaed (xs ++ replicate m d)),
      line-long key (commaed xs),
      commaed-more xs m d some,
    )

-- a 0 for each of n atoms: one, and those behind it
pub part-line-is : (n : ℕ) → 1 ≤ n →
    part_line_bytes n ≡ length (line "part" (digits 0)) + (n - 1) * length (comma ∷ digits 0)
unfolding part_line_bytes commaed
part-line-is zero some = absurd (omega arith)
part-line-is (suc m) some =
    let e : suc m - 1 ≡ m = omega arith in
    list-more "part" (0 ∷ []) m 0 (omega arith) ∙
    ap (λ (k : ℕ). length (line "part" (digits 0)) + k * length (comma ∷ digits 0)) (sym e)

-- ---- the head
head-lines : (t : Task) → head_bytes t ≡
    length (line "task" (digits 1)) + length (line "objects" (digits t.objects)) +
    length (line "arity" (commaed t.arities))
unfolding head_bytes write_line
head-lines t =
    let objects : List Line = objects_line t.objects ∷ [] in
    let arities : List Line = arity_line t.arities ∷ [] in
    omega (
      arith,
      lines-append (task_line 1 ∷ []) (objects ++ arities),
      lines-append objects arities,
      lines-one (task_line 1),
      lines-one (objects_line t.objects),
      lines-one (arity_line t.arities),
    )

-- the arities are the old ones, 0 for procnone and each do, 1 for each par
pub head-is : (t : Task) (later pars : ℕ) → later ≡ later_parts t.schemas → pars ≡ par_count t →
    1 ≤ length t.arities →
    head_bytes (split_task t) ≡
    length (line "task" (digits 1)) + length (line "objects" (digits t.objects)) +
    (length (line "arity" (commaed t.arities)) + (later + 1) * length (comma ∷ digits 0) +
    pars * length (comma ∷ digits 1))
unfolding split_task
head-is t later pars e f some =
    let bare = t.arities ++ replicate (later + 1) 0 in
    let all : (split_task t).arities ≡ bare ++ replicate pars 1 =
    ap₂ (λ (m n : ℕ). t.arities ++ (replicate m 0 ++ replicate n 1)) (ap suc (sym e) ∙ sym (add-one later)) (sym f) ∙
    sym (append_assoc t.arities (replicate (later + 1) 0) (replicate pars 1)) in
    omega (
      arith,
      head-lines (split_task t),
      ap (λ (ns : List ℕ). length (line "arity" (commaed ns))) all,
      list-more "arity" bare pars 1 (omega (arith, length-append t.arities (replicate (later + 1) 0))),
      list-more "arity" t.arities (later + 1) 0 some,
    )

-- it is short
pub head-fits : (t : Task) → well_formed t ≡ true → later_parts t.schemas ≤ most_predicates →
    par_count t ≤ most_predicates → head_bytes (split_task t) < 2 ^ 64
unfolding bytes
head-fits t well few-later few-pars =
    let u = split_task t in
    omega (
      arith,
      head-lines u,
      line-long "task" (digits 1),
      at-most-five 1,
      line-long "objects" (digits u.objects),
      at-most-five u.objects,
      line-long "arity" (commaed u.arities),
      commaed-within 5 (length u.arities) u.arities (omega arith) (λ n i. at-most-five n),
      predicate-count t,
      leb-true (length t.arities) most_predicates (task-tests t well).preds,
    )

-- the task's arities, as they stand in a table
pub arities-spaced : (w : List ℕ) → spaced w head_words 1 (head_in w).predicates ≡ (task_of w).arities
unfolding task_of
arities-spaced w = spaced-words w head_words (head_in w).predicates

-- ---- initial and goal atoms
pub facts-table : (w : List ℕ) → length (facts_text w) ≡ facts_bytes (task_of w)
unfolding facts_text facts_bytes lines_bytes
facts-table w = refl

module _ (t : Task) where
  init-said : write_line (init_line (fact_entry (free t))) ≡ row_line (token initial (procnone t) [])
  unfolding write_line fact_entry free row_line token
  init-said = refl

  goal-said : write_line (goal_line (fact_entry (free t))) ≡ row_line (token goal_role (procnone t) [])
  unfolding write_line fact_entry free row_line token
  goal-said = refl

  pub facts-are : facts_bytes (split_task t) ≡
      facts_bytes t + length (row_line (token initial (procnone t) [])) +
      length (row_line (token goal_role (procnone t) []))
  unfolding facts_bytes split_task
  facts-are =
      let first : Fact → Line = λ f. init_line (fact_entry f) in
      let last : Fact → Line = λ f. goal_line (fact_entry f) in
      let inits = map first t.init in
      let goals = map last t.goal in
      omega (
        arith,
        ap₂ (λ (is gs : List Line). lines_bytes (is ++ gs)) (map-append first t.init (free t ∷ []))
            (map-append last t.goal (free t ∷ [])),
        lines-append (inits ++ (first (free t) ∷ [])) (goals ++ (last (free t) ∷ [])),
        lines-append inits (first (free t) ∷ []),
        lines-append goals (last (free t) ∷ []),
        lines-append inits goals,
        lines-one (first (free t)) ∙ ap length init-said,
        lines-one (last (free t)) ∙ ap length goal-said,
      )

  free-short : length (entry_bytes (fact_entry (free t))) ≤ 6
  unfolding entry_bytes fact_entry free
  free-short = omega (arith, length-append (digits (procnone t)) (colon ∷ []), at-most-five (procnone t))

  -- the task's are a part of its text, and procnone's two lines are short
  pub facts-fit : well_formed t ≡ true → facts_bytes (split_task t) < 2 ^ 64
  unfolding longest_text write_line bytes
  facts-fit well =
      let free = entry_bytes (fact_entry (free t)) in
      omega (
        arith,
        facts-are,
        text-is t,
        text-most t well,
        ap length init-said,
        ap length goal-said,
        line-long "init" free,
        line-long "goal" free,
        free-short,
      )
