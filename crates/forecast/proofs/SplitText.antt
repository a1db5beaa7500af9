-- The bytes of a text add up: of lines one behind another, of schemas, which loops count part by part and schema by
-- schema, and of a whole task, whose text is its head, its schemas, its initial and goal atoms and its end. The text of
-- an accepted split is no longer than a table's, and no piece of it is longer than the whole.
use Prim.Native.Nat.{ℕ, zero, suc, ◌+◌, ◌^◌, ◌≤◌, ◌<◌}
use mathlib.Core.Path.{◌≡◌, sym, ◌∙◌, ap}
use mathlib.Core.List.{List, [], ◌∷◌, ◌++◌, map, append-nil}
use native.Mathlib.Omega.{arith}
use native.Mathlib.Decide.{dec_le}
use native.Mathlib.Numerals.{add-one}
use lib.ListN.{length, length-append}
use Rattle.words.specs.Lists.{concat_map, sum, up_to}
use Rattle.words.proofs.Lists.{append-concat_map, length-concat_map, map-map, sum-append}
use Rattle.words.proofs.Sums.{total, total-same, total-concat_map}
use Rattle.task.specs.Limits.{most_predicates}
use Rattle.task.specs.Task.{Schema, Task}
use Rattle.task.specs.Table.{task_of}
use Rattle.text.specs.Lines.{digits, line}
use Rattle.text.specs.Text.{Line, task_line, objects_line, arity_line, end_line, init_line, goal_line, write_line, fact_entry}
use Rattle.text.specs.Text.{schema_lines, task_lines, write}
use Rattle.text.specs.TableLines.{longest_text}
use Rattle.text.proofs.LongestText.{text-most}
use Rattle.tokens.specs.Split.{orders, split_schema, split_task}
use Rattle.tokens.specs.Acceptance.{AcceptedKept, part_schemas}
use Rattle.tokens.specs.declared.measure.Sizes.{Sizes}
use Rattle.tokens.proofs.SchemaRuns.{map_more}
use Rattle.tokens.proofs.Splitting.{split-well, few-predicates}
use Rattle.forecast.specs.Counting.{lines_bytes, schema_bytes, schemas_bytes, head_bytes, facts_bytes}

-- ---- sums, one number further
module _ (f : ℕ → ℕ) where
  pub total-more : (k : ℕ) → total f (up_to (k + 1)) ≡ total f (up_to k) + f k
  unfolding sum
  total-more k = omega (arith, ap sum (map_more f k), sum-append (map f (up_to k)) (f k ∷ []))

  -- and no less than before
  pub total-rises : (k n : ℕ) → k ≤ n → total f (up_to k) ≤ total f (up_to n)
  total-rises k zero l = let e : k ≡ 0 = omega arith in omega (arith, ap (λ (i : ℕ). total f (up_to i)) e)
  total-rises k (suc n) l = elim (dec_le k n) [
    | yes m ↦ omega (arith, total-rises k n m, total-more n, ap (λ (i : ℕ). total f (up_to i)) (add-one n))
    | no m ↦ let e : k ≡ suc n = omega arith in omega (arith, ap (λ (i : ℕ). total f (up_to i)) e)
  ]

  -- one of them and those before are no more than all
  pub total-within : (k n : ℕ) → k < n → total f (up_to k) + f k ≤ total f (up_to n)
  total-within k n l = omega (arith, total-more k, total-rises (k + 1) n (omega arith))

-- ---- texts of pieces
pub pieces-append : {A : Type 0} (f : A → List ℕ) (xs ys : List A) →
    length (concat_map f (xs ++ ys)) ≡ length (concat_map f xs) + length (concat_map f ys)
pieces-append f xs ys = ap length (append-concat_map f xs ys) ∙ length-append (concat_map f xs) (concat_map f ys)

-- ---- lines
pub lines-append : (xs ys : List Line) → lines_bytes (xs ++ ys) ≡ lines_bytes xs + lines_bytes ys
unfolding lines_bytes
lines-append xs ys = pieces-append write_line xs ys

pub lines-one : (l : Line) → lines_bytes (l ∷ []) ≡ length (write_line l)
unfolding lines_bytes concat_map
lines-one l = ap length (append-nil (write_line l))

lines-total : (ls : List Line) → lines_bytes ls ≡ total (λ l. length (write_line l)) ls
unfolding lines_bytes
lines-total ls = length-concat_map write_line ls

-- ---- schemas
schemas-total : (ss : List Schema) → schemas_bytes ss ≡ total schema_bytes ss
unfolding schemas_bytes schema_bytes
schemas-total ss =
    lines-total (concat_map schema_lines ss) ∙
    total-concat_map (λ l. length (write_line l)) schema_lines ss ∙
    total-same (λ s. total (λ l. length (write_line l)) (schema_lines s)) schema_bytes ss
    (λ s i. sym (lines-total (schema_lines s)))

-- those of one part, and of all parts of schema s
abbrev pub part_bytes : Task → ℕ → ℕ → ℕ
part_bytes t s j = schema_bytes (split_schema t s (orders t s) j)

pub by_part : (t : Task) (s : ℕ) →
    schemas_bytes (part_schemas t s) ≡ total (part_bytes t s) (up_to (length (orders t s)))
by_part t s =
    schemas-total (part_schemas t s) ∙
    ap sum (map-map schema_bytes (split_schema t s (orders t s)) (up_to (length (orders t s))))

-- those of all schemas
abbrev pub parts_bytes : Task → ℕ → ℕ
parts_bytes t s = schemas_bytes (part_schemas t s)

pub by-schema : (t : Task) →
    schemas_bytes (split_task t).schemas ≡ total (parts_bytes t) (up_to (length t.schemas))
unfolding split_task
by-schema t =
    let all = up_to (length t.schemas) in
    schemas-total (concat_map (part_schemas t) all) ∙ total-concat_map schema_bytes (part_schemas t) all ∙
    total-same (λ s. total schema_bytes (part_schemas t s)) (parts_bytes t) all
    (λ s i. sym (schemas-total (part_schemas t s)))

-- ---- a whole task
pub text-is : (t : Task) → length (write t) ≡
    head_bytes t + schemas_bytes t.schemas + facts_bytes t + length (line "end" (digits 1))
unfolding write task_lines lines_bytes head_bytes schemas_bytes facts_bytes
text-is t =
    let head : List Line = task_line 1 ∷ objects_line t.objects ∷ arity_line t.arities ∷ [] in
    let schemas : List Line = concat_map schema_lines t.schemas in
    let init : List Line = map (λ f. init_line (fact_entry f)) t.init in
    let goal : List Line = map (λ f. goal_line (fact_entry f)) t.goal in
    let end : List Line = end_line 1 ∷ [] in
    omega (
      arith,
      lines-append head (schemas ++ (init ++ (goal ++ end))),
      lines-append schemas (init ++ (goal ++ end)),
      lines-append init (goal ++ end),
      lines-append goal end,
      lines-append init goal,
      lines-one (end_line 1),
    )

-- ---- an accepted split
module _ {w : List ℕ} {sizes : Sizes} {kept : List ℕ} (S : AcceptedKept w sizes kept) where
  pub split-text-most : length (write (split_task (task_of w))) ≤ longest_text
  split-text-most = text-most (split_task (task_of w)) (split-well S)

  pub split-text-fits : length (write (split_task (task_of w))) < 2 ^ 64
  unfolding longest_text
  split-text-fits = omega (arith, split-text-most)

  -- its dos and pars are among its predicates
  pub few-tokens : (sizes.later ≤ most_predicates) × (sizes.pars ≤ most_predicates)
  few-tokens = (omega (arith, few-predicates S, S.sized.later), omega (arith, few-predicates S, S.sized.pars))
