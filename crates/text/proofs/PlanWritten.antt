-- A plan's text by the words of its steps, as code writes it: a line for each step, then `end=1`; and how long it can
-- be.
use Prim.Native.Nat.{ℕ, ◌+◌, ◌*◌, ◌/◌, ◌≤◌, ◌<◌}
use mathlib.Core.Path.{◌≡◌, refl, sym, ◌∙◌, ap}
use mathlib.Core.Bool.{true}
use mathlib.Core.List.{List, [], ◌∷◌, ◌++◌, map}
use Rattle.std.specs.Prelude.{None}
use native.Mathlib.Omega.{arith}
use lib.ListN.{length, get_or, length-append}
use borrow.Author.Tests.{leb-true}
use Rattle.words.specs.Lists.{up_to, concat_map}
use Rattle.task.specs.Limits.{most_schemas, most_objects, most_parameters, step_size}
use Rattle.task.specs.Task.{Task, well_formed}
use Rattle.words.specs.Words.{words_at}
use Rattle.task.specs.Run.{Step, is_step, step_in, param_count, step_at, steps_in, bad_step}
use Rattle.words.proofs.Lists.{append-concat_map}
use Rattle.task.proofs.Tests.{task-tests}
use Rattle.task.proofs.States.{is_step-is}
use Rattle.task.proofs.StepWords.{length-steps_in, params-few, step-here}
use Rattle.task.proofs.BadSteps.{good-steps, steps-good}
use Rattle.text.specs.Lines.{colon, newline, digits, commaed, entry_bytes, line}
use Rattle.text.specs.Plan.{PlanLine, step_line, end_line, write_plan_line, step_entry, plan_lines}
use Rattle.text.specs.Plan.{write_plan}
use Rattle.text.specs.PlanCode.{step_text, most_split_steps, longest_plan}
use Rattle.text.proofs.DigitSteps.{digits-most}
use Rattle.text.proofs.AtomLines.{Within, commaed-within}
use Rattle.text.proofs.Onwards.{onwards, onwards-all}
use Rattle.text.proofs.Pieces.{pieces-map, pieces-same, pieces-most}
use Rattle.text.proofs.WholeText.{end_bytes}

-- ---- lines
abbrev pub step_piece : Step → List ℕ
step_piece x = write_plan_line (step_line (step_entry x))

pub plan-pieces : (xs : List Step) → write_plan xs ≡ concat_map step_piece xs ++ end_bytes
unfolding write_plan plan_lines concat_map write_plan_line
plan-pieces xs =
    let said : Step → PlanLine = λ x. step_line (step_entry x) in
    append-concat_map write_plan_line (map said xs) (end_line 1 ∷ []) ∙
    ap (λ (bs : List ℕ). bs ++ end_bytes) (pieces-map write_plan_line said xs)

-- ---- by words
-- a step's key, and its =
abbrev pub step_key : List ℕ
step_key = 115 ∷ 116 ∷ 101 ∷ 112 ∷ 61 ∷ []

pub step_text-is : (w : List ℕ) (b n : ℕ) → step_text w b n ≡
    step_key ++ (entry_bytes (record { head = get_or w b 0; list = words_at w (b + 1) n }) ++ (newline ∷ []))
unfolding step_text
step_text-is w b n = refl

module _ (t : Task) (w : List ℕ) where
  -- the line of step i
  abbrev pub line_at_step : ℕ → List ℕ
  line_at_step i = step_text w (step_size * i) (param_count t (get_or w (step_size * i) 0))

  step-line-is : (i : ℕ) → step_piece (step_at t w i) ≡ line_at_step i
  unfolding write_plan_line step_entry step_text step_at step_in
  step-line-is i = refl

  pub plan-onwards : write_plan (steps_in t w) ≡ onwards line_at_step 0 (length w / step_size) ++ end_bytes
  unfolding steps_in
  plan-onwards =
      plan-pieces (steps_in t w) ∙ ap (λ (bs : List ℕ). bs ++ end_bytes)
      (pieces-map step_piece (step_at t w) (up_to (length w / step_size)) ∙
      (pieces-same (λ i. step_piece (step_at t w i)) line_at_step (up_to (length w / step_size)) (λ i l. step-line-is i) ∙
      sym (onwards-all line_at_step (length w / step_size))))

  -- a good step's words are there, and so are its schema's parameters
  pub record StepThere (i : ℕ) : Type 0 where
    pub inside : step_size * i + step_size ≤ length w
    pub known : get_or w (step_size * i) 0 < length t.schemas
    pub few : param_count t (get_or w (step_size * i) 0) ≤ most_parameters

  pub step-there : well_formed t ≡ true → bad_step t w ≡ None → (i : ℕ) → i < length w / step_size → StepThere i
  unfolding step_at step_in
  step-there well good i l =
      let here = step-here t w i (good-steps t w good i (omega arith)) in
      record {
        inside = here.whole;
        known = (is_step-is t (step_at t w i) here.step).known;
        few = params-few t well (get_or w (step_size * i) 0);
      }

-- ---- how long it can be
-- a schema below 200 has three digits, and so has each of at most 12 objects below 1,000
step-most : (t : Task) → well_formed t ≡ true → (x : Step) → is_step t x ≡ true → length (step_piece x) ≤ 57
unfolding write_plan_line step_entry line entry_bytes param_count
step-most t well x h =
    let c = task-tests t well in
    let schemas = leb-true (length t.schemas) most_schemas c.schemas in
    let objects = leb-true t.objects most_objects c.objects in
    let is = is_step-is t x h in
    let known = is.known in
    let count = is.count in
    let few = params-few t well x.schema in
    let ds = digits x.schema in
    let cs = commaed x.objects in
    let d = digits-most 3 (omega arith) x.schema (omega arith) in
    let each : Within 3 x.objects = λ o i. let l = is.small o i in digits-most 3 (omega arith) o (omega arith) in
    let l = commaed-within 3 most_parameters x.objects (omega arith) each in
    let a = length-append (ds ++ (colon ∷ cs)) (newline ∷ []) in
    omega (arith, length-append ds (colon ∷ cs))

-- of good steps of a task, no more than a plan unfolds to
pub plan-fits : (t : Task) → well_formed t ≡ true → (w : List ℕ) → bad_step t w ≡ None →
    length w ≤ step_size * most_split_steps → length (write_plan (steps_in t w)) ≤ longest_plan
unfolding longest_plan
plan-fits t well w good l =
    let xs = steps_in t w in
    let n = length-steps_in t w in
    let few : length xs ≤ most_split_steps = omega arith in
    let e = ap length (plan-pieces xs) in
    let a = length-append (concat_map step_piece xs) end_bytes in
    let m = pieces-most step_piece 57 xs (λ x i. step-most t well x (steps-good t w good x i)) in
    omega arith
