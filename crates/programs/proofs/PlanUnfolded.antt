-- A plan read, unfolded and written: its words are few steps, and the first that is none of the task is refused. Where
-- each is one, their blocks fit the words lent, and are steps of the split, whose plan fits the bytes lent.
use Rattle.tokens.proofs.SplitOutcome.{split-refused as outcome-refused}
use Prim.Native.Nat.{ℕ, ◌*◌, ◌≤◌}
use mathlib.Core.Path.{◌≡◌, refl, sym, ◌∙◌, ap}
use mathlib.Core.Bool.{true}
use mathlib.Core.List.{List, [], ◌∷◌}
use Rattle.std.specs.Prelude.{Option, None, Some}
use native.Mathlib.Omega.{arith}
use lib.ListN.{length, take, length-take}
use borrow.Author.Tests.{le-leb}
use Rattle.task.specs.declared.Place.{Place}
use Rattle.words.specs.Lists.{all, concat_map, over}
use Rattle.task.specs.Limits.{table_words, step_size}
use Rattle.task.specs.Answers.{place_number, result, refused}
use Rattle.task.specs.Task.{Task}
use Rattle.task.specs.Table.{task_of, long_enough, is_table}
use Rattle.task.specs.Run.{Step, is_step, step_words, steps_in, bad_step}
use Rattle.words.proofs.Puts.{take-over}
use Rattle.task.proofs.Answers.{told-by}
use Rattle.task.proofs.TablesByIndex.{table-long}
use Rattle.task.proofs.StepWords.{length-steps_in}
use Rattle.task.proofs.BadSteps.{steps-whole}
use Rattle.tokens.specs.Split.{split}
use Rattle.tokens.proofs.SplitAnswers.{AcceptedSplit}
use Rattle.blocks.specs.Blocks.{unfold_steps, list_words}
use Rattle.blocks.proofs.BlockAnswers.{length-list, list-good, list_read, unfolding_of}
use Rattle.text.specs.Reading.{read}
use Rattle.text.specs.Text.{read_text}
use Rattle.text.specs.Plan.{most_plan_steps, read_plan, write_plan}
use Rattle.text.specs.Outcomes.{plan_outcome}
use Rattle.text.specs.PlanCode.{most_split_steps, longest_plan}
use Rattle.text.specs.TableLines.{longest_text}
use Rattle.text.proofs.PlanSteps.{plan_words-is}
use Rattle.text.proofs.PlanAnswers.{answer-read, answer-refused}
use Rattle.text.proofs.PlanWritten.{plan-fits}
use Rattle.programs.specs.Programs.{taken, refusal, print_reading, print_splitting, print_unless_bad, print_unfolding}
use Rattle.programs.specs.Programs.{unfold_program}
use Rattle.programs.specs.Printing.{PlanChoices, PlanSteps}
use Rattle.programs.proofs.Answered.{split-refused}
use Rattle.programs.proofs.Printed.{printed-within}
use Rattle.blocks.proofs.SplitSteps.{the-given, unfolded-steps, unfolded-between}
use Rattle.tokens.specs.Acceptance.{RefusedAs}

-- bytes that hold every unfolding hold every text
pub text-room : {n : ℕ} → longest_plan ≤ n → longest_text ≤ n
unfolding longest_plan longest_text
text-room h = omega arith

-- ---- a plan that was read
pub plan-refused : (table text lent : List ℕ) {k : ℕ} {at : Place} →
    refused k at [] ≡ (plan_outcome table text lent).told → (uses : List Step → List ℕ) →
    refusal k (place_number at) ≡ print_reading uses (read_plan (task_of table) text)
unfolding print_reading
plan-refused table text lent {k} {at} told uses =
    let r = answer-refused table text lent k at told in
    ap (λ (p : Place). refusal k (place_number p)) r.at ∙ sym (ap (print_reading uses) r.is)

-- the steps that were read, and their words
pub record StepsRead (table text words : List ℕ) (n : ℕ) : Type 0 where
  pub reads : read_plan (task_of table) text ≡ read (steps_in (task_of table) (take (step_size * n) words))
  pub plan : PlanChoices table (take (step_size * n) words)
  pub few : n ≤ most_plan_steps
  pub inside : step_size * n ≤ length words

list-is : (xs : List Step) → list_words xs ≡ concat_map step_words xs
unfolding list_words
list-is xs = refl

pub plan-read : (table text lent : List ℕ) {words : List ℕ} {n : ℕ} → is_table table ≡ true →
    result (n ∷ []) ≡ (plan_outcome table text lent).told → words ≡ (plan_outcome table text lent).buffer →
    StepsRead table text words n
plan-read table text lent {words} {n} is-table told left =
    let r = answer-read table text lent is-table words n told left in
    let p = r.words in
    let few = p.few in
    let count = r.count in
    let size = p.size in
    let front = length-take (step_size * n) words in
    let z = plan_words-is in
    record {
      reads = r.is ∙ ap read (sym p.steps);
      plan = record { are = ap list_words p.steps ∙ (list-is r.steps ∙ sym p.are); few = omega arith };
      few = omega arith;
      inside = omega arith;
    }

-- ---- equal objects at a pair
print_unfolding-is : (t : Task) (xs : List Step) →
    print_unfolding t xs ≡ print_unless_bad (bad_step t (list_words xs)) (write_plan (unfold_steps t xs))
unfolding print_unfolding
print_unfolding-is t xs = refl

module _ (table steps : List ℕ) (p : PlanChoices table steps) where
  judged : {o : Option ℕ} → bad_step (task_of table) steps ≡ o →
      print_unless_bad o (write_plan (unfolding_of table steps)) ≡
      print_unfolding (task_of table) (steps_in (task_of table) steps)
  judged e =
      sym (print_unfolding-is (task_of table) (steps_in (task_of table) steps) ∙
      ap (λ (o : Option ℕ). print_unless_bad o (write_plan (unfolding_of table steps)))
      (ap (bad_step (task_of table)) p.are ∙ e))

  -- a step that is none of the task is refused with its number
  pub bad-printed : {i : ℕ} → bad_step (task_of table) steps ≡ Some i →
      refusal 12 i ≡ print_unfolding (task_of table) (steps_in (task_of table) steps)
  unfolding print_unless_bad
  bad-printed e = judged e

  -- where each is one, they are unfolded
  pub good-printed : bad_step (task_of table) steps ≡ None →
      write_plan (unfolding_of table steps) ≡ print_unfolding (task_of table) (steps_in (task_of table) steps)
  unfolding print_unless_bad
  good-printed e = judged e

  pub good-plan : bad_step (task_of table) steps ≡ None → PlanSteps table steps
  good-plan e = record { good = e; few = p.few }

-- ---- blocks
-- what splitting refuses is printed
pub refused-printed : (table : List ℕ) → is_table table ≡ true → {k : ℕ} {at : Place} → RefusedAs table k at →
    (prints : Task → List ℕ) → refusal k (place_number at) ≡ print_splitting prints (split (task_of table))
unfolding long_enough
refused-printed table is-table h prints =
    let long = table-long table is-table in
    let e = outcome-refused table table (le-leb table_words (length table) long) h in
    split-refused table table is-table long (told-by (sym e)) prints

-- the words of the blocks are those of steps of the split, whose plan fits the bytes lent
pub record BlocksWritten (table words steps after : List ℕ) (end : ℕ) : Type 0 where
  pub good : bad_step (task_of words) (take end after) ≡ None
  pub are : steps_in (task_of words) (take end after) ≡ unfolding_of table steps
  pub fits : length (write_plan (steps_in (task_of words) (take end after))) ≤ longest_plan
  pub inside : end ≤ length after

module _ (table words steps : List ℕ) (s : AcceptedSplit table words) (p : PlanSteps table steps) where
  abbrev t : Task
  t = task_of table

  abbrev t' : Task
  t' = task_of words

  abbrev xs : List Step
  xs = steps_in t steps

  abbrev ys : List Step
  ys = unfolding_of table steps

  split-steps : all (is_step t') ys ≡ true
  split-steps = unfolded-steps (the-given s) xs (steps-whole t steps p.good).1

  -- sixteen parts of each of 100 steps
  pub few-steps : length ys ≤ most_split_steps
  few-steps =
      let most = (unfolded-between s xs (steps-whole t steps p.good).1).1 in
      let n = length-steps_in t steps in
      let few = p.few in
      let z = plan_words-is in
      omega arith

  pub blocks-written : (out : List ℕ) {after : List ℕ} {end : ℕ} → end ≡ step_size * length ys →
      after ≡ over (list_words ys) out → BlocksWritten table words steps after end
  blocks-written out {after} {end} h lies =
      let well = s.split-well-formed in
      let size : length (list_words ys) ≡ end = length-list t' well ys split-steps ∙ sym h in
      let e : take end after ≡ list_words ys = ap (take end) lies ∙ take-over (list_words ys) out end size in
      let good = ap (bad_step t') e ∙ list-good t' well ys split-steps in
      let long = ap length e in
      let few = few-steps in
      record {
        good = good;
        are = ap (steps_in t') e ∙ list_read t' well ys split-steps;
        fits = plan-fits t' well (take end after) good (omega arith);
        inside = printed-within (list_words ys) out lies (sym size);
      }

-- ---- the program `unfold`
-- what is printed of a task and steps of it, and of a task and the text of a plan
abbrev pub prints_steps : Task → List Step → List ℕ
prints_steps t steps = print_splitting (λ t'. print_unfolding t steps) (split t)

abbrev pub prints_plan : List ℕ → Task → List ℕ
prints_plan plan t = print_reading (prints_steps t) (read_plan t (taken plan))

pub plan-printed : (uses : List Step → List ℕ) (t : Task) (text : List ℕ) {xs : List Step} → read_plan t text ≡ read xs →
    uses xs ≡ print_reading uses (read_plan t text)
unfolding print_reading
plan-printed uses t text e = sym (ap (print_reading uses) e)

pub unfold-is : (task plan : List ℕ) →
    unfold_program task plan ≡ print_reading (prints_plan plan) (read_text (taken task))
unfolding unfold_program
unfold-is task plan = refl
