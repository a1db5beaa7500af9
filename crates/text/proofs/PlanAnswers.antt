-- What `plan_outcome` is of a plan that is read and of one that is refused; and what a caller of `read_plan` knows by
-- its answer: the plan with its number of steps, whose words are choices of objects; or the line that was refused.
use Rattle.task.specs.declared.Place.TheVariants as place
use Prim.Native.Nat.{ℕ, ◌*◌}
use mathlib.Core.Path.{◌≡◌, refl, sym, ◌∙◌, ap, subst}
use mathlib.Core.Bool.{true}
use mathlib.Core.List.{List, [], ◌∷◌}
use native.Mathlib.Omega.{arith}
use lib.ListN.{length, take, replicate}
use Rattle.task.specs.Limits.{step_size}
use Rattle.task.specs.declared.Place.{Place}
use Rattle.words.specs.Lists.{concat_map, over}
use Rattle.std.specs.Prelude.{Err}
use Rattle.task.specs.declared.refusals.Reason.{Reason}
use Rattle.task.specs.declared.refusals.Refusal.{Refusal}
use Rattle.task.specs.Answers.{result, refused, reason_number}
use Rattle.task.specs.Task.{Task}
use Rattle.task.specs.Table.{task_of, is_table}
use Rattle.task.specs.Run.{Step, step_words}
use Rattle.task.proofs.Tables.{of-table}
use Rattle.text.specs.Reading.{Reading, read, refused_at}
use Rattle.text.specs.Plan.{plan_words, read_plan}
use Rattle.text.specs.Outcomes.{plan_done, plan_outcome, plan_answer_told}
use Rattle.text.proofs.PlanSteps.{PlanWords, plan-words}
use Rattle.task.proofs.Answers.{told-by, left_by, both}

-- ---- of a plan
module _ (table text lent : List ℕ) where
  pub read-outcome : (xs : List Step) → read_plan (task_of table) text ≡ read xs →
      plan_outcome table text lent ≡
      record { told = result (length xs ∷ []); buffer = over (concat_map step_words xs) lent }
  unfolding plan_outcome plan_done
  read-outcome xs e = ap (plan_done lent) e

  pub refused-outcome : (k n : ℕ) → read_plan (task_of table) text ≡ refused_at k n →
      plan_outcome table text lent ≡
      record { told = refused k (place.Line n) []; buffer = over (replicate plan_words 0) lent }
  unfolding plan_outcome plan_done
  refused-outcome k n e = ap (plan_done lent) e

  -- what the code's refusal tells
  pub told-turned-back : (n : ℕ) (why : Reason) {r : Refusal} →
      read_plan (task_of table) text ≡ refused_at (reason_number why) n →
      r ≡ record { reason = why; place = place.Line n } →
      plan_answer_told (Err r) ≡ (plan_outcome table text lent).told
  told-turned-back n why e q =
      ap (λ (r : Refusal). plan_answer_told (Err r)) q ∙ (both (refused-outcome (reason_number why) n e)).0

-- ---- by the answer
pub record PlanRead (t : Task) (text : List ℕ) (n : ℕ) (after : List ℕ) : Type 0 where
  pub steps : List Step
  pub is : read_plan t text ≡ read steps
  pub count : length steps ≡ n
  pub words : PlanWords t steps (take (step_size * n) after)

pub record PlanRefused (t : Task) (text : List ℕ) (k : ℕ) (p : Place) : Type 0 where
  pub line : ℕ
  pub at : p ≡ place.Line line
  pub is : read_plan t text ≡ refused_at k line

module _ (table text lent : List ℕ) where
  abbrev t : Task
  t = task_of table

  pub answer-read : is_table table ≡ true → (after : List ℕ) (n : ℕ) →
      result (n ∷ []) ≡ (plan_outcome table text lent).told → after ≡ (plan_outcome table text lent).buffer →
      PlanRead t text n after
  answer-read is-table after n told left = go (read_plan t text) refl
    where
      go : (o : Reading (List Step)) → read_plan t text ≡ o → PlanRead t text n after
      go (refused_at k m) e =
          let q = told ∙ told-by (refused-outcome table text lent k m e) in
          absurd (let z : ◌≡◌ {A = ℕ} 0 1 = cc in omega arith)
      go (read xs) e =
          let is = read-outcome table text lent xs e in
          let q = told ∙ told-by is in
          let count : length xs ≡ n = cc in
          let lies : take (step_size * length xs) (over (concat_map step_words xs) lent) ≡ take (step_size * n) after =
          ap (take (step_size * length xs)) (sym (left ∙ left_by is)) ∙
          ap (λ (m : ℕ). take (step_size * m) after) count in
          record {
            steps = xs;
            is = e;
            count = count;
            words = subst (PlanWords t xs) lies (plan-words t (of-table table is-table).0 text lent xs e);
          }

  pub answer-refused : (k : ℕ) (p : Place) → refused k p [] ≡ (plan_outcome table text lent).told →
      PlanRefused t text k p
  answer-refused k p told = go (read_plan t text) refl
    where
      go : (o : Reading (List Step)) → read_plan t text ≡ o → PlanRefused t text k p
      go (read xs) e =
          let q = told ∙ told-by (read-outcome table text lent xs e) in
          absurd (let z : ◌≡◌ {A = ℕ} 0 1 = cc in omega arith)
      go (refused_at j m) e =
          let q = told ∙ told-by (refused-outcome table text lent j m e) in
          let number : j ≡ k = cc in
          record { line = m; at = cc; is = e ∙ ap (λ (i : ℕ). refused_at i m) number }
