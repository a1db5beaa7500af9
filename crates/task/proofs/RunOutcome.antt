-- What running does by the first check that fails, and what it does where all pass: refusals 1, 2, 12 and 15 leave all
-- as found.
use Rattle.task.specs.declared.Place.TheVariants as place
use Prim.Native.Nat.{ℕ}
use mathlib.Core.Path.{◌≡◌, sym, ◌∙◌}
use mathlib.Core.Bool.{true}
use mathlib.Core.List.{List, [], ◌∷◌}
use Rattle.std.specs.Prelude.{None}
use lib.ListN.{length}
use Rattle.task.specs.declared.Place.{Place}
use Rattle.task.specs.Answers.{Check, Outcome, passes, refuses, refuse_unless, refuse_at, first_refusal, table_checks}
use Rattle.task.specs.Answers.{in_order}
use Rattle.task.specs.Task.{Task}
use Rattle.task.specs.Table.{task_of, long_enough, is_table}
use Rattle.task.specs.Run.{run_within, steps_in, bad_step, state_in, room_in, is_state, run_done, run_checks}
use Rattle.task.specs.Run.{run_outcome}
use Rattle.task.proofs.Answers.{as_found, refusal-stands, same-refusal, first-passed, place-first-passes, passed-first}
use Rattle.task.proofs.Answers.{passed-place}

module _ (w steps state : List ℕ) (n : ℕ) where
  abbrev t : Task
  t = task_of w

  -- what is done where no check fails
  abbrev pub done : Outcome (List ℕ)
  done = run_done t (length state) (run_within (room_in state) t (steps_in t steps) (state_in t state n))

  abbrev pub state_check : List Check
  state_check = refuse_unless (is_state t state n) 15 ∷ []

  abbrev pub step_check : List Check
  step_check = refuse_at 12 place.Step (bad_step t steps) ∷ state_check

  -- a lent table that passes leaves the checks behind it, and so does a list without a bad step
  pub past-table : passes ≡ first_refusal (table_checks w) →
      first_refusal (run_checks w steps state n) ≡ first_refusal step_check
  past-table h = first-passed (table_checks w) step_check h

  pub past-steps : passes ≡ first_refusal (table_checks w) → bad_step t steps ≡ None →
      first_refusal (run_checks w steps state n) ≡ first_refusal state_check
  past-steps h b = past-table h ∙ place-first-passes 12 place.Step state_check b

  pub run-refused : {k : ℕ} {at : Place} → refuses k at ≡ first_refusal (run_checks w steps state n) →
      run_outcome w steps state n ≡ as_found k at state
  unfolding run_outcome
  run-refused h = refusal-stands (run_checks w steps state n) state done (sym h)

  pub run-passed : passes ≡ first_refusal (run_checks w steps state n) → run_outcome w steps state n ≡ done
  unfolding run_outcome in_order first_refusal
  run-passed h = same-refusal (run_checks w steps state n) [] state done (sym h)

  -- what is known then
  pub fit-to-run : passes ≡ first_refusal (run_checks w steps state n) →
      (is_table w ≡ true) × (bad_step t steps ≡ None) × (is_state t state n ≡ true)
  fit-to-run h =
      let (long, h₂) = passed-first (long_enough w) 1 (refuse_unless (is_table w) 2 ∷ step_check) h in
      let (table, h₃) = passed-first (is_table w) 2 step_check h₂ in
      let (good, h₄) = passed-place (bad_step t steps) 12 place.Step state_check h₃ in
      (table, good, (passed-first (is_state t state n) 15 [] h₄).0)
