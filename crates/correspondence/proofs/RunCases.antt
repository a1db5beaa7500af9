-- What running answers by the first of its checks that fails: 1, 2, 12 or 15, or what it does where none does.
use Rattle.task.specs.declared.Place.TheVariants as place
use Prim.Native.Nat.{ℕ}
use mathlib.Core.Path.{◌≡◌, refl, ◌∙◌}
use mathlib.Core.Bool.{true, false}
use mathlib.Core.List.{List, [], ◌∷◌}
use Rattle.std.specs.Prelude.{Some, None}
use lib.ListN.{length}
use Rattle.task.specs.Answers.{Check, Outcome, refuse_unless, refuse_at, in_order}
use Rattle.task.specs.Task.{Task}
use Rattle.task.specs.Table.{task_of, long_enough, is_table}
use Rattle.task.specs.Run.{run_within, steps_in, bad_step, state_in, room_in, is_state, run_done, run_outcome}
use Rattle.task.proofs.Answers.{as_found, check-passes, check-refuses, place-passes, place-refuses}
use Rattle.task.proofs.RunOutcome.{done, state_check, step_check}

module _ (w steps state : List ℕ) (n : ℕ) where
  abbrev t : Task
  t = task_of w

  abbrev table_check : List Check
  table_check = refuse_unless (is_table w) 2 ∷ step_check w steps state n

  abbrev ran : Outcome (List ℕ)
  ran = done w steps state n

  outcome-is : run_outcome w steps state n ≡ in_order (refuse_unless (long_enough w) 1 ∷ table_check) state ran
  unfolding run_outcome
  outcome-is = refl

  pub run_short : long_enough w ≡ false → run_outcome w steps state n ≡ as_found 1 place.Nowhere state
  run_short h = outcome-is ∙ check-refuses 1 table_check state ran h

  long : long_enough w ≡ true → run_outcome w steps state n ≡ in_order table_check state ran
  long h = outcome-is ∙ check-passes 1 table_check state ran h

  pub run-no-table : long_enough w ≡ true → is_table w ≡ false →
      run_outcome w steps state n ≡ as_found 2 place.Nowhere state
  run-no-table h k = long h ∙ check-refuses 2 (step_check w steps state n) state ran k

  table : long_enough w ≡ true → is_table w ≡ true →
      run_outcome w steps state n ≡ in_order (step_check w steps state n) state ran
  table h k = long h ∙ check-passes 2 (step_check w steps state n) state ran k

  pub run-bad-step : long_enough w ≡ true → is_table w ≡ true → {i : ℕ} → bad_step t steps ≡ Some i →
      run_outcome w steps state n ≡ as_found 12 (place.Step i) state
  run-bad-step h k b = table h k ∙ place-refuses 12 place.Step (state_check w steps state n) state ran b

  good : long_enough w ≡ true → is_table w ≡ true → bad_step t steps ≡ None →
      run_outcome w steps state n ≡ in_order (state_check w steps state n) state ran
  good h k b = table h k ∙ place-passes 12 place.Step (state_check w steps state n) state ran b

  pub run-no-state : long_enough w ≡ true → is_table w ≡ true → bad_step t steps ≡ None → is_state t state n ≡ false →
      run_outcome w steps state n ≡ as_found 15 place.Nowhere state
  run-no-state h k b s = good h k b ∙ check-refuses 15 [] state ran s

  pub run-done : long_enough w ≡ true → is_table w ≡ true → bad_step t steps ≡ None → is_state t state n ≡ true →
      run_outcome w steps state n ≡ ran
  unfolding in_order
  run-done h k b s = good h k b ∙ check-passes 15 [] state ran s
