-- What unfolding does by the first check that fails, and what it does where all pass: its refusals leave all as found.
use Rattle.task.specs.declared.Place.TheVariants as place
use Prim.Native.Nat.{ℕ}
use mathlib.Core.Path.{◌≡◌, refl, ◌∙◌}
use mathlib.Core.Bool.{true, false}
use mathlib.Core.List.{List, [], ◌∷◌}
use Rattle.std.specs.Prelude.{None, Some}
use Rattle.task.specs.declared.Place.{Place}
use Rattle.task.specs.Answers.{Outcome, Check, refuse_unless, in_order, refuse_at}
use Rattle.task.specs.Table.{task_of}
use Rattle.task.specs.Run.{bad_step}
use Rattle.task.proofs.Answers.{as_found, check-passes, check-refuses, refusal-stands, place-passes, place-refuses}
use Rattle.tokens.specs.Acceptance.{accepted_then, RefusedAs}
use Rattle.tokens.proofs.SplitOutcome.{accepted-passes}
use Rattle.blocks.specs.Blocks.{list_words, fits_in, unfold_outcome}
use Rattle.blocks.specs.Unfolding.{TableKept}
use Rattle.blocks.proofs.BlockAnswers.{unfolded_over, unfolding_of}

module _ (w steps out : List ℕ) where
  -- what is done where no check fails
  abbrev done : Outcome (List ℕ)
  done = unfolded_over (unfolding_of w steps) out

  abbrev room_check : List Check
  room_check = refuse_unless (fits_in (list_words (unfolding_of w steps)) out) 13 ∷ []

  abbrev step_check : List Check
  step_check = refuse_at 12 place.Step (bad_step (task_of w) steps) ∷ room_check

  outcome-is : unfold_outcome w steps out ≡ in_order (accepted_then w step_check) out done
  unfolding unfold_outcome
  outcome-is = refl

  pub unfold-refused-as : {n : ℕ} {at : Place} → RefusedAs w n at → unfold_outcome w steps out ≡ as_found n at out
  unfold-refused-as h = outcome-is ∙ refusal-stands (accepted_then w step_check) out done (h step_check)

  module _ {kept : List ℕ} (K : TableKept w kept) where
    accepted : unfold_outcome w steps out ≡ in_order step_check out done
    accepted = outcome-is ∙ accepted-passes w K.long K.table K.accepted step_check out done

    pub unfold-bad-step : {i : ℕ} → bad_step (task_of w) steps ≡ Some i →
        unfold_outcome w steps out ≡ as_found 12 (place.Step i) out
    unfold-bad-step e = accepted ∙ place-refuses 12 place.Step room_check out done e

    module _ (good : bad_step (task_of w) steps ≡ None) where
      pub unfold-no-room : fits_in (list_words (unfolding_of w steps)) out ≡ false →
          unfold_outcome w steps out ≡ as_found 13 place.Nowhere out
      unfold-no-room e =
          accepted ∙ (place-passes 12 place.Step room_check out done good ∙ check-refuses 13 [] out done e)

      pub unfold-done : fits_in (list_words (unfolding_of w steps)) out ≡ true →
          unfold_outcome w steps out ≡ unfolded_over (unfolding_of w steps) out
      unfolding in_order
      unfold-done e = accepted ∙ (place-passes 12 place.Step room_check out done good ∙ check-passes 13 [] out done e)
