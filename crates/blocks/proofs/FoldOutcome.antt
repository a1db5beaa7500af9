-- What folding does by the first check that fails, and what it does where all pass: its refusals leave all as found.
use Rattle.task.specs.declared.Place.TheVariants as place
use Rattle.task.specs.declared.refusals.Reason.TheVariants as reason
use Prim.Native.Nat.{ℕ}
use mathlib.Core.Path.{◌≡◌, refl, ◌∙◌, ap}
use mathlib.Core.Bool.{true, false}
use mathlib.Core.List.{List, [], ◌∷◌}
use Rattle.std.specs.Prelude.{Option, None, Some, Err}
use native.Mathlib.Omega.{arith}
use Rattle.task.specs.declared.refusals.Refusal.{Refusal}
use Rattle.blocks.specs.FoldCode.{judged_of}
use Rattle.blocks.proofs.FoldMoves.{refused_step}
use Rattle.task.specs.declared.Place.{Place}
use Rattle.task.specs.Answers.{reason_number, Outcome, Check, refuse_unless, in_order, refuse_at}
use Rattle.task.specs.Table.{task_of}
use Rattle.task.specs.Run.{Step, steps_in, bad_step}
use Rattle.task.proofs.Answers.{as_found, check-passes, check-refuses, refusal-stands, place-passes, place-refuses}
use Rattle.tokens.specs.Acceptance.{accepted_then, RefusedAs}
use Rattle.tokens.specs.Split.{split_task}
use Rattle.tokens.proofs.SplitOutcome.{accepted-passes}
use Rattle.blocks.specs.Blocks.{Folding, folded, misfit, fold_steps, fold_check, folded_steps, list_words, fits_in}
use Rattle.blocks.specs.Blocks.{fold_outcome}
use Rattle.blocks.specs.Unfolding.{TableKept}
use Rattle.blocks.proofs.BlockAnswers.{folded_over}

-- the split steps lent
abbrev pub split_steps_in : List ℕ → List ℕ → List Step
split_steps_in w steps = steps_in (split_task (task_of w)) steps

-- what they fold to
abbrev pub folding_of : List ℕ → List ℕ → Folding
folding_of w steps = fold_steps (task_of w) (split_steps_in w steps)

module _ (w steps out : List ℕ) where
  -- what is done where no check fails
  abbrev done_by : Folding → Outcome (List ℕ)
  done_by f = folded_over (split_steps_in w steps) (folded_steps f) out

  abbrev room_check : Folding → List Check
  room_check f = refuse_unless (fits_in (list_words (folded_steps f)) out) 13 ∷ []

  abbrev block_check : List Check
  block_check = fold_check (folding_of w steps) ∷ room_check (folding_of w steps)

  abbrev step_check : List Check
  step_check = refuse_at 12 place.Step (bad_step (split_task (task_of w)) steps) ∷ block_check

  outcome-is : fold_outcome w steps out ≡ in_order (accepted_then w step_check) out (done_by (folding_of w steps))
  unfolding fold_outcome
  outcome-is = refl

  pub fold-refused-as : {n : ℕ} {at : Place} → RefusedAs w n at → fold_outcome w steps out ≡ as_found n at out
  fold-refused-as h =
      outcome-is ∙ refusal-stands (accepted_then w step_check) out (done_by (folding_of w steps)) (h step_check)

  module _ {kept : List ℕ} (K : TableKept w kept) where
    accepted : fold_outcome w steps out ≡ in_order step_check out (done_by (folding_of w steps))
    accepted =
        outcome-is ∙ accepted-passes w K.long K.table K.accepted step_check out (done_by (folding_of w steps))

    pub fold-bad-step : {i : ℕ} → bad_step (split_task (task_of w)) steps ≡ Some i →
        fold_outcome w steps out ≡ as_found 12 (place.Step i) out
    fold-bad-step e = accepted ∙ place-refuses 12 place.Step block_check out (done_by (folding_of w steps)) e

    module _ (good : bad_step (split_task (task_of w)) steps ≡ None) where
      taken : (f : Folding) → folding_of w steps ≡ f →
          fold_outcome w steps out ≡ in_order (fold_check f ∷ room_check f) out (done_by f)
      taken f e =
          accepted
          ∙ (place-passes 12 place.Step block_check out (done_by (folding_of w steps)) good
          ∙ ap (λ (g : Folding). in_order (fold_check g ∷ room_check g) out (done_by g)) e)

      pub fold-misfit : {i : ℕ} → folding_of w steps ≡ misfit i →
          fold_outcome w steps out ≡ as_found 14 (place.Step i) out
      unfolding in_order fold_check
      fold-misfit {i} e = taken (misfit i) e

    -- what the list's judgement refuses the outcome refuses
    pub fold-judged : (b : Option ℕ) → bad_step (split_task (task_of w)) steps ≡ b → (f : Folding) →
        folding_of w steps ≡ f → (r : Refusal) → Err r ≡ judged_of b f →
        fold_outcome w steps out ≡ as_found (reason_number r.reason) r.place out
    unfolding judged_of
    fold-judged (Some i) e f q r h =
        fold-bad-step e ∙
        ap (λ (r : Refusal). as_found (reason_number r.reason) r.place out)
        (let z : refused_step reason.NotAStep i ≡ r = cc in z)
    fold-judged None e (folded xs) q r h = absurd (let z : ◌≡◌ {A = ℕ} 0 1 = cc in omega arith)
    fold-judged None e (misfit i) q r h =
        fold-misfit e q ∙
        ap (λ (r : Refusal). as_found (reason_number r.reason) r.place out)
        (let z : refused_step reason.Misfit i ≡ r = cc in z)

    module _ (good : bad_step (split_task (task_of w)) steps ≡ None) where
      module _ (xs : List Step) (f : folding_of w steps ≡ folded xs) where
        blocks-pass : fold_outcome w steps out ≡ in_order (room_check (folded xs)) out (done_by (folded xs))
        unfolding in_order fold_check
        blocks-pass = taken good (folded xs) f

        pub fold-no-room : fits_in (list_words xs) out ≡ false →
            fold_outcome w steps out ≡ as_found 13 place.Nowhere out
        unfolding folded_steps
        fold-no-room e = blocks-pass ∙ check-refuses 13 [] out (done_by (folded xs)) e

        pub fold_done : fits_in (list_words xs) out ≡ true →
            fold_outcome w steps out ≡ folded_over (split_steps_in w steps) xs out
        unfolding in_order folded_steps
        fold_done e = blocks-pass ∙ check-passes 13 [] out (done_by (folded xs)) e
