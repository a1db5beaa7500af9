-- What a list folds to are steps of thirteen words each: what is bound in a block has as many places as its schema has
-- parameters, at most twelve.
use Prim.Native.Nat.{ℕ, suc, ◌/◌, ◌≤◌}
use mathlib.Core.Path.{◌≡◌, refl, sym, ◌∙◌, ap, subst}
use mathlib.Core.Bool.{Bool, true, false}
use mathlib.Core.List.{List, [], ◌∷◌}
use Rattle.std.specs.Prelude.{Option, None, Some}
use native.Mathlib.Omega.{arith}
use lib.ListN.{length, replicate, length-map, length-replicate}
use lib.Dec.{leb}
use Rattle.words.specs.Lists.{up_to}
use Rattle.task.specs.Limits.{step_size}
use Rattle.task.specs.Task.{Task}
use Rattle.task.specs.Run.{Step, schema_at, step_words, param_count}
use Rattle.words.proofs.Lists.{In, here, there, in-empty}
use Rattle.task.proofs.StepWords.{StepSized, length-step_words, length-steps}
use Rattle.blocks.specs.Blocks.{folded, beginner, Stage, outside, inside, begun, stage_for, fits_at, last_at}
use Rattle.blocks.specs.Blocks.{advanced, completed, fold_end, fold_from, fold_steps, params_at, list_words, fits_in}
use Rattle.blocks.proofs.FoldBlock.{fold-off, fold-move, fold-finish}
use Rattle.blocks.proofs.FoldMoves.{prepended, no-misfit}
use Rattle.blocks.proofs.KeptBlocks.{by-steps}
use Rattle.task.specs.Bindings.{or_zero}
use Rattle.task.proofs.Binding.{bind-size}

-- at most twelve places are bound
abbrev Small : Stage → Type 0
Small outside = ◌≡◌ {A = ℕ} 0 0
Small (inside s j b) = length b ≤ 12

module _ (t : Task) (few : (s : ℕ) → param_count t s ≤ 12) where
  begun-few : (o : Option ℕ) → Small (begun t o)
  unfolding begun param_count
  begun-few None = refl
  begun-few (Some s) =
      let n : length (replicate {A = Option ℕ} (schema_at t s).params None) ≡ (schema_at t s).params =
      length-replicate (schema_at t s).params None in
      let m : (schema_at t s).params ≤ 12 = few s in
      omega arith

  stage-few : (g : Stage) (y : Step) → Small g → Small (stage_for t g y)
  unfolding stage_for
  stage-few outside y h = begun-few (beginner t y.schema (up_to (length t.schemas)))
  stage-few (inside s j b) y h = h

  advanced-few : (g : Stage) (y : Step) → Small g → Small (advanced t g y)
  unfolding advanced
  advanced-few outside y h = refl
  advanced-few (inside s j b) y h = let n = bind-size b (params_at t s j) y.objects in omega arith

  completed-few : (g : Stage) → Small g → length (step_words (completed g)) ≡ step_size
  unfolding completed
  completed-few outside h = length-step_words (completed outside) (omega arith)
  completed-few (inside s j b) h =
      let n = length-map b or_zero in length-step_words (completed (inside s j b)) (omega arith)

  fold-sized : (ys : List Step) (g : Stage) (i : ℕ) (xs : List Step) → Small g → fold_from t g i ys ≡ folded xs →
      StepSized xs
  unfolding fold_from fold_end
  fold-sized [] outside i xs h e = λ x k. absurd (in-empty (subst (In x) (empty e) k))
    where
      empty : folded [] ≡ folded xs → xs ≡ []
      empty q = cc
  fold-sized [] (inside s j b) i xs h e = absurd (no-misfit e refl)
  fold-sized (y ∷ ys) g i xs h e =
      go (fits_at t st y) refl (last_at t st) refl (λ g i xs h e. fold-sized ys g i xs h e)
    where
      st : Stage
      st = stage_for t g y

      after : Stage
      after = advanced t st y

      few-after : Small after
      few-after = advanced-few st y (stage-few g y h)

      each : (zs : List Step) → StepSized zs → StepSized (completed after ∷ zs)
      each zs r x (here q) = ap (λ (z : Step). length (step_words z)) q ∙ completed-few after few-after
      each zs r x (there k) = r x k

      go : (a : Bool) → fits_at t st y ≡ a → (c : Bool) → last_at t st ≡ c →
          ((g : Stage) (i : ℕ) (xs : List Step) → Small g → fold_from t g i ys ≡ folded xs → StepSized xs) → StepSized xs
      go false f c l rest = absurd (no-misfit e (fold-off t g i y ys st refl f))
      go true f false l rest = rest after (suc i) xs few-after (sym (fold-move t g i y ys st refl f l) ∙ e)
      go true f true l rest =
          let (zs, a, b) = prepended (completed after) (fold_from t outside (suc i) ys) xs
          (sym (fold-finish t g i y ys st refl f l) ∙ e) in
          λ x k. each zs (rest outside (suc i) zs refl a) x (subst (In x) b k)

  -- refusal 13 by the number of steps
  pub room-folded : (ys xs : List Step) → fold_steps t ys ≡ folded xs → (lent : List ℕ) →
      fits_in (list_words xs) lent ≡ leb (length xs) (length lent / step_size)
  unfolding fits_in fold_steps list_words
  room-folded ys xs e lent =
      by-steps (length xs) (length (list_words xs)) (length lent)
      (length-steps xs (fold-sized ys outside 0 xs refl e))
