-- Folding an unfolding gives the list back, and an unfolding with a proper beginning of a block behind it is
-- unfinished. By induction over the list: a block folds to its step, whatever follows.
use Prim.Native.Nat.{ℕ, zero, suc, ◌+◌, ◌<◌}
use mathlib.Core.Path.{◌≡◌, refl, sym, ◌∙◌, ap}
use mathlib.Core.List.{List, [], ◌∷◌, ◌++◌, map}
use native.Mathlib.Omega.{arith}
use lib.ListN.{length, length-append}
use Rattle.words.specs.Lists.{concat_map, up_to, up_from}
use Rattle.task.specs.Task.{Task}
use Rattle.task.specs.Run.{Step}
use Rattle.tokens.specs.Split.{orders}
use Rattle.blocks.specs.Blocks.{part_step, block, unfold_steps, folded, misfit, prepend, outside, fold_end, fold_from}
use Rattle.task.proofs.States.{IsChoice, is_choice-is, step-choice}
use Rattle.blocks.proofs.Numbers.{length-block}
use Rattle.blocks.proofs.FoldBlock.{fold-rest, fold-part, stage-first, bound-none}
use Rattle.correspondence.specs.SharedRuns.{StepsOf, ProperBeginning}
use Rattle.correspondence.proofs.OneWay.{proper-parts, unfold-first}
use Rattle.blocks.proofs.Given.{Given, head_step, tail-steps, filled, covered}

module _ {t t' : Task} (G : Given t t') where
  fold-block : (x : Step) → IsChoice t x → (i : ℕ) (ys : List Step) →
      fold_from t outside i (block t x ++ ys) ≡ prepend x (fold_from t outside (i + length (orders t x.schema)) ys)
  unfolding block up_to
  fold-block x hx i ys = go (length (orders t x.schema)) refl
    where
      go : (n : ℕ) → n ≡ length (orders t x.schema) →
          fold_from t outside i (block t x ++ ys) ≡ prepend x (fold_from t outside (i + n) ys)
      go zero e = absurd (omega (arith, filled G hx.known))
      go (suc k) e =
          ap (λ n. fold_from t outside i (map (part_step t x) (up_from 0 n) ++ ys)) (sym e) ∙
          fold-rest t x (covered G hx.known) hx.count k 0 outside _ i ys (omega arith)
          (stage-first t (λ s l. filled G l) x hx.known) (bound-none t x)

  pub folds-back : (xs : List Step) (i : ℕ) → StepsOf t xs → fold_from t outside i (unfold_steps t xs) ≡ folded xs
  unfolding unfold_steps concat_map prepend fold_from fold_end
  folds-back [] i h = refl
  folds-back (x ∷ xs) i h =
      fold-block x (step-choice (head_step t x xs h)) i (unfold_steps t xs) ∙
      ap (prepend x) (folds-back xs (i + length (orders t x.schema)) (tail-steps t x xs h))

  fold-begun : (x : Step) → IsChoice t x → (n i : ℕ) → 0 < n → n < length (block t x) →
      fold_from t outside i (map (part_step t x) (up_to n)) ≡ misfit (i + n)
  unfolding up_to
  fold-begun x hx zero i h l = absurd (omega arith)
  fold-begun x hx (suc k) i h l =
      fold-part t x (covered G hx.known) hx.count k 0 outside _ i
      (omega (arith, length-block t x)) (stage-first t (λ s l. filled G l) x hx.known) (bound-none t x)

  pub fold-unfinished : (xs r : List Step) (i : ℕ) → StepsOf t xs → ProperBeginning t r →
      fold_from t outside i (unfold_steps t xs ++ r) ≡ misfit (i + length (unfold_steps t xs ++ r))
  unfolding unfold_steps concat_map prepend
  fold-unfinished [] r i h b =
      let (a, n) = proper-parts t r b in
      ap (fold_from t outside i) a ∙
      fold-begun b.choice (is_choice-is t b.choice b.is-choice) b.count i b.at_least_one b.not-all ∙
      ap (λ k. misfit (i + k)) (sym n)
  fold-unfinished (x ∷ xs) r i h b =
      ap (fold_from t outside i) (unfold-first t x xs r) ∙
      fold-block x (step-choice (head_step t x xs h)) i (unfold_steps t xs ++ r) ∙
      ap (prepend x) (fold-unfinished xs r (i + length (orders t x.schema)) (tail-steps t x xs h) b) ∙
      ap misfit (omega (
        arith,
        ap length (unfold-first t x xs r),
        length-append (block t x) (unfold_steps t xs ++ r),
        length-block t x,
      ))
