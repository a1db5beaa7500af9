-- What is unfolded: the block of each step, part by part, and as many split steps as the steps' part counts together.
-- A block fixes its step, since folding gives the step back.
use Prim.Native.Nat.{ℕ, zero, suc, ◌+◌, ◌<◌}
use mathlib.Core.Path.{◌≡◌, refl, sym, ◌∙◌, ap}
use mathlib.Core.List.{List, [], ◌∷◌, ◌++◌, map, append-nil}
use native.Mathlib.Omega.{arith}
use lib.ListN.{length, get_or}
use Rattle.words.specs.Lists.{sum, up_to, up_from}
use Rattle.task.specs.Task.{Task}
use Rattle.task.specs.Run.{Step}
use Rattle.words.proofs.Lists.{get_or-map, map_same, append-concat_map, length-concat_map, length-up_to, get_or-up_to}
use Rattle.task.proofs.States.{IsStep}
use Rattle.task.proofs.StepWords.{no_step}
use Rattle.tokens.specs.Split.{orders}
use Rattle.blocks.specs.Blocks.{part_step, block, unfold_steps, folded, prepend, outside, fold_end, fold_from}
use Rattle.blocks.proofs.Numbers.{length-block}
use Rattle.blocks.proofs.FoldBlock.{Covered, fold-rest, stage-first, bound-none}

-- "A step's part count is that of its schema"
abbrev pub parts_of : Task → Step → ℕ
parts_of t x = length (orders t x.schema)

module _ (t : Task) where
  -- "A step's block is its parts in order, each with that step's objects"
  pub block-part : (x : Step) (j : ℕ) → j < parts_of t x → get_or (block t x) j no_step ≡ part_step t x j
  unfolding block
  block-part x j l =
      let n = length-up_to (parts_of t x) in
      get_or-map (part_step t x) (up_to (parts_of t x)) j 0 no_step (omega arith)
      ∙ ap (part_step t x) (get_or-up_to (parts_of t x) j 0 l)

  -- "Unfolding writes the blocks one after another"
  pub unfold-append : (xs ys : List Step) → unfold_steps t (xs ++ ys) ≡ unfold_steps t xs ++ unfold_steps t ys
  unfolding unfold_steps
  unfold-append xs ys = append-concat_map (block t) xs ys

  pub length-unfold : (xs : List Step) → length (unfold_steps t xs) ≡ sum (map (parts_of t) xs)
  unfolding unfold_steps
  length-unfold xs =
      length-concat_map (block t) xs
      ∙ ap sum (map_same (λ x. length (block t x)) (parts_of t) xs (λ x i. length-block t x))

  -- ---- a block fixes its step
  module _ (filled : (s : ℕ) → s < length t.schemas → 0 < length (orders t s))
      (covered : (s : ℕ) → s < length t.schemas → Covered t s) where
    -- a block folds to its step, whatever follows
    pub fold-block : (x : Step) → IsStep t x → (i : ℕ) (ys : List Step) →
        fold_from t outside i (block t x ++ ys) ≡ prepend x (fold_from t outside (i + parts_of t x) ys)
    unfolding block up_to
    fold-block x hx i ys = go (parts_of t x) refl
      where
        go : (n : ℕ) → n ≡ parts_of t x →
            fold_from t outside i (block t x ++ ys) ≡ prepend x (fold_from t outside (i + n) ys)
        go zero e = absurd (omega (arith, filled x.schema hx.known))
        go (suc k) e =
            ap (λ n. fold_from t outside i (map (part_step t x) (up_from 0 n) ++ ys)) (sym e) ∙
            fold-rest t x (covered x.schema hx.known) hx.count k 0 outside _ i ys (omega arith)
            (stage-first t filled x hx.known) (bound-none t x)

    -- two steps that differ have blocks that differ, also where their ground sets are equal
    pub block-fixes-step : (x y : Step) → IsStep t x → IsStep t y → block t x ≡ block t y → x ≡ y
    unfolding prepend fold_from fold_end
    block-fixes-step x y hx hy e =
        same (sym (alone x hx) ∙ (ap (fold_from t outside 0) e ∙ alone y hy))
      where
        alone : (x : Step) → IsStep t x → fold_from t outside 0 (block t x) ≡ folded (x ∷ [])
        alone x h = ap (fold_from t outside 0) (sym (append-nil (block t x))) ∙ fold-block x h 0 []

        same : {x y : Step} → folded (x ∷ []) ≡ folded (y ∷ []) → x ≡ y
        same q = cc
