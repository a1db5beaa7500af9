-- Folding by the moves that code makes: a block is begun, goes on part after part, and is complete past its last part.
use Rattle.task.specs.declared.Place.TheVariants as place
use Rattle.task.specs.declared.refusals.Reason.TheVariants as reason
use Prim.Native.Nat.{ℕ, suc, ◌+◌, ◌<◌}
use mathlib.Core.Path.{◌≡◌, refl, sym, ◌∙◌, ap}
use mathlib.Core.Bool.{Bool, true, false, cond}
use mathlib.Core.List.{List, [], ◌∷◌}
use Rattle.std.specs.Prelude.{Option, None, Some, Result, Ok, Err, MatchResult}
use Rattle.task.specs.declared.refusals.Reason.{Reason}
use Rattle.task.specs.declared.refusals.Refusal.{Refusal}
use native.Mathlib.Omega.{arith}
use lib.ListN.{length, replicate}
use lib.Dec.{eqb}
use borrow.Author.Tests.{eq-eqb, ne_eqb}
use Rattle.words.specs.Lists.{up_to}
use Rattle.task.specs.Task.{Task}
use Rattle.task.specs.Run.{Step, schema_at}
use Rattle.tokens.specs.Split.{orders}
use Rattle.blocks.specs.Blocks.{params_at, Folding, folded, misfit, prepend, beginner, Stage, outside, inside}
use Rattle.blocks.specs.Blocks.{begun, stage_for, fits_at, last_at, advanced, completed, fold_end, fold_from}
use Rattle.blocks.specs.FoldCode.{taken_of, judged_of}
use Rattle.blocks.proofs.FoldBlock.{fold-off, fold-move, fold-finish}
use Rattle.task.specs.Bindings.{Bound, bind}

-- ---- what is taken apart, behind n steps found
unfoldable pub taken_after : ℕ → Folding → Result ℕ ℕ
taken_after n (folded xs) = Ok (n + length xs)
taken_after n (misfit i) = Err i

pub after_none : (f : Folding) → taken_of f ≡ taken_after 0 f
unfolding taken_of taken_after
after_none (folded xs) = let e : length xs ≡ 0 + length xs = omega arith in ap (λ (n : ℕ). Ok n) e
after_none (misfit i) = refl

pub after_one : (n : ℕ) (x : Step) (f : Folding) → taken_after n (prepend x f) ≡ taken_after (n + 1) f
unfolding taken_after prepend
after_one n x (folded xs) =
    let e : n + suc (length xs) ≡ n + 1 + length xs = omega arith in ap (λ (n : ℕ). Ok n) e
after_one n x (misfit i) = refl

-- ---- how a list is judged: by its first bad step, or else by what it is taken apart into
-- a refusal of a step
abbrev pub refused_step : Reason → ℕ → Refusal
refused_step r i = record { reason = r; place = place.Step i }

pub judged-bad : (b : Option ℕ) (f : Folding) (i : ℕ) → b ≡ Some i → Err (refused_step reason.NotAStep i) ≡ judged_of b f
unfolding judged_of
judged-bad b f i e = sym (ap (λ (c : Option ℕ). judged_of c f) e)

pub judged-taken : (b : Option ℕ) (f : Folding) → b ≡ None → (k : Result ℕ ℕ) → k ≡ taken_of f →
    (r : Result ℕ Refusal) → MatchResult k (λ n. r ≡ Ok n) (λ i. r ≡ Err (refused_step reason.Misfit i)) → r ≡ judged_of b f
unfolding judged_of taken_of
judged-taken (Some i) f e k h r m = absurd (let z : ◌≡◌ {A = ℕ} 0 1 = cc in omega arith)
judged-taken None (folded xs) e (Ok n) h r m = let z : n ≡ length xs = cc in m ∙ ap (λ (k : ℕ). Ok k) z
judged-taken None (folded xs) e (Err i) h r m = absurd (let z : ◌≡◌ {A = ℕ} 0 1 = cc in omega arith)
judged-taken None (misfit i) e (Ok n) h r m = absurd (let z : ◌≡◌ {A = ℕ} 0 1 = cc in omega arith)
judged-taken None (misfit i) e (Err k) h r m =
    let z : k ≡ i = cc in m ∙ ap (λ (k : ℕ). Err (refused_step reason.Misfit k)) z

-- and back: the judgement tells what the list folds to
pub is_whole : (b : Option ℕ) (f : Folding) (n : ℕ) → Ok n ≡ judged_of b f →
    (b ≡ None) × ((xs : List Step) × (f ≡ folded xs) × (n ≡ length xs))
unfolding judged_of
is_whole (Some k) f n e = absurd (let z : ◌≡◌ {A = ℕ} 0 1 = cc in omega arith)
is_whole None (folded xs) n e = (refl, (xs, refl, cc))
is_whole None (misfit k) n e = absurd (let z : ◌≡◌ {A = ℕ} 0 1 = cc in omega arith)

-- ---- moves of folding
-- a list that folds behind a step folds to that step and more
pub prepended : (x : Step) (f : Folding) (xs : List Step) → prepend x f ≡ folded xs →
    (ys : List Step) × (f ≡ folded ys) × (xs ≡ x ∷ ys)
unfolding prepend
prepended x (folded ys) xs e = (ys, refl, cc)
prepended x (misfit i) xs e = absurd (let z : ◌≡◌ {A = ℕ} 0 1 = cc in omega arith)

pub no-misfit : {f : Folding} {xs : List Step} {i : ℕ} → f ≡ folded xs → f ≡ misfit i → ⊥
no-misfit p q = let z : ◌≡◌ {A = ℕ} 0 1 = cc in omega arith

-- whether the list goes on with a step that fits
unfoldable pub fits_next : Task → Stage → List Step → Bool
fits_next t g [] = false
fits_next t g (x ∷ xs) = fits_at t g x

-- inside a block before position j, or behind it where j is past its last part
unfoldable pub fold_on : Task → ℕ → ℕ → Bound → ℕ → List Step → Folding
fold_on t s j b i rest =
    cond (eqb j (length (orders t s)))
    (prepend (completed (inside s j b)) (fold_from t outside i rest))
    (fold_from t (inside s j b) i rest)

module _ (t : Task) where
  -- ---- the stages
  module _ (s j : ℕ) (b : Bound) (i : ℕ) (rest : List Step) where
    abbrev past : Folding
    past = prepend (completed (inside s j b)) (fold_from t outside i rest)

    pub on-past : j ≡ length (orders t s) → fold_on t s j b i rest ≡ past
    unfolding fold_on
    on-past e =
        ap (λ (c : Bool). cond c past (fold_from t (inside s j b) i rest)) (eq-eqb j (length (orders t s)) e)

    pub on-inside : j < length (orders t s) → fold_on t s j b i rest ≡ fold_from t (inside s j b) i rest
    unfolding fold_on
    on-inside l =
        ap (λ (c : Bool). cond c past (fold_from t (inside s j b) i rest))
        (ne_eqb j (length (orders t s)) (λ e. omega arith))

  -- ---- the moves
  -- a step that fits
  pub block-goes-on : (s j : ℕ) (b : Bound) (i : ℕ) (x : Step) (xs : List Step) → fits_at t (inside s j b) x ≡ true →
      fold_from t (inside s j b) i (x ∷ xs) ≡ fold_on t s (suc j) (bind b (params_at t s j) x.objects) (suc i) xs
  unfolding fold_on stage_for last_at advanced
  block-goes-on s j b i x xs f = go (eqb (suc j) (length (orders t s))) refl
    where
      after : Bound
      after = bind b (params_at t s j) x.objects

      done : Folding
      done = prepend (completed (inside s (suc j) after)) (fold_from t outside (suc i) xs)

      more : Folding
      more = fold_from t (inside s (suc j) after) (suc i) xs

      go : (c : Bool) → eqb (suc j) (length (orders t s)) ≡ c →
          fold_from t (inside s j b) i (x ∷ xs) ≡ cond (eqb (suc j) (length (orders t s))) done more
      go true e =
          fold-finish t (inside s j b) i x xs (inside s j b) refl f e ∙ sym (ap (λ (c : Bool). cond c done more) e)
      go false e =
          fold-move t (inside s j b) i x xs (inside s j b) refl f e ∙ sym (ap (λ (c : Bool). cond c done more) e)

  -- one that doesn't, or the list's end
  pub block-stops : (s j : ℕ) (b : Bound) (i : ℕ) (rest : List Step) → fits_next t (inside s j b) rest ≡ false →
      fold_from t (inside s j b) i rest ≡ misfit i
  unfolding fits_next fold_from fold_end stage_for
  block-stops s j b i [] e = refl
  block-stops s j b i (x ∷ xs) e = fold-off t (inside s j b) i x xs (inside s j b) refl e

  -- nothing is found of a block that is begun
  abbrev pub none_bound : ℕ → Bound
  none_bound s = replicate (schema_at t s).params None

  -- between blocks: the step begins the block of a schema, or none
  pub block-begins : (s i : ℕ) (x : Step) (xs : List Step) →
      beginner t x.schema (up_to (length t.schemas)) ≡ Some s →
      fold_from t outside i (x ∷ xs) ≡ fold_from t (inside s 0 (none_bound s)) i (x ∷ xs)
  unfolding stage_for begun
  block-begins s i x xs e = go (fits_at t h x) refl (last_at t h) refl
    where
      h : Stage
      h = inside s 0 (none_bound s)

      stage : stage_for t outside x ≡ h
      stage = ap (begun t) e

      go : (c : Bool) → fits_at t h x ≡ c → (d : Bool) → last_at t h ≡ d →
          fold_from t outside i (x ∷ xs) ≡ fold_from t h i (x ∷ xs)
      go false f d l = fold-off t outside i x xs h stage f ∙ sym (fold-off t h i x xs h refl f)
      go true f false l = fold-move t outside i x xs h stage f l ∙ sym (fold-move t h i x xs h refl f l)
      go true f true l = fold-finish t outside i x xs h stage f l ∙ sym (fold-finish t h i x xs h refl f l)

  pub block_none : (i : ℕ) (x : Step) (xs : List Step) →
      beginner t x.schema (up_to (length t.schemas)) ≡ None → fold_from t outside i (x ∷ xs) ≡ misfit i
  unfolding stage_for begun fits_at
  block_none i x xs e = fold-off t outside i x xs outside (ap (begun t) e) refl

  pub list-ends : (i : ℕ) → fold_from t outside i [] ≡ folded []
  unfolding fold_from fold_end
  list-ends i = refl
