-- What folding has read comes apart: at each turn into whole blocks and the steps of an open block, which are the first
-- parts of a block of some choice of objects. A block that is whole is of a step, since its parts carry every pair. So
-- a list that folds is the unfolding of its answer, and one that doesn't comes apart as far as it is read.
use Prim.Native.Nat.{ℕ, zero, suc, ◌+◌, ◌≤◌, ◌<◌}
use mathlib.Core.Path.{◌≡◌, refl, sym, ◌∙◌, ap, ap₂, subst}
use mathlib.Core.Bool.{true}
use mathlib.Core.List.{List, [], ◌∷◌, ◌++◌, map, append_assoc, append-nil}
use mathlib.Core.Logic.{◌⊎◌, inl, inr}
use native.Mathlib.Omega.{arith}
use lib.ListN.{length, take}
use borrow.Author.Tests.{eqb-true, eqb-false}
use Rattle.words.specs.Lists.{all, concat_map, up_to}
use Rattle.task.specs.Task.{Task}
use Rattle.task.specs.Run.{Step}
use Rattle.tokens.specs.Split.{orders, split_task}
use Rattle.blocks.specs.Blocks.{part_step, block, unfold_steps, Folding, folded, misfit, prepend, Stage, outside, inside}
use Rattle.blocks.specs.Blocks.{stage_for, fits_at, last_at, advanced, completed, fold_end, fold_from}
use Rattle.words.proofs.Lists.{bool_cases, In}
use Rattle.task.proofs.States.{is-is_choice, IsStep}
use Rattle.blocks.proofs.Numbers.{length-block, take-block}
use Rattle.blocks.proofs.FoldBlock.{fold-off, fold-move, fold-finish}
use Rattle.blocks.proofs.Inside.{Inside, completed-choice, candidate, parts-so-far, candidate-choice, inside-next}
use Rattle.blocks.proofs.Inside.{Reached, stage-reached}
use Rattle.correspondence.specs.SharedRuns.{StepsOf, ProperBeginning, TakenApart}
use Rattle.correspondence.proofs.OneWay.{one-more-block}
use Rattle.blocks.proofs.Given.{Given, head_step, tail-steps, more-steps, last-steps, filled}
use Rattle.blocks.proofs.SplitSteps.{block-step}
use Rattle.task.specs.Bindings.{Bound}

-- ---- two answers of folding are told apart
pub misfit-inj : {i j : ℕ} → misfit i ≡ misfit j → i ≡ j
misfit-inj e = cc

pub folded-inj : {xs zs : List Step} → folded xs ≡ folded zs → xs ≡ zs
folded-inj e = cc

pub folded-no-misfit : {xs : List Step} {i : ℕ} {f : Folding} → f ≡ folded xs → f ≡ misfit i → ⊥
folded-no-misfit p q = let z : ◌≡◌ {A = ℕ} 0 1 = cc in omega arith

-- one turn of folding, where the steps `pre` of an open block are read and y is next: y is refused, or goes on with the
-- block, or finishes it
pub data Turn (t : Task) (g : Stage) (pre : List Step) (y : Step) : Type 0 where
  off : ((i : ℕ) (ys : List Step) → fold_from t g i (y ∷ ys) ≡ misfit i) → Turn t g pre y
  on : (h : Stage) → Reached t h (pre ++ (y ∷ [])) →
      ((i : ℕ) (ys : List Step) → fold_from t g i (y ∷ ys) ≡ fold_from t h (suc i) ys) → Turn t g pre y
  finish : (x : Step) → IsStep t x → pre ++ (y ∷ []) ≡ block t x →
      ((i : ℕ) (ys : List Step) → fold_from t g i (y ∷ ys) ≡ prepend x (fold_from t outside (suc i) ys)) → Turn t g pre y

-- what folding finds in the list ys, numbered from i, behind the steps `pre`: the list is an unfolding, or comes apart
-- as far as it is read
pub data Shown (t : Task) (pre ys : List Step) (i : ℕ) (f : Folding) : Type 0 where
  whole : (xs : List Step) → f ≡ folded xs → StepsOf t xs → pre ++ ys ≡ unfold_steps t xs → Shown t pre ys i f
  broken : (k : ℕ) → f ≡ misfit (i + k) → k ≤ length ys → (xs rest : List Step) →
      TakenApart t (pre ++ take k ys) xs rest → Shown t pre ys i f

module _ {t t' : Task} (G : Given t t') where
  objects-small : (y : Step) → IsStep t' y → (o : ℕ) → In o y.objects → o < t.objects
  unfolding split_task
  objects-small y hy o i = subst (λ z. o < z) (ap (λ u. u.objects) G.is) (hy.small o i)

  pub turn : (g : Stage) (pre : List Step) → Reached t g pre → StepsOf t' pre → (y : Step) → IsStep t' y →
      Turn t g pre y
  unfolding fits_at last_at advanced block completed
  turn g pre r before y hy = go (stage_for t g y) refl (stage-reached t (λ s l. filled G l) g y pre r)
    where
      fits : (s j : ℕ) (b : Bound) → stage_for t g y ≡ inside s j b → (h : Inside t s j b pre) →
          (f : fits_at t (inside s j b) y ≡ true) → Turn t g pre y
      fits s j b q h f = elim (bool_cases (last_at t (inside s j b))) [
        | inl l ↦
            let e = eqb-true (suc j) (length (orders t s)) l in
            let parts = parts-so-far h y f ∙ ap (λ n. map (part_step t (candidate t s j b y)) (up_to n)) e in
            finish (candidate t s j b y)
            (block-step G (candidate t s j b y) (candidate-choice h y f (objects-small y hy) G.well.some-object)
            (subst (λ zs. StepsOf t' zs) parts (last-steps t' pre y before hy)))
            parts
            (λ i ys. fold-finish t g i y ys (inside s j b) q f l)
        | inr l ↦
            let n = eqb-false (suc j) (length (orders t s)) l in
            let o = h.open_at in
            on (advanced t (inside s j b) y) (inside-next h y f (objects-small y hy) (omega arith))
            (λ i ys. fold-move t g i y ys (inside s j b) q f l)
      ]

      go : (h : Stage) → stage_for t g y ≡ h → Reached t h pre → Turn t g pre y
      go outside q r = off (λ i ys. fold-off t g i y ys outside q refl)
      go (inside s j b) q h = elim (bool_cases (fits_at t (inside s j b) y)) [
        | inl f ↦ fits s j b q h f
        | inr f ↦ off (λ i ys. fold-off t g i y ys (inside s j b) q f)
      ]

  -- ---- what is read so far comes apart
  open-apart : (g : Stage) (pre : List Step) → Reached t g pre → StepsOf t' pre → TakenApart t (pre ++ []) [] pre
  unfolding unfold_steps concat_map all completed
  open-apart g pre r before = record { steps = refl; blocks = append-nil pre; remainder = left_over g r }
    where
      left_over : (g : Stage) → Reached t g pre → (pre ≡ []) ⊎ ProperBeginning t pre
      left_over outside r = inl r
      left_over (inside s zero b) h = inl h.so_far
      left_over (inside s (suc j) b) h = inr (record {
        choice = completed (inside s (suc j) b);
        count = suc j;
        own-pairs = subst (λ u. StepsOf u pre) G.is before;
        is-choice = is-is_choice t (completed (inside s (suc j) b))
            (completed-choice t s (suc j) b G.well.some-object h.known h.size h.small);
        at_least_one = omega arith;
        not-all = not-all h.open_at;
        first-parts = h.so_far ∙ sym (take-block t (completed (inside s (suc j) b)) (suc j) (less h.open_at));
      })
        where
          not-all : suc j < length (orders t s) → suc j < length (block t (completed (inside s (suc j) b)))
          not-all o = omega (arith, length-block t (completed (inside s (suc j) b)))

          less : suc j < length (orders t s) → suc j ≤ length (orders t s)
          less o = omega arith

  -- ---- what folding finds
  regrouped : (pre : List Step) (y : Step) (ys zs : List Step) → (pre ++ (y ∷ [])) ++ ys ≡ zs → pre ++ (y ∷ ys) ≡ zs
  regrouped pre y ys zs e = sym (append_assoc pre (y ∷ []) ys) ∙ e

  regrouped-apart : (pre : List Step) (y : Step) (ys xs rest : List Step) →
      TakenApart t ((pre ++ (y ∷ [])) ++ ys) xs rest → TakenApart t (pre ++ (y ∷ ys)) xs rest
  regrouped-apart pre y ys xs rest a = subst (λ zs. TakenApart t zs xs rest) (append_assoc pre (y ∷ []) ys) a

  shown-on : (pre : List Step) (y : Step) (ys : List Step) (i : ℕ) (f : Folding) →
      Shown t (pre ++ (y ∷ [])) ys (suc i) f → Shown t pre (y ∷ ys) i f
  shown-on pre y ys i f (whole xs e h q) = whole xs e h (regrouped pre y ys (unfold_steps t xs) q)
  shown-on pre y ys i f (broken k e l xs rest a) =
      broken (suc k) (e ∙ ap misfit (omega arith)) (omega arith) xs rest (regrouped-apart pre y (take k ys) xs rest a)

  shown-finish : (pre : List Step) (y : Step) (ys : List Step) (i : ℕ) (x : Step) → IsStep t x →
      pre ++ (y ∷ []) ≡ block t x → (f : Folding) → Shown t [] ys (suc i) f → Shown t pre (y ∷ ys) i (prepend x f)
  unfolding unfold_steps concat_map prepend
  shown-finish pre y ys i x hx b f (whole xs e h q) =
      whole (x ∷ xs) (ap (prepend x) e) (more-steps t x xs hx h)
      (regrouped pre y ys (block t x ++ unfold_steps t xs) (ap₂ (λ (a c : List Step). a ++ c) b q))
  shown-finish pre y ys i x hx b f (broken k e l xs rest a) =
      broken (suc k) (ap (prepend x) e ∙ ap misfit (omega arith)) (omega arith) (x ∷ xs) rest
      (regrouped-apart pre y (take k ys) (x ∷ xs) rest
      (subst (λ zs. TakenApart t (zs ++ take k ys) (x ∷ xs) rest) (sym b) (one-more-block t x hx a)))

  pub shown : (ys : List Step) (g : Stage) (pre : List Step) → Reached t g pre → StepsOf t' pre → StepsOf t' ys →
      (i : ℕ) → Shown t pre ys i (fold_from t g i ys)
  unfolding fold_from fold_end unfold_steps concat_map all
  shown [] outside pre r before h i = whole [] refl refl (append-nil pre ∙ r)
  shown [] (inside s j b) pre r before h i =
      broken 0 (ap misfit (omega arith)) (omega arith) [] pre (open-apart (inside s j b) pre r before)
  shown (y ∷ ys) g pre r before h i = go (turn g pre r before y (head_step t' y ys h))
      (λ g pre r k. shown ys g pre r k (tail-steps t' y ys h) (suc i))
    where
      go : Turn t g pre y →
          ((g : Stage) (pre : List Step) → Reached t g pre → StepsOf t' pre →
          Shown t pre ys (suc i) (fold_from t g (suc i) ys)) →
          Shown t pre (y ∷ ys) i (fold_from t g i (y ∷ ys))
      go (off e) ih = broken 0 (e i ys ∙ ap misfit (omega arith)) (omega arith) [] pre (open-apart g pre r before)
      go (on k s e) ih =
          subst (λ f. Shown t pre (y ∷ ys) i f) (sym (e i ys))
          (shown-on pre y ys i (fold_from t k (suc i) ys)
          (ih k (pre ++ (y ∷ [])) s (last-steps t' pre y before (head_step t' y ys h))))
      go (finish x hx b e) ih =
          subst (λ f. Shown t pre (y ∷ ys) i f) (sym (e i ys))
          (shown-finish pre y ys i x hx b (fold_from t outside (suc i) ys) (ih outside [] refl refl))
