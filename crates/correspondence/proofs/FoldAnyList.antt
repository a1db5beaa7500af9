-- Folding any list of split steps gives the steps whose unfolding the list is, or the length of the longest beginning
-- that comes apart into whole blocks of steps and a beginning of a block of some choice of objects: what is read comes
-- apart; and a step that is refused is refused whatever follows it, while what comes apart is read to its end.
use Prim.Native.Nat.{ℕ, zero, suc, ◌+◌, ◌≤◌, ◌<◌}
use mathlib.Core.Path.{◌≡◌, refl, sym, ◌∙◌, ap, subst}
use mathlib.Core.List.{List, [], ◌∷◌, ◌++◌, append-nil}
use mathlib.Core.Logic.{inl, inr}
use native.Mathlib.Omega.{arith}
use native.Mathlib.Decide.{dec_lt}
use lib.ListN.{length, take}
use lib.Seq.{take-length, length-take-le}
use Rattle.words.specs.Lists.{all}
use Rattle.task.specs.Task.{Task}
use Rattle.task.specs.Run.{Step}
use Rattle.blocks.specs.Blocks.{unfold_steps, Folding, folded, misfit, prepend, Stage, outside, fold_from}
use Rattle.blocks.specs.Blocks.{fold_steps}
use Rattle.blocks.proofs.Inside.{Reached}
use Rattle.correspondence.specs.SharedRuns.{StepsOf, ProperBeginning, TakenApart, Begins, MisfitAt, FoldsApart}
use Rattle.correspondence.proofs.FoldUnfolded.{folds-back, fold-unfinished}
use Rattle.correspondence.proofs.FoldReads.{misfit-inj, folded-inj, folded-no-misfit, Turn, off, on, finish}
use Rattle.correspondence.proofs.FoldReads.{turn, Shown, whole, broken, shown}
use Rattle.blocks.proofs.Given.{Given, head_step, tail-steps, last-steps}

module _ {t t' : Task} (G : Given t t') where
  -- ---- a step that is refused is refused whatever follows it
  later-misfit : (ys : List Step) (g : Stage) (pre : List Step) → Reached t g pre → StepsOf t' pre → StepsOf t' ys →
      (n i : ℕ) → fold_from t g n ys ≡ misfit i → n ≤ i
  later-misfit ys g pre r b h n i e = go (shown G ys g pre r b h n)
    where
      go : Shown t pre ys n (fold_from t g n ys) → n ≤ i
      go (whole xs q k z) = absurd (folded-no-misfit q e)
      go (broken k q l xs rest a) = let z = misfit-inj (sym q ∙ e) in omega arith

  prepended : (x : Step) (f : Folding) (i : ℕ) → prepend x f ≡ misfit i → f ≡ misfit i
  unfolding prepend
  prepended x (folded zs) i e = absurd (folded-no-misfit refl e)
  prepended x (misfit k) i e = e

  refused-again : (ys : List Step) (g : Stage) (pre : List Step) → Reached t g pre → StepsOf t' pre → StepsOf t' ys →
      (n i : ℕ) → fold_from t g n ys ≡ misfit i → (k : ℕ) → i < n + k → k ≤ length ys → (more : List Step) →
      fold_from t g n (take k ys ++ more) ≡ misfit i
  unfolding prepend all
  refused-again ys g pre r b h n i e zero l m more = absurd (omega (arith, later-misfit ys g pre r b h n i e))
  refused-again [] g pre r b h n i e (suc k) l m more = absurd (omega arith)
  refused-again (y ∷ ys) g pre r b h n i e (suc k) l m more = go (turn G g pre r b y (head_step t' y ys h))
      (λ g pre r b e. refused-again ys g pre r b (tail-steps t' y ys h) (suc n) i e k (omega arith) (omega arith) more)
    where
      go : Turn t g pre y → ((g : Stage) (pre : List Step) → Reached t g pre → StepsOf t' pre →
          fold_from t g (suc n) ys ≡ misfit i → fold_from t g (suc n) (take k ys ++ more) ≡ misfit i) →
          fold_from t g n (y ∷ (take k ys ++ more)) ≡ misfit i
      go (off q) ih = q n (take k ys ++ more) ∙ sym (q n ys) ∙ e
      go (on a s q) ih =
          q n (take k ys ++ more) ∙
          ih a (pre ++ (y ∷ [])) s (last-steps t' pre y b (head_step t' y ys h)) (sym (q n ys) ∙ e)
      go (finish x hx c q) ih =
          q n (take k ys ++ more) ∙
          ap (prepend x) (ih outside [] refl refl (prepended x (fold_from t outside (suc n) ys) i (sym (q n ys) ∙ e)))

  -- ---- the answer
  module _ (ys : List Step) (h : StepsOf t' ys) where
    folds-forth : (xs : List Step) → fold_steps t ys ≡ folded xs → StepsOf t xs × (ys ≡ unfold_steps t xs)
    unfolding fold_steps all
    folds-forth xs e = go (shown G ys outside [] refl refl h 0)
      where
        go : Shown t [] ys 0 (fold_steps t ys) → StepsOf t xs × (ys ≡ unfold_steps t xs)
        go (whole zs q k z) =
            let same = folded-inj (sym q ∙ e) in
            (subst (λ xs. StepsOf t xs) same k, z ∙ ap (unfold_steps t) same)
        go (broken k q l zs rest a) = absurd (folded-no-misfit e q)

    unfolding-folds : (xs : List Step) → StepsOf t xs → ys ≡ unfold_steps t xs → fold_steps t ys ≡ folded xs
    unfolding fold_steps
    unfolding-folds xs k e = ap (fold_steps t) e ∙ folds-back G xs 0 k

    unfinished-misfit : (i : ℕ) → fold_steps t ys ≡ misfit i → (xs rest : List Step) → TakenApart t ys xs rest →
        ProperBeginning t rest → i ≡ length ys
    unfolding fold_steps
    unfinished-misfit i e xs rest a b = misfit-inj (sym e ∙ ap (fold_steps t) a.blocks ∙
        fold-unfinished G xs rest 0 a.steps b ∙ ap misfit (omega (arith, ap length a.blocks)))

    misfits-forth : (i : ℕ) → fold_steps t ys ≡ misfit i → MisfitAt t ys i
    unfolding fold_steps all
    misfits-forth i e = go (shown G ys outside [] refl refl h 0)
      where
        no-unfolding : (xs : List Step) → StepsOf t xs → ys ≡ unfold_steps t xs → ⊥
        no-unfolding xs k q = folded-no-misfit (unfolding-folds xs k q) e

        longest : (k : ℕ) → i < k → k ≤ length ys → Begins t (take k ys) → ⊥
        longest k l m (xs, rest, a) = elim a.remainder [
          | inl z ↦
              folded-no-misfit (folds-back G xs 0 a.steps)
              (ap (fold_from t outside 0) (sym (a.blocks ∙ ap (λ r. unfold_steps t xs ++ r) z ∙
              append-nil (unfold_steps t xs))) ∙ again)
          | inr b ↦
              let n = misfit-inj (sym again ∙ ap (fold_from t outside 0) a.blocks ∙
              fold-unfinished G xs rest 0 a.steps b) in
              omega (arith, ap length a.blocks, length-take-le k ys m)
        ]
          where
            again : fold_from t outside 0 (take k ys) ≡ misfit i
            again = ap (fold_from t outside 0) (sym (append-nil (take k ys))) ∙
                refused-again ys outside [] refl refl h 0 i e k (omega arith) m []

        left_over : (xs rest : List Step) → TakenApart t ys xs rest → ProperBeginning t rest
        left_over xs rest a = elim a.remainder [
          | inl z ↦ absurd (no-unfolding xs a.steps
              (a.blocks ∙ ap (λ r. unfold_steps t xs ++ r) z ∙ append-nil (unfold_steps t xs)))
          | inr b ↦ b
        ]

        go : Shown t [] ys 0 (fold_steps t ys) → MisfitAt t ys i
        go (whole zs q k z) = absurd (folded-no-misfit q e)
        go (broken k q l zs rest a) = at (let n = misfit-inj (sym e ∙ q) in omega arith)
          where
            whole-list : k ≡ length ys → TakenApart t ys zs rest
            whole-list n = subst (λ us. TakenApart t us zs rest) (ap (λ m. take m ys) n ∙ take-length ys) a

            at : i ≡ k → MisfitAt t ys i
            at n = record {
              no-unfolding = no-unfolding;
              within = omega arith;
              begins = subst (λ m. Begins t (take m ys)) (sym n) (zs, rest, a);
              longest = longest;
              unfinished = (
                λ m. let w = whole-list (omega arith) in (zs, rest, w, left_over zs rest w),
                λ (xs, r, w, b). unfinished-misfit i e xs r w b,
              );
            }

    misfits-back : (i : ℕ) → MisfitAt t ys i → fold_steps t ys ≡ misfit i
    misfits-back i m = go (fold_steps t ys) refl
      where
        same : (k : ℕ) → MisfitAt t ys k → k ≡ i
        same k n =
            let a = m.within in
            let b = n.within in
            elim (dec_lt k i) [
              | yes q ↦ absurd (n.longest i q a m.begins)
              | no q ↦ elim (dec_lt i k) [ yes p ↦ absurd (m.longest k p b n.begins) | no p ↦ omega arith ]
            ]

        go : (f : Folding) → fold_steps t ys ≡ f → f ≡ misfit i
        go (folded xs) e = let (k, q) = folds-forth xs e in absurd (m.no-unfolding xs k q)
        go (misfit k) e = ap misfit (same k (misfits-forth k e))

    pub folds-apart : FoldsApart t ys
    folds-apart = record {
      folds = λ xs. (folds-forth xs, λ (k, e). unfolding-folds xs k e);
      misfits = λ i. (misfits-forth i, misfits-back i);
    }
