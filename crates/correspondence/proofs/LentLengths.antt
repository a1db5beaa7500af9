-- 'Lent lengths aside' can always be met: with so much lent, no answer is 1, 13 or 17. An unfolding is as long as its
-- list or longer, and at most 16 times as long; and with room for all that a list adds, running never outgrows its
-- records.
use Prim.Native.Nat.{ℕ, ◌*◌, ◌≤◌}
use mathlib.Core.Path.{◌≡◌, refl, sym, ◌∙◌, ap}
use mathlib.Core.Bool.{Bool, true, false, ◌||◌}
use mathlib.Core.List.{List}
use Rattle.std.specs.Prelude.{Option, None, Some}
use native.Mathlib.Omega.{arith}
use lib.ListN.{length}
use lib.Dec.{eqb}
use borrow.Author.Tests.{eq-eqb}
use Rattle.task.specs.Limits.{most_parts}
use Rattle.task.specs.Answers.{told_number}
use Rattle.task.specs.Task.{Task}
use Rattle.task.specs.Table.{task_of, long_enough, is_table}
use Rattle.task.specs.Run.{steps_in, bad_step, state_in, is_state, room_in, Running, ran, stopped, outgrown, run_within}
use Rattle.task.specs.Run.{run_told, run_done, run_outcome}
use Rattle.blocks.specs.Blocks.{unfold_outcome, fold_outcome}
use Rattle.words.proofs.Lists.{both-ft, or_left, or_right}
use Rattle.task.proofs.BadSteps.{steps-whole}
use Rattle.task.proofs.StateWords.{length-state_in}
use Rattle.task.proofs.SizeLaws.{state-asc}
use Rattle.correspondence.proofs.RunCases.{run-no-table, run-bad-step, run-no-state, run-done}
use Rattle.task.proofs.RoomEnough.{never-outgrown}
use Rattle.tokens.proofs.SplitAnswers.{AcceptedSplit, accepted-split}
use Rattle.blocks.proofs.BlockAnswers.{length-list, unfolding_of, UnfoldCase, unfold-refused, unfold-longer, unfolds}
use Rattle.blocks.proofs.BlockAnswers.{unfold-cases, FoldCase, fold-refused, fold-misfits, fold-longer, folds}
use Rattle.blocks.proofs.BlockAnswers.{fold-cases}
use Rattle.correspondence.specs.SharedRunsOnWords.{number, LengthsAside, RoomToRun, LengthsAlwaysMet}
use Rattle.correspondence.proofs.Demand3.{demand-3}
use Rattle.blocks.proofs.SplitSteps.{the-given, unfolded-steps, unfolded-between}

-- an answer's number that is another one
aside : {m : ℕ} (n : ℕ) → m ≡ n → eqb n 1 || (eqb n 13 || eqb n 17) ≡ false →
    (m ≡ 1 → ⊥) × (m ≡ 13 → ⊥) × (m ≡ 17 → ⊥)
aside n q h = (
  λ z. both-ft (or_left (eqb n 1) _ (eq-eqb n 1 (sym q ∙ z))) h,
  λ z. both-ft (or_right (eqb n 1) _ (or_left (eqb n 13) _ (eq-eqb n 13 (sym q ∙ z)))) h,
  λ z. both-ft (or_right (eqb n 1) _ (or_right (eqb n 13) _ (eq-eqb n 17 (sym q ∙ z)))) h,
)

-- ---- unfolding and folding
module _ {table words : List ℕ} (A : AcceptedSplit table words) where
  abbrev t : Task
  t = task_of table

  abbrev t' : Task
  t' = task_of words

  pub unfolding-lent-enough : (steps lent : List ℕ) → most_parts * length steps ≤ length lent →
      LengthsAside (unfold_outcome table steps lent)
  unfolding-lent-enough steps lent enough =
      go (unfold-cases table steps lent t' A.long A.is-table A.accepted)
    where
      go : UnfoldCase table steps lent → LengthsAside (unfold_outcome table steps lent)
      go (unfold-refused i e q) = aside 12 (ap told_number q) refl
      go (unfolds e q) = aside 0 (ap number q) refl
      go (unfold-longer e l q) =
          let whole = steps-whole t steps e in
          let are = unfolded-steps (the-given A) (steps_in t steps) whole.1 in
          let most = (unfolded-between A (steps_in t steps) whole.1).1 in
          absurd (omega (arith, whole.0, length-list t' A.split-well-formed (unfolding_of table steps) are))

  pub folding-lent-enough : (ys lent : List ℕ) → length ys ≤ length lent → LengthsAside (fold_outcome table ys lent)
  folding-lent-enough ys lent enough = go (fold-cases table ys lent t' A.long A.is-table A.accepted)
    where
      go : FoldCase table ys lent t' → LengthsAside (fold_outcome table ys lent)
      go (fold-refused i e q) = aside 12 (ap told_number q) refl
      go (fold-misfits i e f q) = aside 14 (ap told_number q) refl
      go (folds xs e f q) = aside 0 (ap number q) refl
      go (fold-longer xs e f l q) =
          let whole = steps-whole t' ys e in
          let (are, b) = (((demand-3 t t' A.well A.accepted).folding (steps_in t' ys) whole.1).folds xs).0 f in
          let least = (unfolded-between A xs are).0 in
          absurd (omega (arith, whole.0, ap length b, length-list t A.well xs are))

-- ---- running, of any table
module _ (table steps state : List ℕ) (k : ℕ) (long : long_enough table ≡ true)
    (room : RoomToRun table steps state k) where
  abbrev u : Task
  u = task_of table

  abbrev ran_within : Running
  ran_within = run_within (room_in state) u (steps_in u steps) (state_in u state k)

  pub running-lent-enough : LengthsAside (run_outcome table steps state k)
  unfolding run_done run_told
  running-lent-enough = go (is_table table) refl (bad_step u steps) refl (is_state u state k) refl
    where
      ended : is_table table ≡ true → is_state u state k ≡ true →
          run_outcome table steps state k ≡ run_done u (length state) ran_within →
          (r : Running) → ran_within ≡ r → LengthsAside (run_outcome table steps state k)
      ended e d o (ran s) q = aside 0 (ap number (o ∙ ap (run_done u (length state)) q)) refl
      ended e d o (stopped i s) q = aside 16 (ap number (o ∙ ap (run_done u (length state)) q)) refl
      ended e d o (outgrown i s) q =
          let n = length-state_in u state k in
          absurd (never-outgrown (room_in state) u (steps_in u steps) (state_in u state k) (state-asc table state k e d)
          (omega arith) i s q)

      go : (is : Bool) → is_table table ≡ is → (bad : Option ℕ) → bad_step u steps ≡ bad →
          (fine : Bool) → is_state u state k ≡ fine → LengthsAside (run_outcome table steps state k)
      go false e bad b fine d = aside 2 (ap number (run-no-table table steps state k long e)) refl
      go true e (Some i) b fine d = aside 12 (ap number (run-bad-step table steps state k long e b)) refl
      go true e None b false d = aside 15 (ap number (run-no-state table steps state k long e b d)) refl
      go true e None b true d = ended e d (run-done table steps state k long e b d) ran_within refl

-- ---- all of them
pub lengths-met : LengthsAlwaysMet
lengths-met table lent h =
    let A = accepted-split table lent h in
    record {
      unfolds = unfolding-lent-enough A;
      folds = folding-lent-enough A;
      runs = λ steps state k. running-lent-enough table steps state k A.long;
      split_runs = λ ys state k. running-lent-enough _ ys state k A.split-long;
    }
