-- The end of a run: the words that keep the last state, with zeros behind them, and what the answer tells.
use Prim.Native.Nat.{ℕ, ◌+◌, ◌*◌, ◌≤◌, ◌<◌}
use mathlib.Core.Path.{◌≡◌, refl, sym, ◌∙◌, ap, ap₂, subst}
use mathlib.Core.Bool.{Bool, true}
use mathlib.Core.Logic.{inl, inr}
use mathlib.Core.List.{List, [], ◌∷◌}
use native.Mathlib.Omega.{arith}
use lib.ListN.{length, get_or, take}
use lib.Seq.{length-take-le, get_or-take, ext_get_or}
use Rattle.task.specs.declared.Place.TheVariants as place
use Rattle.task.specs.declared.RunError.TheVariants as error
use Rattle.task.specs.declared.refusals.Reason.{Reason}
use Rattle.task.specs.declared.Ran.{Ran}
use Rattle.task.specs.declared.RunError.{RunError}
use Rattle.std.specs.Prelude.{Result, Ok, Err}
use Rattle.words.specs.Lists.{padded}
use Rattle.task.specs.Answers.{reason_number, result, refused}
use Rattle.task.specs.Task.{Task}
use Rattle.words.specs.Words.{words_at}
use Rattle.task.specs.Run.{
  state_words,
  state_in,
  is_state,
  goal_met,
  Running,
  ran,
  stopped,
  outgrown,
  bit,
  run_told,
  run_done,
  run_answer_told,
  left as last_state,
}
use Rattle.task.specs.Turns.{StoppedBy}
use Rattle.words.proofs.Words.{length-words_at}
use Rattle.words.proofs.Lists.{get_or-mapped}
use Rattle.task.proofs.Rows.{room-words}
use Rattle.task.proofs.StateWords.{state-here, length-state_in}

-- ---- words
words-taken : (w : List ℕ) (m : ℕ) → m ≤ length w → words_at w 0 m ≡ take m w
unfolding words_at
words-taken w m l =
    let a = length-words_at w 0 m in
    let b = length-take-le m w l in
    ext_get_or 0 (words_at w 0 m) (take m w) (a ∙ sym b) (λ k x.
    let z : 0 + k ≡ k = omega arith in
    let y : k < m = omega arith in
    get_or-mapped (λ k. get_or w k 0) 0 m k 0 y ∙ (ap (λ (j : ℕ). get_or w j 0) z ∙ sym (get_or-take m w k 0 y)))

pub state-fills : (t : Task) (w : List ℕ) (n : ℕ) → is_state t w n ≡ true → 5 * n ≤ length w
state-fills t w n h = room-words w n (state-here t w n h).room

pub state-taken : (t : Task) (w : List ℕ) (n : ℕ) → is_state t w n ≡ true → take (5 * n) w ≡ state_words (state_in t w n)
state-taken t w n h = sym (words-taken w (5 * n) (state-fills t w n h)) ∙ (state-here t w n h).words

-- ---- the outcome
module _ (t : Task) (w out : List ℕ) (n size : ℕ) (h : is_state t w n ≡ true) (z : length w ≡ size)
    (c : out ≡ padded (length w) (take (5 * n) w)) where
  -- an answer tells what the outcome tells, and the words are those that it leaves
  abbrev pub Done : Result Ran RunError → Running → Type 0
  Done a r = (run_answer_told a ≡ (run_done t size r).told) × (out ≡ (run_done t size r).buffer)

  -- whichever way a list ended, the words keep the state that it left
  done-so : (a : Result Ran RunError) {r : Running} (known : Running) → r ≡ known → last_state known ≡ state_in t w n →
      run_answer_told a ≡ run_told t known → Done a r
  unfolding run_done
  done-so a known e left told =
      subst (Done a) (sym e) (told, c ∙ ap₂ padded z (state-taken t w n h ∙ ap state_words (sym left)))

  pub done-ran : {r : Running} {g : Bool} → r ≡ ran (state_in t w n) → g ≡ goal_met t (state_in t w n) →
      Done (Ok (record { left = n; goal = g })) r
  unfolding run_answer_told run_told last_state
  done-ran {g = g} e q =
      done-so (Ok (record { left = n; goal = g })) (ran (state_in t w n)) e refl
      (ap₂ (λ (m : ℕ) (b : Bool). result (m ∷ bit b ∷ [])) (sym (length-state_in t w n)) q)

  -- 16 and 17: a refusal with the step and the records left
  abbrev stop_at : Reason → ℕ → Result Ran RunError
  stop_at r i = Err (error.Stopped (record { reason = r; place = place.Step i }) n)

  stop-told : (r : Reason) (i : ℕ) →
      run_answer_told (stop_at r i) ≡ refused (reason_number r) (place.Step i) (length (state_in t w n) ∷ [])
  unfolding run_answer_told
  stop-told r i = ap (λ (m : ℕ). refused (reason_number r) (place.Step i) (m ∷ [])) (sym (length-state_in t w n))

  pub done-stopped : (r : Reason) (i : ℕ) (run : Running) → StoppedBy r i (state_in t w n) run → Done (stop_at r i) run
  unfolding run_told last_state
  done-stopped r i run (inl (e, h)) =
      done-so (stop_at r i) (stopped i (state_in t w n)) h refl
      (stop-told r i ∙ ap (λ (r : Reason). refused (reason_number r) (place.Step i) (length (state_in t w n) ∷ [])) e)
  done-stopped r i run (inr (e, h)) =
      done-so (stop_at r i) (outgrown i (state_in t w n)) h refl
      (stop-told r i ∙ ap (λ (r : Reason). refused (reason_number r) (place.Step i) (length (state_in t w n) ∷ [])) e)
