-- Running a list: between the steps, running those left from the state kept gives what running all was to give. The
-- words never change their number, so the room is the same at each step.
use Prim.Native.Nat.{ℕ, suc, ◌+◌, ◌-◌, ◌*◌, ◌/◌, ◌≤◌, ◌<◌}
use mathlib.Core.Path.{◌≡◌, refl, sym, ◌∙◌, ap, ap₂, subst}
use mathlib.Core.Bool.{Bool, true, false, not}
use Rattle.std.specs.Prelude.{None, Ok, Err}
use mathlib.Core.Logic.{inl, inr}
use mathlib.Core.List.{List, [], ◌∷◌, map}
use native.Mathlib.Omega.{arith}
use native.Mathlib.Numerals.{add-one}
use lib.ListN.{length, get_or}
use lib.Dec.{leb}
use Rattle.task.specs.Limits.{step_size}
use Rattle.task.specs.declared.refusals.Reason.{Reason}
use Rattle.words.specs.Lists.{up_to, up_from}
use Rattle.task.specs.Task.{Fact, Task}
use Rattle.task.specs.Table.{task_of, is_table}
use Rattle.task.specs.Run.{
  Step,
  step_at,
  is_step_at,
  bad_step,
  steps_in,
  state_in,
  room_in,
  is_state,
  applies,
  next,
  ran,
  stopped,
  outgrown,
  turn,
  run_fitting,
  run_within,
}
use Rattle.task.specs.Turns.{first_atom, Starts, Turned, StoppedBy}
use Rattle.words.proofs.Lists.{in-up_to, first-none}
use Rattle.task.proofs.TablesByIndex.{table-frame, schemas-word}
use Rattle.task.proofs.StepSpans.{schema-known}
use Rattle.task.proofs.StartLaws.{schemas-few}

-- ---- checked steps
pub good-step : (t : Task) (steps : List ℕ) → bad_step t steps ≡ None → (i : ℕ) → i < length steps / step_size →
    is_step_at t steps i ≡ true
unfolding bad_step
good-step t steps h i l = go (is_step_at t steps i) refl
  where
    go : (b : Bool) → is_step_at t steps i ≡ b → b ≡ true
    go true e = refl
    go false e = absurd (first-none (λ i. not (is_step_at t steps i)) h
        (in-up_to ((length steps + 12) / step_size) i (omega arith)) (ap not e))

module _ (w starts steps : List ℕ) (i : ℕ) (h : is_table w ≡ true) (b : Starts (task_of w) starts)
    (st : is_step_at (task_of w) steps i ≡ true) where
  pub schema-below : get_or steps (step_size * i) 0 < 200
  schema-below = let k = schema-known w steps i h st in let f = schemas-few w h in omega arith

  pub start-found : get_or starts (get_or steps (step_size * i) 0) 0 ≡ first_atom (task_of w) (get_or steps (step_size * i) 0)
  start-found =
      let n = schemas-word w (table-frame w h) in
      let k = schema-known w steps i h st in
      b (get_or steps (step_size * i) 0) (omega arith)

  pub end-found : get_or starts (get_or steps (step_size * i) 0 + 1) 0 ≡ first_atom (task_of w)
      (suc (get_or steps (step_size * i) 0))
  end-found =
      let s : ℕ = get_or steps (step_size * i) 0 in
      let n = schemas-word w (table-frame w h) in
      let k = schema-known w steps i h st in
      ap (λ (j : ℕ). get_or starts j 0) (add-one s) ∙ b (suc s) (omega arith)

-- ---- the rest of a list
pub rest : Task → List ℕ → ℕ → ℕ → List Step
rest t steps i count = map (step_at t steps) (up_from i (count - i))

rest_more : (t : Task) (steps : List ℕ) (i count : ℕ) → i < count →
    rest t steps i count ≡ step_at t steps i ∷ rest t steps (i + 1) count
unfolding rest up_from
rest_more t steps i count l =
    let e : count - i ≡ suc (count - (i + 1)) = omega arith in
    ap (λ (n : ℕ). map (step_at t steps) (up_from i n)) e ∙
    ap {B = List Step} (λ (a : ℕ). step_at t steps i ∷ map (step_at t steps) (up_from a (count - (i + 1))))
    (sym (add-one i))

rest_end : (t : Task) (steps : List ℕ) (i count : ℕ) → count ≤ i → rest t steps i count ≡ []
unfolding rest up_from
rest_end t steps i count l = let e : count - i ≡ 0 = omega arith in ap (λ (n : ℕ). map (step_at t steps) (up_from i n)) e

pub fits_in : ℕ → List Fact → Bool
fits_in room s = leb (length s) room

-- the state kept before step i, and that running the rest gives the whole's end
pub record RunSo (t : Task) (steps found : List ℕ) (n count : ℕ) (state : List ℕ) (left i : ℕ) : Type 0 where
  pub size : length state ≡ length found
  pub state_is : is_state t state left ≡ true
  pub same : run_fitting t (fits_in (room_in found)) i (rest t steps i count) (state_in t state left) ≡
      run_within (room_in found) t (steps_in t steps) (state_in t found n)

pub run-start : (t : Task) (steps state : List ℕ) (n : ℕ) → is_state t state n ≡ true →
    RunSo t steps state n (length steps / step_size) state n 0
unfolding run_within steps_in up_to rest fits_in
run-start t steps state n h = record {
  size = refl;
  state_is = h;
  same =
      let e : length steps / step_size - 0 ≡ length steps / step_size = omega arith in
      ap (λ (m : ℕ). run_fitting t (λ s. leb (length s) (room_in state)) 0 (map (step_at t steps) (up_from 0 m))
      (state_in t state n)) e;
}

room-same : (state found : List ℕ) → length state ≡ length found → room_in state ≡ room_in found
unfolding room_in
room-same state found e = ap (λ (m : ℕ). m / 5) e

module _ {t : Task} {steps found : List ℕ} {n count : ℕ} {state : List ℕ} {left i : ℕ}
    (c : RunSo t steps found n count state left i) where
  abbrev x : Step
  x = step_at t steps i

  abbrev s : List Fact
  s = state_in t state left

  more : i < count → run_within (room_in found) t (steps_in t steps) (state_in t found n) ≡
      turn (applies t s x) (leb (length (next t s x)) (room_in found)) i s
      (run_fitting t (fits_in (room_in found)) (suc i) (rest t steps (i + 1) count) (next t s x))
  unfolding run_fitting fits_in
  more l = sym c.same ∙ ap (λ (xs : List Step). run_fitting t (fits_in (room_in found)) i xs s)
      (rest_more t steps i count l)

  fits-found : {b : Bool} → leb (length (next t s x)) (room_in state) ≡ b → leb (length (next t s x)) (room_in found) ≡ b
  fits-found e = ap (leb (length (next t s x))) (sym (room-same state found c.size)) ∙ e

  pub run-turn : (m : ℕ) (out : List ℕ) → i < count → length out ≡ length state → Turned t x state left (Ok m) out →
      RunSo t steps found n count out m (i + 1)
  unfolding Turned turn
  run-turn m out l z h = record {
    size = z ∙ c.size;
    state_is = h.2.state;
    same =
        ap₂ (λ (j : ℕ) (y : List Fact). run_fitting t (fits_in (room_in found)) j (rest t steps (i + 1) count) y)
        (add-one i) h.2.facts ∙
        sym (more l ∙ ap₂ (λ (p q : Bool). turn p q i s
        (run_fitting t (fits_in (room_in found)) (suc i) (rest t steps (i + 1) count) (next t s x)))
        h.0 (fits-found h.1));
  }

  -- a step that doesn't run leaves the state, and stops the list by its reason
  pub run-stops : (out : List ℕ) (r : Reason) → i < count → Turned t x state left (Err r) out →
      (is_state t out left ≡ true) ×
      StoppedBy r i (state_in t out left) (run_within (room_in found) t (steps_in t steps) (state_in t found n))
  unfolding Turned turn
  run-stops out r l (inl (e, h), q) = (
    subst (λ (y : List ℕ). is_state t y left ≡ true) (sym q) c.state_is,
    inl (
      e,
      more l ∙
          (ap (λ (p : Bool). turn p (leb (length (next t s x)) (room_in found)) i s
          (run_fitting t (fits_in (room_in found)) (suc i) (rest t steps (i + 1) count) (next t s x))) h ∙
          ap (λ (y : List ℕ). stopped i (state_in t y left)) (sym q)),
    ),
  )
  run-stops out r l (inr (e, h, k), q) = (
    subst (λ (y : List ℕ). is_state t y left ≡ true) (sym q) c.state_is,
    inr (
      e,
      more l ∙
          (ap₂ (λ (p q : Bool). turn p q i s
          (run_fitting t (fits_in (room_in found)) (suc i) (rest t steps (i + 1) count) (next t s x)))
          h (fits-found k) ∙
          ap (λ (y : List ℕ). outgrown i (state_in t y left)) (sym q)),
    ),
  )

  pub run-ended : count ≤ i → run_within (room_in found) t (steps_in t steps) (state_in t found n) ≡ ran s
  unfolding run_fitting
  run-ended l = sym c.same ∙ ap (λ (xs : List Step). run_fitting t (fits_in (room_in found)) i xs s)
      (rest_end t steps i count l)
