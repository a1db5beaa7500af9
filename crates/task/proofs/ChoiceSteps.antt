-- What a first look over a list, at schemas and objects, tells of its first bad step: it is that where there is no pair,
-- and where all steps before its end are good; else the first before its end whose pairs are not apart is it.
use Prim.Native.Nat.{ℕ, ◌+◌, ◌*◌, ◌≤◌, ◌<◌}
use mathlib.Core.Path.{◌≡◌, sym, ◌∙◌, ap}
use mathlib.Core.Bool.{Bool, true, false, ◌&&◌}
use mathlib.Core.List.{List}
use Rattle.std.specs.Prelude.{Option, None, Some}
use Rattle.std.specs.Option.{MatchOption, unwrap_or, option_or}
use native.Mathlib.Omega.{arith}
use lib.ListN.{get_or}
use Rattle.words.specs.Lists.{all, up_from, up_to}
use Rattle.task.specs.Layout.{head_in, pairs_base}
use Rattle.task.specs.Limits.{step_size}
use Rattle.task.specs.Table.{task_of}
use Rattle.task.specs.Run.{is_step_at, bad_step}
use Rattle.task.specs.StepTests.{apart_at, rows_apart}
use Rattle.task.specs.Choices.{ChoiceAt, ChoicesBefore, ChoiceTold, EqualTold}
use Rattle.task.proofs.BadSteps.{tried, bad-step-at, no-bad-step}

module _ (w steps : List ℕ) where
  -- what is a step but for its pairs is one where they are apart
  pub choice-known : {r : Bool} (k : ℕ) → is_step_at (task_of w) steps k ≡ r && rows_apart w steps k → r ≡ true →
      is_step_at (task_of w) steps k ≡ rows_apart w steps k
  choice-known k e c = e ∙ ap (λ (b : Bool). b && rows_apart w steps k) c

  -- and is none where it is none whatever its pairs
  pub choice-none : {r : Bool} (k : ℕ) → is_step_at (task_of w) steps k ≡ r && rows_apart w steps k → r ≡ false →
      is_step_at (task_of w) steps k ≡ false
  choice-none k e c = e ∙ ap (λ (b : Bool). b && rows_apart w steps k) c

  -- without pairs they are apart
  pub no_rows : (head_in w).pairs ≡ 0 → (k : ℕ) → rows_apart w steps k ≡ true
  unfolding all up_to up_from
  no_rows none k =
      let at : ℕ = step_size * k in
      ap (λ (n : ℕ). all (apart_at w (pairs_base w) steps (at + 1) (get_or steps at 0)) (up_to n)) none

  -- a step before the end is whole, and known by its pairs
  pub before-end : (r : Option ℕ) (begun : ℕ) → ChoiceTold w steps begun r → ChoicesBefore w steps (unwrap_or r begun)
  unfolding ChoiceTold
  before-end (Some i) begun h = h.2
  before-end None begun h = h

  -- the end is no later than the steps begun
  pub end-within : (r : Option ℕ) (begun : ℕ) → ChoiceTold w steps begun r → unwrap_or r begun ≤ begun
  unfolding ChoiceTold
  end-within (Some i) begun h = let l = h.0 in omega arith
  end-within None begun h = omega arith

  -- where all before the end are good, it tells the first bad step
  pub choice-tells : (r : Option ℕ) (begun : ℕ) → begun ≡ tried steps → ChoiceTold w steps begun r →
      ((k : ℕ) → k < unwrap_or r begun → is_step_at (task_of w) steps k ≡ true) → r ≡ bad_step (task_of w) steps
  unfolding ChoiceTold
  choice-tells (Some i) begun e h good = sym (bad-step-at (task_of w) steps i (let l = h.0 in omega arith) good h.1)
  choice-tells None begun e h good = sym (no-bad-step (task_of w) steps (λ k l. good k (omega arith)))

  -- as without pairs
  pub choice-bad : (r : Option ℕ) (begun : ℕ) → begun ≡ tried steps → (head_in w).pairs ≡ 0 →
      ChoiceTold w steps begun r → r ≡ bad_step (task_of w) steps
  choice-bad r begun e none h = choice-tells r begun e h (λ k l. (before-end r begun h k l).1 ∙ no_rows none k)

  -- with pairs, the first of those before the end whose pairs are not apart tells, else the first look
  pub equal-tells : (r e : Option ℕ) (begun : ℕ) → begun ≡ tried steps → ChoiceTold w steps begun r →
      EqualTold w steps (unwrap_or r begun) e → option_or e r ≡ bad_step (task_of w) steps
  unfolding EqualTold
  equal-tells r (Some i) begun z h q =
      let l = q.0 in
      let m = end-within r begun h in
      sym (bad-step-at (task_of w) steps i (omega arith) (λ k x. (before-end r begun h k (omega arith)).1 ∙ q.2 k x)
      ((before-end r begun h i l).1 ∙ q.1))
  equal-tells r None begun z h q = choice-tells r begun z h (λ k l. (before-end r begun h k l).1 ∙ q k l)

  -- what a search tells
  pub choice-found : (begun : ℕ) (r : Option ℕ) → MatchOption r ((k : ℕ) → 0 ≤ k → k < begun → ChoiceAt w steps k)
      (λ i. (0 ≤ i) × (i < begun) × (is_step_at (task_of w) steps i ≡ false) ×
      ((k : ℕ) → 0 ≤ k → k < i → ChoiceAt w steps k)) → ChoiceTold w steps begun r
  unfolding ChoiceTold
  choice-found begun None h = λ k l. h k (omega arith) l
  choice-found begun (Some i) h = (h.1, h.2, λ k l. h.3 k (omega arith) l)

  pub equal-found : (end : ℕ) (r : Option ℕ) → MatchOption r ((k : ℕ) → 0 ≤ k → k < end → rows_apart w steps k ≡ true)
      (λ i. (0 ≤ i) × (i < end) × (rows_apart w steps i ≡ false) ×
      ((k : ℕ) → 0 ≤ k → k < i → rows_apart w steps k ≡ true)) → EqualTold w steps end r
  unfolding EqualTold
  equal-found end None h = λ k l. h k (omega arith) l
  equal-found end (Some i) h = (h.1, h.2, λ k l. h.3 k (omega arith) l)
