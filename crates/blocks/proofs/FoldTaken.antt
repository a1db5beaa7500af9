-- A list taken apart block by block: the steps passed are the split's, and, if all are, what was found so far is right.
use Prim.Native.Nat.{ℕ, ◌+◌, ◌-◌, ◌*◌, ◌/◌, ◌≤◌, ◌<◌}
use mathlib.Core.Path.{◌≡◌, sym, subst}
use mathlib.Core.Bool.{true, false}
use mathlib.Core.List.{List}
use Rattle.std.specs.Prelude.{None, Ok, Err}
use native.Mathlib.Omega.{arith}
use native.Mathlib.Decide.{dec_lt}
use lib.ListN.{length, get_or}
use Rattle.task.specs.Limits.{step_size}
use Rattle.task.specs.Task.{Task}
use Rattle.task.specs.Run.{is_step_at, bad_step}
use Rattle.tokens.specs.Split.{orders, split_task}
use Rattle.blocks.specs.FoldCode.{BlocksKnown, BeginsKept, SplitStepsKept, GoodBefore, TakenTold}
use Rattle.blocks.specs.FoldCode.{is_part, reached_by}
use Rattle.blocks.proofs.FoldWords.{part-yes}
use Rattle.blocks.proofs.FoldTurns.{left_from, InBlock, TakenSo, begun-known, none-begins, block-starts}
use Rattle.blocks.proofs.FoldTurns.{block-passed, block-broken, block-ends, taken_start, taken-whole}
use Rattle.blocks.proofs.FoldTurns.{taken-misfit, taken_more}

-- n steps are found in the split steps before i
pub record FoundSo (t : Task) (steps : List ℕ) (n i : ℕ) : Type 0 where
  pub good : GoodBefore t steps i
  pub right : bad_step (split_task t) steps ≡ None → TakenSo t steps n (left_from t steps i)

pub found_none : (t : Task) (steps : List ℕ) → FoundSo t steps 0 0
found_none t steps = record { good = λ k l. absurd (omega arith); right = λ g. taken_start t steps }

-- at the list's end
pub found-whole : {t : Task} {steps : List ℕ} (n i : ℕ) → i ≡ length steps / step_size → FoundSo t steps n i →
    TakenTold t steps (Ok n)
unfolding reached_by
found-whole {t} {steps} n i e h = record {
  good = λ k l. h.good k (omega arith);
  right = λ g. taken-whole t steps n i (omega arith) (h.right g);
}

module _ {t : Task} {kept begins params origins places limits pairs : List ℕ}
    (K : BlocksKnown t kept params origins places limits pairs) (B : BeginsKept t begins)
    {steps : List ℕ} {n i : ℕ} (h : FoundSo t steps n i) (l : i < length steps / step_size) where
  abbrev word : ℕ
  word = get_or begins (get_or steps (step_size * i) 0) 0

  -- if no step is bad
  abbrev judged : bad_step (split_task t) steps ≡ None → SplitStepsKept t steps kept begins origins
  judged g = record { blocks = K.blocks; good = g; begun = B; origin = K.origin }

  -- the step begins no block
  pub found-no-block : word ≡ 0 → TakenTold t steps (Err i)
  unfolding reached_by
  found-no-block e = record {
    good = h.good;
    right = λ g. taken-misfit t steps n i (none-begins (judged g) (TakenSo t steps n) i l e (h.right g));
  }

  -- it begins that of schema s
  module _ (s : ℕ) (e : word ≡ s + 1) where
    pub found-known : s < length t.schemas
    found-known = (begun-known K.blocks.some-part B (get_or steps (step_size * i) 0) s e).1

    -- and its first r parts stand there
    module _ (r : ℕ) (few : r ≤ length (orders t s)) (fit : (j : ℕ) → j < r → is_part t steps origins i s j ≡ true) where
      -- they are the split's steps
      good-past : GoodBefore t steps (i + r)
      good-past k m = elim (dec_lt k i) [
        | yes q ↦ h.good k q
        | no q ↦
            let j = k - i in
            let z : i + j ≡ k = omega arith in
            subst (λ (x : ℕ). is_step_at (split_task t) steps x ≡ true) z
            (part-yes K.blocks K.origin steps i s found-known j (omega arith) (fit j (omega arith))).0
      ]

      in_block : (g : bad_step (split_task t) steps ≡ None) → InBlock t steps origins (TakenSo t steps n) i s r
      in_block g =
          block-passed (judged g) (TakenSo t steps n) i s found-known r few fit
          (block-starts (judged g) (TakenSo t steps n) i l s e (h.right g))

      -- but the next doesn't
      pub found-broken : (k : ℕ) → k ≡ i + r → r < length (orders t s) → is_part t steps origins i s r ≡ false →
          TakenTold t steps (Err k)
      unfolding reached_by
      found-broken k z m stops = subst (λ (k : ℕ). TakenTold t steps (Err k)) (sym z) (record {
        good = good-past;
        right = λ g.
            taken-misfit t steps n (i + r)
            (block-broken (judged g) (TakenSo t steps n) i s found-known r m (in_block g) stops);
      })

      -- and these are all
      pub found-more : (k : ℕ) → k ≡ i + r → r ≡ length (orders t s) → FoundSo t steps (n + 1) k
      found-more k z m = subst (FoundSo t steps (n + 1)) (sym z) (record {
        good = good-past;
        right = λ g.
            taken_more t steps n _ (left_from t steps (i + r))
            (block-ends (judged g) (TakenSo t steps n) i s found-known r m (in_block g));
      })
