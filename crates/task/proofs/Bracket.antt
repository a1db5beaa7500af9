-- Binary search over ascending rows: lo and hi bracket the first row whose number is not below the one looked for.
-- The rows ascend, so the row in the middle settles all on one side of it.
use Prim.Native.Nat.{ℕ, ◌+◌, ◌≤◌, ◌<◌}
use mathlib.Core.List.{List}
use native.Mathlib.Nat.{le_trans, lt_of_le_of_lt}
use native.Mathlib.Omega.{arith}
use Rattle.task.specs.Records.{row_number, RowsAscend, LowerBound}

pub record Bracket (w : List ℕ) (n number lo hi : ℕ) : Type 0 where
  pub ordered : lo ≤ hi
  pub within : hi ≤ n
  pub below : (i : ℕ) → i < lo → row_number w i < number
  pub from : (i : ℕ) → hi ≤ i → i < n → number ≤ row_number w i

pub bracket-all : (w : List ℕ) (n number : ℕ) → Bracket w n number 0 n
bracket-all w n number = record {
  ordered = omega arith;
  within = omega arith;
  below = λ i l. absurd (omega arith);
  from = λ i l m. absurd (omega arith);
}

module _ {w : List ℕ} {n number lo hi : ℕ} (a : RowsAscend w n) (b : Bracket w n number lo hi) (m : ℕ) (l : lo ≤ m)
    (h : m < hi) where
  pub bracket-up : row_number w m < number → Bracket w n number (m + 1) hi
  bracket-up x = record {
    ordered = omega arith;
    within = b.within;
    below = λ i k. lt_of_le_of_lt (a i m (omega arith) (let z = b.within in omega arith)) x;
    from = b.from;
  }

  pub bracket-down : number ≤ row_number w m → Bracket w n number lo m
  bracket-down x = record {
    ordered = l;
    within = let z = b.within in omega arith;
    below = b.below;
    from = λ i k j. le_trans x (a m i k j);
  }

pub bracket-met : {w : List ℕ} {n number lo hi : ℕ} → hi ≤ lo → Bracket w n number lo hi → LowerBound w n number lo
bracket-met l b = record {
  within = let y = b.within in let z = b.ordered in omega arith;
  below = b.below;
  from = λ i k m. b.from i (omega arith) m;
}
