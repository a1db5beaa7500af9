-- The outer invariant: the steps before i are the split's, and, if all are, the whole list is the steps taken and what
-- is left of it from i on. The inner one: the parts before position j of the open block stand. Each block passes a split
-- step, so the split steps left fall.
use Prim.Native.Nat.{ℕ, ◌+◌, ◌-◌, ◌/◌, ◌≤◌, ◌<◌}
use mathlib.Core.Path.{◌≡◌}
use mathlib.Core.Bool.{true}
use mathlib.Core.List.{List}
use lib.ListN.{length}
use Rattle.task.specs.Limits.{step_size}
use Rattle.task.specs.Task.{Task}
use Rattle.blocks.specs.FoldCode.{BlocksKnown, BeginsKept, KeepApart, is_part}
use Rattle.blocks.proofs.FoldTaken.{FoundSo}
use Rattle.blocks.proofs.folding.take_apart.Given as goal

abbrev pub invariant-list : goal.invariant-list
invariant-list l = record {
  within : l.i ≤ length l.fn.steps / step_size;
  few : l.taken ≤ l.i;
  found : (t : Task) (os ps : List ℕ) → BlocksKnown t l.fn.kept l.fn.params os l.fn.places l.fn.limits ps →
      KeepApart t l.fn.steps → BeginsKept t l.fn.begins → FoundSo t l.fn.steps l.taken l.i;
}

abbrev pub decreases-list : goal.decreases-list
decreases-list l = length l.fn.steps / step_size - l.i

abbrev pub invariant-loop-j : goal.invariant-loop-j
invariant-loop-j l = record {
  within : l.i + l.j ≤ length l.fn.steps / step_size;
  stand : (t : Task) (os ps : List ℕ) → BlocksKnown t l.fn.kept l.fn.params os l.fn.places l.fn.limits ps →
      KeepApart t l.fn.steps → l.s < length t.schemas → (k : ℕ) → k < l.j → is_part t l.fn.steps os l.i l.s k ≡ true;
}
