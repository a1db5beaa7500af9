-- The whole test is that no word so far is beyond its limit, and what is left of it from word k on.
use Prim.Native.Nat.{◌+◌, ◌-◌}
use mathlib.Core.Path.{◌≡◌}
use mathlib.Core.Bool.{◌&&◌}
use lib.Dec.{eqb}
use Rattle.words.specs.Lists.{all, up_from}
use Rattle.task.specs.StepTests.{is_within}
use Rattle.task.proofs.steps.beyond.Given as goal

abbrev pub invariant-loop-k : goal.invariant-loop-k
invariant-loop-k l =
    all (is_within l.steps (l.at + 1) l.params l.limits) (up_from l.first (l.end - l.first)) ≡
    eqb l.found 0 && all (is_within l.steps (l.at + 1) l.params l.limits) (up_from l.k (l.end - l.k))
