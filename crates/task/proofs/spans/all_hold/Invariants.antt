-- The whole test is what is left of it from precondition k on.
use Prim.Native.Nat.{ℕ}
use Rattle.words.specs.Lists.{all}
use Rattle.task.specs.Task.{Fact, Task}
use Rattle.task.specs.Run.{holds, state_in}
use Rattle.task.specs.Spans.{span, UnderWay}
use Rattle.words.proofs.Loops.{AllLeft}
use Rattle.task.proofs.spans.all_hold.Given as goal

abbrev pub invariant-loop-k : goal.invariant-loop-k
invariant-loop-k l =
    (t : Task) (g : ℕ → Fact) → UnderWay t g l.fn.spans l.numbers l.state l.n →
    AllLeft (λ j. holds (state_in t l.state l.n) (g j)) l.fn.spans.adds
    (all (holds (state_in t l.state l.n)) (span g 0 l.fn.spans.adds)) l.k
