-- `size` is how long the state is without the deletes passed.
use Prim.Native.Nat.{ℕ}
use Rattle.task.specs.Task.{Fact, Task}
use Rattle.task.specs.Run.{remove_all, state_in}
use Rattle.task.specs.Spans.{UnderWay, AllHold}
use Rattle.task.proofs.SizeLaws.{CountedSo}
use Rattle.task.proofs.sizes.size_without.Given as goal

abbrev pub invariant-loop-k : goal.invariant-loop-k
invariant-loop-k l =
    (t : Task) (g : ℕ → Fact) → UnderWay t g l.fn.spans l.numbers l.state l.n →
    AllHold t g 0 l.fn.spans.adds l.state l.n →
    CountedSo g (λ fs. remove_all fs (state_in t l.state l.n)) l.fn.spans.deletes l.fn.spans.end l.k l.size
