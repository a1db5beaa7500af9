-- `total` is how long the state is that the deletes left, with the adds passed.
use Prim.Native.Nat.{ℕ}
use mathlib.Core.Path.{◌≡◌}
use lib.ListN.{length}
use Rattle.task.specs.Task.{Fact, Task}
use Rattle.task.specs.Run.{insert_all}
use Rattle.task.specs.Spans.{UnderWay, without}
use Rattle.task.proofs.SizeLaws.{CountedSo}
use Rattle.task.proofs.sizes.size_with.Given as goal

abbrev pub invariant-loop-k : goal.invariant-loop-k
invariant-loop-k l =
    (t : Task) (g : ℕ → Fact) → UnderWay t g l.fn.spans l.numbers l.state l.n →
    l.size ≡ length (without t g l.fn.spans l.state l.n) →
    CountedSo g (λ fs. insert_all fs (without t g l.fn.spans l.state l.n)) l.fn.spans.adds l.fn.spans.deletes l.k l.total
