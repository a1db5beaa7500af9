-- Inserting the adds left gives what inserting all was to give, so there is room for each that comes in.
use Prim.Native.Nat.{ℕ}
use Rattle.task.specs.Task.{Fact, Task}
use Rattle.task.specs.Spans.{UnderWay}
use Rattle.task.proofs.SpanLaws.{InsertedSo}
use Rattle.task.proofs.spans.insert_rest.Given as goal

abbrev pub invariant-loop-k : goal.invariant-loop-k
invariant-loop-k l =
    (t : Task) (g : ℕ → Fact) → UnderWay t g l.fn.spans l.numbers l.fn.state l.n →
    InsertedSo t g l.fn.spans l.numbers l.from l.fn.state l.n l.state l.left l.k
