-- The adds from `from` to `k` hold.
use Prim.Native.Nat.{ℕ}
use Rattle.task.specs.Task.{Fact, Task}
use Rattle.task.specs.Run.{state_in}
use Rattle.task.specs.Spans.{UnderWay}
use Rattle.task.proofs.ExchangeLaws.{Held}
use Rattle.task.proofs.exchange.first_new.Given as goal

abbrev pub invariant-loop-k : goal.invariant-loop-k
invariant-loop-k l =
    (t : Task) (g : ℕ → Fact) → UnderWay t g l.fn.spans l.numbers l.state l.n →
    Held g (state_in t l.state l.n) l.from l.k
