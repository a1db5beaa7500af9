-- Inserting all adds into the state without the deletes left gives the end, and the adds before `next` hold.
use Prim.Native.Nat.{ℕ}
use Rattle.task.specs.Task.{Fact, Task}
use Rattle.task.specs.Spans.{UnderWay}
use Rattle.task.proofs.ExchangeTurns.{ExchangeSo}
use Rattle.task.proofs.exchange.exchange.Given as goal

abbrev pub invariant-loop-k : goal.invariant-loop-k
invariant-loop-k l =
    (t : Task) (g : ℕ → Fact) → UnderWay t g l.fn.spans l.numbers l.fn.state l.n →
    ExchangeSo t g l.fn.spans l.numbers l.fn.state l.n l.state l.left l.next l.k
