use Rattle.task.proofs.ExchangeTurns.{exchange-start, exchange-turn, rest-room, exchange-end}
use Rattle.task.proofs.exchange.exchange.Goals as goal

pub loop-k-init : goal.loop-k-init
loop-k-init c = λ t g u. exchange-start u

pub loop-k-preserved : goal.loop-k-preserved
loop-k-preserved c = λ t g u.
    let so = c.loop-k.invariant t g u in
    exchange-turn so c.loop-k-test.true c.exchange_one-e.auto.state
    (c.exchange_one-e.ensures t g so.passed.way so.passed.hold)

pub exchange_one-e-requires : goal.exchange_one-e-requires
exchange_one-e-requires c =
    let (t, g, u, room) = c.requires in
    let p = (c.loop-k.invariant t g u).passed in
    record { k_lt_end = (c.loop-k-test.true, p.from, p.within); by_index = (t, g, p.way) }

pub insert_rest-requires : goal.insert_rest-requires
insert_rest-requires c =
    let (t, g, u, room) = c.requires in
    let so = c.loop-k.invariant t g u in
    record { from_le_deletes = so.passed.within; by_index = (t, g, so.passed.way, rest-room so c.loop-k-test.false room) }

pub returns : goal.returns
returns c = λ t g u.
    let so = c.loop-k.invariant t g u in
    exchange-end so c.loop-k-test.false (c.insert_rest.ensures t g so.passed.way)
