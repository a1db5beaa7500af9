-- Where no key stands, or one that the order doesn't allow here, there is no line, which is 3; else the turn at the
-- body of the key is the turn at the line.
use Rattle.std.proofs.Common.{sym, ◌∙◌, ap}
use Rattle.text.specs.Text.{next_line, read_body}
use Rattle.text.specs.ReadCode.{rest, meant, number_of, may_stand}
use Rattle.text.proofs.LineTurns.{none-refused}
use Rattle.text.proofs.KeyLines.{next-missing, next-refused, next-allowed}
use Rattle.text.proofs.Dispatch.{turned-at}
use Rattle.text.proofs.reader.turn_at.Goals as goal

pub returns-in_default-clause-fact : goal.returns-in_default-clause-fact
returns-in_default-clause-fact c d h = none-refused d _ (next-missing d _ c.in_default.ensures)

pub returns-then-not-allowed-clause-fact : goal.returns-then-not-allowed-clause-fact
returns-then-not-allowed-clause-fact c d h =
    let number = number_of c.in-Some.key in
    none-refused d _ (next-refused d _ (meant c.in-Some.key) _ c.in-Some.ensures.is
    (ap (λ p. may_stand p number) (sym h.phase) ∙ sym c.if-not-allowed.ensures))

pub returns-clause-fact : goal.returns-clause-fact
returns-clause-fact c d h =
    let key = c.in-Some.ensures in
    let bs = c.args.text.now in
    let from = c.args.from in
    let body = c.in-Some.body in
    let k = meant c.in-Some.key in
    let number = number_of c.in-Some.key in
    turned-at bs from body d (next_line d (rest bs from)) (read_body k (rest bs body))
    c.args.table.now c.body_turn.result c.body_turn.new.table key.moved
    (next-allowed d _ k _ key.is (ap (λ p. may_stand p number) (sym h.phase) ∙ sym c.if-not-allowed.ensures))
    (c.body_turn.ensures.fact d h)
