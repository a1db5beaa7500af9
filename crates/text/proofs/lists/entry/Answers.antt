-- There is no predicate, or no colon behind it, or no list behind that; else they make an atom (`entry-made`).
use Rattle.std.proofs.Common.{arith}
use Rattle.text.proofs.WholeLines.{no-head, no-colon, no-list, entry-made, onward-both}
use Rattle.text.proofs.lists.entry.Goals as goal

pub returns-in_err-head : goal.returns-in_err-head
returns-in_err-head c = rw c.from_residual.ensures (no-head _ c.in_err-head.ensures)

pub returns-in_err-next : goal.returns-in_err-next
returns-in_err-next c =
    rw c.from_residual-in_err-next.ensures (no-colon _ _ _ c.in_ok-head.ensures.is c.in_err-next.ensures)

pub returns-in_err-count : goal.returns-in_err-count
returns-in_err-count c =
    rw c.from_residual-in_err-count.ensures
    (no-list _ _ _ c.in_ok-head.ensures.is _ c.in_ok-next.ensures.is c.in_err-count.ensures)

pub returns : goal.returns
returns c =
    let head = c.in_ok-head.ensures in
    let colon = c.in_ok-next.ensures in
    let list = c.in_ok-count.ensures in
    record {
      ns = list.ns;
      is = entry-made _ _ _ head.is _ colon.is _ _ list.is;
      listed = list.listed;
      onward = onward-both (omega (arith, head.moved.on, colon.far)) (omega (arith, head.moved.line, colon.line))
          list.onward;
    }
