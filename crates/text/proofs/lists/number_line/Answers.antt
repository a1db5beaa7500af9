-- There is no number (`no_body`), or its line doesn't end behind it (`no_end`), or both stand there (`line-whole`) and
-- the cursor comes to the next line (`to-next`).
use Rattle.std.proofs.Common.{arith}
use Rattle.text.proofs.WholeLines.{no_body, no_end, line-whole, to-next}
use Rattle.text.proofs.lists.number_line.Goals as goal

pub returns-in_err-n : goal.returns-in_err-n
returns-in_err-n c = rw c.from_residual.ensures (no_body _ c.in_err-n.ensures)

pub returns-in_err-next : goal.returns-in_err-next
returns-in_err-next c =
    rw c.from_residual-in_err-next.ensures (no_end _ _ _ c.in_ok-n.ensures.is c.in_err-next.ensures)

pub returns : goal.returns
returns c =
    let n = c.in_ok-n.ensures in
    let end = c.in_ok-next.ensures in
    record {
      is = line-whole _ _ _ n.is _ end.is;
      small = n.small;
      line = to-next (omega (arith, n.moved.on)) n.moved.line end;
    }
