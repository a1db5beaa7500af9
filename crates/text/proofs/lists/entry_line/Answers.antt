-- There is no atom (`no_body`), or its line doesn't end behind it (`no_end`), or both stand there (`line-whole`) and
-- the cursor comes to the next line (`to-next`).
use Rattle.text.proofs.WholeLines.{no_body, no_end, line-whole, to-next}
use Rattle.text.proofs.lists.entry_line.Goals as goal

pub returns-in_err-head : goal.returns-in_err-head
returns-in_err-head c = rw c.from_residual.ensures (no_body _ c.in_err-head.ensures)

pub returns-in_err-next : goal.returns-in_err-next
returns-in_err-next c =
    rw c.from_residual-in_err-next.ensures (no_end _ _ _ c.in_ok-head.ensures.is c.in_err-next.ensures)

pub returns : goal.returns
returns c =
    let atom = c.in_ok-head.ensures in
    let end = c.in_ok-next.ensures in
    record {
      ns = atom.ns;
      is = line-whole _ _ _ atom.is _ end.is;
      listed = atom.listed;
      line = to-next atom.onward.on atom.onward.line end;
    }
