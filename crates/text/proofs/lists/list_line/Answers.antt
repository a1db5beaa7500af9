-- There is no list (`no_body`), or its line doesn't end behind it (`no_end`), or both stand there (`line-whole`) and
-- the cursor comes to the next line (`to-next`).
use Rattle.std.proofs.Common.{subst}
use Rattle.text.specs.ReadCode.{ListAt}
use Rattle.text.proofs.WholeLines.{no_body, no_end, line-whole, to-next}
use Rattle.text.proofs.lists.list_line.Goals as goal

pub returns-in_err-count : goal.returns-in_err-count
returns-in_err-count c from body kept read =
    rw c.from_residual.ensures (no_body _ (subst (ListAt _ from body kept) c.in_err-count.was read))

pub returns-in_err-next : goal.returns-in_err-next
returns-in_err-next c from body kept read =
    let list = subst (ListAt c.args.text.now from body kept) c.in_ok-count.was read in
    rw c.from_residual-in_err-next.ensures (no_end _ _ _ list.is c.in_err-next.ensures)

pub returns : goal.returns
returns c from body kept read =
    let list = subst (ListAt c.args.text.now from body kept) c.in_ok-count.was read in
    let end = c.in_ok-next.ensures in
    record {
      ns = list.ns;
      is = line-whole _ _ _ list.is _ end.is;
      listed = list.listed;
      line = to-next list.onward.on list.onward.line end;
    }
