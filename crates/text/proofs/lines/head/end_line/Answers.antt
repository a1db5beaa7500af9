-- The body isn't 1 and the line is refused with 3, or reading has come to its end with the draft's task.
use Rattle.std.proofs.Common.{refl}
use Rattle.text.specs.Text.{end_line, take_line}
use Rattle.text.proofs.HeldHeads.{end_refused, end-taken}
use Rattle.text.proofs.LineTurns.{not-one, line-ends}
use Rattle.text.proofs.lines.head.end_line.Goals as goal

pub returns-in_default : goal.returns-in_default
returns-in_default c d w closed = not-one end_line _ (take_line d) c.in_default.ensures (end_refused d)

pub returns : goal.returns
returns c d w closed = (
  record {
    is = line-ends end_line d _ _ _ c.in-Some.ensures.is _ (end-taken d _ refl);
    line = c.in-Some.ensures.line;
    closed = closed;
  },
  refl,
)
