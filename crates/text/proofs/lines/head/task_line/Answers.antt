-- The body isn't 1 and the line is refused with 3, or the code holds the draft behind it, before the `objects` line.
use Rattle.std.proofs.Common.{refl}
use Rattle.text.specs.Text.{task_line, take_line}
use Rattle.text.proofs.HeldHeads.{task-refused, task-taken, task-held}
use Rattle.text.proofs.LineTurns.{not-one, line-goes-on}
use Rattle.text.proofs.lines.head.task_line.Goals as goal

pub returns-in_default : goal.returns-in_default
returns-in_default c d w h = not-one task_line _ (take_line d) c.in_default.ensures (task-refused d)

pub returns : goal.returns
returns c d w h = record {
  draft = _;
  is = line-goes-on task_line d _ _ _ c.in-Some.ensures.is _ (task-taken d _ refl);
  holds = task-held h c.requires.allows;
  line = c.in-Some.ensures.line;
}
