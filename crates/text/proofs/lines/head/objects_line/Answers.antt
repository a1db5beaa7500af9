-- There is no number, or it is outside its limits, which is 4, or the draft has so many objects behind the line.
use Rattle.text.specs.Text.{objects_line}
use Rattle.text.proofs.HeldHeads.{objects-few, objects-many, objects-taken, objects-held}
use Rattle.text.proofs.LineTurns.{no_line, line_refused, line-goes-on}
use Rattle.text.proofs.lines.head.objects_line.Goals as goal

pub returns-in_default : goal.returns-in_default
returns-in_default c d w h = no_line objects_line d _ c.in_default.ensures

pub returns-then-n-lt1 : goal.returns-then-n-lt1
returns-then-n-lt1 c d w h = line_refused objects_line d _ _ _ c.in-Some.ensures.is 4 (objects-few d _ c.if-n-lt1.true)

pub returns-then-n-gt-MOST_OBJECTS : goal.returns-then-n-gt-MOST_OBJECTS
returns-then-n-gt-MOST_OBJECTS c d w h =
    line_refused objects_line d _ _ _ c.in-Some.ensures.is 4 (objects-many d _ c.if-n-gt-MOST_OBJECTS.true)

pub returns : goal.returns
returns c d w h = record {
  draft = _;
  is = line-goes-on objects_line d _ _ _ c.in-Some.ensures.is _
      (objects-taken d _ c.if-n-lt1.false c.if-n-gt-MOST_OBJECTS.false);
  holds = objects-held h _ c.requires.allows c.if-n-gt-MOST_OBJECTS.false;
  line = c.in-Some.ensures.line;
}
