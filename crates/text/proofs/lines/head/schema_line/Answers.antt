-- There is no number, or the table has all the schemas that it may have, or the schema has too many parameters, which
-- is 4; else a schema without atoms is open behind the line.
use Rattle.std.proofs.Common.{arith}
use Rattle.text.specs.Text.{schema_line}
use Rattle.text.proofs.HeldHeads.{schema-many, params-many, schema-taken, schema-held}
use Rattle.text.proofs.LineTurns.{no_line, line_refused, line-goes-on}
use Rattle.text.proofs.lines.head.schema_line.Goals as goal

pub returns-in_default : goal.returns-in_default
returns-in_default c d w h = no_line schema_line d _ c.in_default.ensures

pub returns-then-counts-ge-MOST_SCHEMAS : goal.returns-then-counts-ge-MOST_SCHEMAS
returns-then-counts-ge-MOST_SCHEMAS c d w h =
    line_refused schema_line d _ _ _ c.in-Some.ensures.is 4 (schema-many d _ (omega (arith, h.schemas)))

pub returns-then-n-gt-MOST_PARAMETERS : goal.returns-then-n-gt-MOST_PARAMETERS
returns-then-n-gt-MOST_PARAMETERS c d w h =
    line_refused schema_line d _ _ _ c.in-Some.ensures.is 4 (params-many d _ c.if-n-gt-MOST_PARAMETERS.true)

pub returns : goal.returns
returns c d w h = record {
  draft = _;
  is = line-goes-on schema_line d _ _ _ c.in-Some.ensures.is _
      (schema-taken d _ (omega (arith, h.schemas)) c.if-n-gt-MOST_PARAMETERS.false);
  holds = schema-held h _ c.requires.allows c.if-n-gt-MOST_PARAMETERS.false (omega (arith, h.schemas));
  line = c.in-Some.ensures.line;
}
