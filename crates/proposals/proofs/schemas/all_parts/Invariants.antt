-- `proposals::schemas::all_parts`: the words for the schemas before s are the parts proposed for them, and none of these
-- has too many; s begins at atom `from` and at pair `pair`.
use Rattle.std.proofs.Common.{◌≡◌, length}
use Rattle.task.specs.Limits.{most_schema_atoms}
use Rattle.task.specs.Table.{task_of}
use Rattle.task.specs.Turns.{first_atom, first_pair}
use Rattle.proposals.specs.Scratch.{HaveParts, KeepsBehind}
use Rattle.proposals.proofs.SchemaParts.{FewParts}
use Rattle.proposals.proofs.schemas.all_parts.Given as goal

abbrev pub invariant-loop-s : goal.invariant-loop-s
invariant-loop-s l = record {
  begins : l.from ≡ first_atom (task_of l.table) l.s;
  pairs : l.pair ≡ first_pair (task_of l.table) l.s;
  long : length l.parts ≡ most_schema_atoms;
  keeps : KeepsBehind l.fn.scratch l.scratch;
  have : HaveParts l.width (task_of l.table) l.s l.parts;
  few : FewParts l.width (task_of l.table) l.s;
}
