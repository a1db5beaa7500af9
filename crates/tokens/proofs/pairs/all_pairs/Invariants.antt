-- The pairs of the parts of the first s schemas were put.
use Rattle.std.proofs.Common.{◌≡◌, length}
use Rattle.task.specs.Table.{task_of, pairs_from}
use Rattle.words.specs.Putting.{Puts}
use Rattle.tokens.specs.Acceptance.{part_schemas}
use Rattle.tokens.proofs.SchemaRuns.{schemas_up_to}
use Rattle.tokens.proofs.pairs.all_pairs.Given as goal

abbrev pub invariant-loop-s : goal.invariant-loop-s
invariant-loop-s l =
    (length l.out ≡ length l.fn.out) ×
    Puts l.fn.out l.fn.at (pairs_from 0 (schemas_up_to (part_schemas (task_of l.fn.table)) l.s)) l.out l.next
