-- n counts the pairs of the first j parts, each of which carries no more than a table has.
use Rattle.std.proofs.Common.{◌≡◌, ◌*◌, ◌≤◌}
use Rattle.task.specs.Limits.{most_pairs}
use Rattle.task.specs.Task.{schema_pairs}
use Rattle.task.specs.Table.{task_of}
use Rattle.tokens.proofs.SplitSizes.{parts_up_to}
use Rattle.tokens.proofs.measure.pairs_carried.Given as goal

abbrev pub invariant-loop-j : goal.invariant-loop-j
invariant-loop-j l = (l.n ≤ most_pairs * l.j) × (l.n ≡ schema_pairs (parts_up_to (task_of l.fn.table) l.fn.s l.j))
