-- The first j parts are counted.
use Rattle.std.proofs.Common.{◌≡◌, ◌*◌, ◌≤◌}
use Rattle.task.specs.Task.{schema_atoms}
use Rattle.task.specs.Table.{task_of}
use Rattle.tokens.specs.Acceptance.{largest_of, most_part_atoms}
use Rattle.tokens.proofs.SplitSizes.{parts_up_to}
use Rattle.tokens.proofs.measure.measure_schema.Given as goal

abbrev pub invariant-loop-j : goal.invariant-loop-j
invariant-loop-j l =
    let parts = parts_up_to (task_of l.fn.table) l.fn.s l.j in
    (l.atoms ≤ most_part_atoms * l.j) × (l.atoms ≡ schema_atoms parts) × (l.largest ≡ largest_of parts)
