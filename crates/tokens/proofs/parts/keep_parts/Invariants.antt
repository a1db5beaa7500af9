-- The parts of the schemas before s are kept; s begins at atom `from` and at pair `pair`, and its parts at `first` of
-- the split.
use Rattle.std.proofs.Common.{◌≡◌, ◌*◌, ◌≤◌}
use Rattle.task.specs.Limits.{most_parts}
use Rattle.task.specs.Table.{task_of}
use Rattle.task.specs.Turns.{first_atom, first_pair}
use Rattle.tokens.specs.Split.{first_of}
use Rattle.tokens.specs.Kept.{PartsKept}
use Rattle.tokens.proofs.parts.keep_parts.Given as goal

abbrev pub invariant-loop-s : goal.invariant-loop-s
invariant-loop-s l =
    let t = task_of l.fn.table in
    (l.from ≡ first_atom t l.s) × (l.first ≡ first_of t l.s) × (l.first ≤ most_parts * l.s) × PartsKept t l.s l.kept ×
    (l.pair ≡ first_pair t l.s)
