-- The counts of the parts of the first s schemas were put.
use Rattle.std.proofs.Common.{◌≡◌, ◌+◌, ◌*◌, ◌≤◌, length}
use Rattle.words.specs.Lists.{concat_map, up_to}
use Rattle.words.specs.Putting.{Puts}
use Rattle.task.specs.Limits.{most_parts}
use Rattle.tokens.specs.Writing.{set_sizes}
use Rattle.tokens.proofs.schemas.all_params.Given as goal

abbrev pub invariant-loop-s : goal.invariant-loop-s
invariant-loop-s l =
    (l.next ≤ l.fn.at + most_parts * l.s) × (length l.out ≡ length l.fn.out) ×
    Puts l.fn.out l.fn.at (concat_map (set_sizes l.fn.kept) (up_to l.s)) l.out l.next
