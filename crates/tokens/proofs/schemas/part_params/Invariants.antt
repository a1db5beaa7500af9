-- The counts of the first j parts were put.
use Rattle.std.proofs.Common.{◌≡◌, ◌+◌, map, length}
use Rattle.words.specs.Lists.{up_to}
use Rattle.words.specs.Putting.{Puts}
use Rattle.tokens.specs.Writing.{set_size}
use Rattle.tokens.proofs.schemas.part_params.Given as goal

abbrev pub invariant-loop-j : goal.invariant-loop-j
invariant-loop-j l =
    (length l.out ≡ length l.fn.out) ×
    Puts l.fn.out l.fn.at (map (set_size l.fn.kept l.fn.s) (up_to l.j)) l.out (l.fn.at + l.j)
