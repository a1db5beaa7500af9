-- The first k words stand from `to` on, and all others as found, those still to be moved among them.
use Rattle.std.proofs.Common.{◌+◌, get_or}
use Rattle.text.specs.ReadCode.{Wrote}
use Rattle.text.proofs.storing.move_down.Given as goal

abbrev pub invariant-loop-k : goal.invariant-loop-k
invariant-loop-k l = Wrote l.fn.table l.to l.k (λ j. get_or l.fn.table (l.from + j) 0) l.table
