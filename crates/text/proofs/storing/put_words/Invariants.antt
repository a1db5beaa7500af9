-- The first k words stand from `at` on, and all others stand as found.
use Rattle.std.proofs.Common.{get_or}
use Rattle.text.specs.ReadCode.{Wrote}
use Rattle.text.proofs.storing.put_words.Given as goal

abbrev pub invariant-loop-k : goal.invariant-loop-k
invariant-loop-k l = Wrote l.fn.table l.at l.k (λ j. get_or l.words j 0) l.table
