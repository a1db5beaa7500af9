use Rattle.std.proofs.Common.{◌+◌}
use Rattle.words.specs.Words.{words_at}
use Rattle.words.specs.Putting.{Puts}
use Rattle.words.proofs.putting.copy.Given as goal

abbrev pub invariant-loop-k : goal.invariant-loop-k
invariant-loop-k l = Puts l.fn.out l.at (words_at l.table l.from l.k) l.out (l.at + l.k)
