use Rattle.words.proofs.Comparing.{LessLeft}
use Rattle.words.proofs.runs.less_words.Given as goal

abbrev pub invariant-loop-k : goal.invariant-loop-k
invariant-loop-k l = LessLeft l.table l.left l.right l.n l.k
