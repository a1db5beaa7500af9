use Rattle.std.proofs.Common.{arith}
use Rattle.words.proofs.Chains.{contains_words}
use Rattle.words.proofs.runs.has_word.Goals as goal

pub returns : goal.returns
returns c = contains_words _ _ _ _ _ (omega arith) (omega arith) c.contains.ensures.value
