-- The word at the place, or 0 where the array has ended.
use Rattle.std.proofs.Common.{arith}
use Rattle.std.proofs.lemmas.Grind.{common_steps}
use Rattle.tokens.specs.Kept.{word_in}
use Rattle.tokens.proofs.kept.of_part.Goals as goal

pub returns : goal.returns
unfolding word_in
returns c = grind (arith, common_steps)
