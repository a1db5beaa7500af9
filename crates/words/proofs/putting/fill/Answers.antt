use Rattle.std.proofs.Common.{arith}
use Rattle.words.proofs.Puts.{puts_filled}
use Rattle.words.proofs.putting.fill.Goals as goal

pub returns : goal.returns
returns c = puts_filled _ _ _ _ _ (omega arith) (omega arith) (c.fill.ensures.after (λ y e. e))
