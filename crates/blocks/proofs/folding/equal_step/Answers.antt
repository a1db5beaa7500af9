use native.Mathlib.Omega.{arith}
use Rattle.blocks.specs.FoldCode.{EqualTold}
use Rattle.blocks.proofs.SplitTests.{none_equal, equal-told}
use Rattle.blocks.proofs.folding.equal_step.Goals as goal

pub returns-then-pairs-eq0 : goal.returns-then-pairs-eq0
unfolding EqualTold
returns-then-pairs-eq0 c = λ t S f. none_equal S c.if-pairs-eq0.true _

pub returns : goal.returns
returns c = λ t S f. equal-told S _ _ (c.bad_from.ensures t S f (λ k l. absurd (omega arith)))
