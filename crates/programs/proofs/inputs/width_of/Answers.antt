-- No number stands at the front (`no_number`), or bytes are left behind it (`more-behind`), or it is all there is
-- (`whole-number`).
use Rattle.std.proofs.Common.{◌∙◌}
use Rattle.programs.proofs.Arguments.{no_number, more-behind, whole-number}
use Rattle.programs.proofs.inputs.width_of.Goals as goal

pub returns-in_default : goal.returns-in_default
returns-in_default c = no_number _ c.start.ensures c.in_default.ensures

pub returns-then-behind-argument : goal.returns-then-behind-argument
returns-then-behind-argument c =
    more-behind _ c.start.ensures c.in-Some.ensures c.if-behind-argument.true

pub returns : goal.returns
returns c =
    c.from.ensures ∙ whole-number _ c.start.ensures c.in-Some.ensures c.if-behind-argument.false
