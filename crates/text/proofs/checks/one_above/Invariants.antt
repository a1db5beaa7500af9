use Rattle.std.proofs.Common.{◌≡◌, take}
use Rattle.text.specs.ReadCode.{one_above}
use Rattle.text.proofs.checks.one_above.Given as goal

abbrev pub invariant-loop-number : goal.invariant-loop-number
invariant-loop-number l = l.above ≡ one_above (take l.number-index l.list)
