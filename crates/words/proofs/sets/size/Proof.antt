-- `words::sets::size` meets its contract: its sixteen lowest digits are counted.
use native.Mathlib.Omega.{arith}
use Rattle.words.proofs.SetMembers.{size-counted, size_small}
use Rattle.words.proofs.sets.size.Statement.{statement}
use Rattle.words.proofs.sets.size.Tie as tie

cast-result : tie.Need-overflow_cast-result
cast-result c = omega (arith, size_small c.args.set)

returns : tie.Need-returns
returns c = (size-counted c.args.set, size_small c.args.set)

pub size_spec : {M : Type 1} → statement M
size_spec = tie.close (tie.spec cast-result returns)
