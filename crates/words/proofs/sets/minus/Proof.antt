-- `words::sets::minus` meets its contract: the digits of the second number are turned over.
use Rattle.words.proofs.SetMembers.{member-minus}
use Rattle.words.proofs.sets.minus.Statement.{statement}
use Rattle.words.proofs.sets.minus.Tie as tie

returns : tie.Need-returns
returns c = λ k. member-minus c.args.a c.args.b k c.ranges.a.fits c.ranges.b.fits

pub minus_spec : {M : Type 1} → statement M
minus_spec = tie.close (tie.spec returns)
