-- `words::sets::meet` meets its contract: a number is 0 where it has no digit.
use Rattle.words.proofs.BitSets.{common-member}
use Rattle.words.proofs.sets.meet.Statement.{statement}
use Rattle.words.proofs.sets.meet.Tie as tie

returns : tie.Need-returns
returns c = common-member c.args.a c.args.b c.ranges.a.fits

pub meet_spec : {M : Type 1} → statement M
meet_spec = tie.close (tie.spec returns)
