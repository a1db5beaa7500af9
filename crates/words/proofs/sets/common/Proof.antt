-- `words::sets::common` meets its contract: a digit is set where it is in both numbers.
use Rattle.words.proofs.BitSets.{member-and}
use Rattle.words.proofs.sets.common.Statement.{statement}
use Rattle.words.proofs.sets.common.Tie as tie

returns : tie.Need-returns
returns c = λ k. member-and c.args.a c.args.b k

pub common_spec : {M : Type 1} → statement M
common_spec = tie.close (tie.spec returns)
