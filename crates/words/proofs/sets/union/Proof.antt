-- `words::sets::union` meets its contract: a digit is set where it is in either number.
use Rattle.words.proofs.BitSets.{member-or}
use Rattle.words.proofs.sets.union.Statement.{statement}
use Rattle.words.proofs.sets.union.Tie as tie

returns : tie.Need-returns
returns c = λ k. member-or c.args.a c.args.b k

pub union_spec : {M : Type 1} → statement M
union_spec = tie.close (tie.spec returns)
