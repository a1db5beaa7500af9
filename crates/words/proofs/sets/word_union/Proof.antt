-- `words::sets::word_union` meets its contract: a digit is set where it is in either number.
use Rattle.words.proofs.BitSets.{member-or}
use Rattle.words.proofs.sets.word_union.Statement.{statement}
use Rattle.words.proofs.sets.word_union.Tie as tie

returns : tie.Need-returns
returns c = λ k. member-or c.args.a c.args.b k

pub word_union_spec : {M : Type 1} → statement M
word_union_spec = tie.close (tie.spec returns)
