-- `words::sets::without` meets its contract: the other number has every digit but k.
use borrow.Author.Rules.{rules}
use Rattle.words.proofs.BitSets.{member-without}
use Rattle.words.proofs.sets.without.Statement.{statement}
use Rattle.words.proofs.sets.without.Tie as tie

returns : tie.Need-returns
returns c = λ j. member-without c.args.set c.args.k j c.ranges.set.fits c.requires

pub without_spec : {M : Type 1} → statement M
without_spec = tie.close (tie.spec (λ c. search rules) returns)
