-- `words::sets::with` meets its contract: the other number has the digit k alone.
use borrow.Author.Rules.{rules}
use Rattle.words.proofs.BitSets.{member-with}
use Rattle.words.proofs.sets.with.Statement.{statement}
use Rattle.words.proofs.sets.with.Tie as tie

returns : tie.Need-returns
returns c = λ j. member-with c.args.set c.args.k j c.requires

pub with_spec : {M : Type 1} → statement M
with_spec = tie.close (tie.spec (λ c. search rules) returns)
