-- `words::sets::has` meets its contract: the lowest digit of what is left of the shift is digit k.
use mathlib.Core.Path.{ap}
use Prim.Native.Nat.{ℕ, ◌/◌, ◌^◌}
use lib.Bits.{and_mask}
use lib.Dec.{eqb}
use borrow.Author.Rules.{rules}
use Rattle.words.specs.Sets.{member}
use Rattle.words.proofs.sets.has.Statement.{statement}
use Rattle.words.proofs.sets.has.Tie as tie

returns : tie.Need-returns
unfolding member
returns c = ap (λ (x : ℕ). eqb x 1) (and_mask (c.args.set / 2 ^ c.args.k) 1)

pub has_spec : {M : Type 1} → statement M
has_spec = tie.close (tie.spec (λ c. search rules) returns)
