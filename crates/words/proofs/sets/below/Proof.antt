-- `words::sets::below` meets its contract.
-- A bit shifted by n is 2 ^ n, since n is below 64 (`bit_is`), so 1 can be taken from it; and 2 ^ n - 1 has just the
-- digits below n (`member-ones`).
use Prim.Native.Nat.{ℕ, ◌≤◌, ◌-◌}
use mathlib.Core.Path.{◌∙◌, sym, ap, subst}
use lib.Pow.{pow_pos}
use borrow.Author.Rules.{rules}
use Rattle.words.specs.Sets.{member}
use Rattle.words.proofs.BitSets.{bit_is, member-ones}
use Rattle.words.proofs.sets.below.Statement.{statement}
use Rattle.words.proofs.sets.below.Tie as tie

sub-result : tie.Need-overflow_sub-result
sub-result c = subst (λ (x : ℕ). 1 ≤ x) (sym (bit_is c.args.n c.requires)) (pow_pos c.args.n)

returns : tie.Need-returns
returns c = λ k. ap (λ (x : ℕ). member (x - 1) k) (bit_is c.args.n c.requires) ∙ member-ones c.args.n k

pub below_spec : {M : Type 1} → statement M
below_spec = tie.close (tie.spec (λ c. search rules) sub-result returns)
