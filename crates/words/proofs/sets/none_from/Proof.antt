-- `words::sets::none_from` meets its contract: where nothing is left of the shift, the set is below 2 to the p.
use Prim.Native.Nat.{ℕ, ◌+◌, ◌*◌, ◌/◌, ◌%◌, ◌^◌, ◌<◌}
use mathlib.Core.Path.{◌≡◌, ap}
use native.Mathlib.Omega.{arith}
use native.Mathlib.Nat.{div-add-mod', mod-lt, zero-mul}
use lib.Pow.{pow_pos}
use borrow.Author.Rules.{rules}
use borrow.Author.Tests.{eqb-true}
use Rattle.words.proofs.BitSets.{member-beyond}
use Rattle.words.proofs.sets.none_from.Statement.{statement}
use Rattle.words.proofs.sets.none_from.Tie as tie

-- what a power divides to 0 is below it
below_power : (x p : ℕ) → x / 2 ^ p ≡ 0 → x < 2 ^ p
below_power x p e =
    let a = div-add-mod' x (2 ^ p) in
    let b = ap (λ (z : ℕ). z * 2 ^ p + x % 2 ^ p) e in
    let c = zero-mul (2 ^ p) in
    let d = mod-lt x (pow_pos p) in
    omega arith

returns : tie.Need-returns
returns c = λ e k l.
    let a = c.args in
    member-beyond a.set a.p k (below_power a.set a.p (eqb-true (a.set / 2 ^ a.p) 0 e)) l

pub none_from_spec : {M : Type 1} → statement M
none_from_spec = tie.close (tie.spec (λ c. search rules) returns)
