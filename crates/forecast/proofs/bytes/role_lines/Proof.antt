-- `forecast::bytes::role_lines` meets its contract: the bytes of the bare token and of the pars add up, and neither is
-- more than both.
use Rattle.forecast.proofs.bytes.role_lines.Tie as tie
use Prim.Native.Nat.{◌+◌}
use mathlib.Core.Path.{◌≡◌}
use mathlib.Core.List.{[]}
use native.Mathlib.Omega.{arith}
use lib.ListN.{length}
use borrow.Author.Rules.{rules}
use Rattle.tokens.specs.Split.{token}
use Rattle.forecast.specs.Counting.{row_line, atoms_bytes, pars_here, tokens_here}
use Rattle.forecast.proofs.TokenBytes.{bytes-more}
use Rattle.forecast.proofs.bytes.role_lines.Statement.{statement}

sum : (c : tie.Start) → let a = c.args in
    atoms_bytes (tokens_here a.here a.role a.bare a.which) ≡
    length (row_line (token a.role a.bare [])) + atoms_bytes (pars_here a.here a.role a.which)
sum c =
    let a = c.args in
    bytes-more (token a.role a.bare []) (pars_here a.here a.role a.which)

par-lines-requires : tie.Need-par_lines-requires
par-lines-requires c κs =
    let s = c in
    (s.requires.0, (s.requires.1.0, omega (arith, sum s.before, s.requires.1.1)))

add-result : tie.Need-overflow_add-result
add-result c = let s = c in omega (arith, sum s.before.before, s.requires.1.1)

returns : tie.Need-returns
returns c = omega (arith, sum c.before.before)

pub role_lines_spec : {M : Type 1} → statement M
role_lines_spec = tie.close (tie.spec (λ c κs. search rules) par-lines-requires add-result returns)
