-- `forecast::bytes::token_lines` meets its contract: the only part of a schema has tokens among its preconditions
-- alone, and for any other the bytes of the three roles add up; none is more than the whole.
use Rattle.forecast.proofs.bytes.token_lines.Tie as tie
use Prim.Native.Nat.{ℕ, ◌+◌}
use mathlib.Core.Path.{◌≡◌, sym, ◌∙◌}
use native.Mathlib.Omega.{arith}
use Rattle.forecast.specs.Counting.{atoms_bytes, part_tokens}
use Rattle.forecast.proofs.TokenBytes.{required, added, deleted, required-within, lone-bytes, parted-bytes}
use Rattle.forecast.proofs.bytes.token_lines.Statement.{statement}

abbrev start : tie.Else-tokens → tie.Start
start c = c.before.before.before

-- the bytes of the roles, one after another, and of the whole
abbrev whole : tie.Start → ℕ
whole s = atoms_bytes (part_tokens s.args.here s.args.tokens)

sum : (c : tie.Else-tokens) → let a = (start c).args in
    whole (start c) ≡
    atoms_bytes (required a.here a.tokens) +
    (atoms_bytes (added a.here a.tokens) + atoms_bytes (deleted a.here a.tokens))
sum c = let a = (start c).args in parted-bytes a.here a.tokens c.if-tokens.false

role-lines-requires : tie.Need-role_lines-required-requires
role-lines-requires c κs =
    let s = c in
    (s.requires.0, (s.requires.1.0, omega (arith, required-within s.args.here s.args.tokens, s.requires.1.1)))

returns : tie.Need-returns-then-tokens
returns c =
    let a = c.args in
    c.role_lines-required.ensures ∙ sym (lone-bytes a.here a.tokens c.if-tokens.true)

role-lines-requires-2 : tie.Need-role_lines-requires
role-lines-requires-2 c κs =
    let s = start c in
    (s.requires.0, (s.requires.1.0, omega (arith, sum c, s.requires.1.1)))

add-result : tie.Need-overflow_add-result
add-result c =
    let e = c in
    omega (arith, sum e.before, (start e.before).requires.1.1, e.role_lines-required.ensures, c.role_lines.ensures)

role-lines-requires-3 : tie.Need-role_lines-requires-2
role-lines-requires-3 c κs =
    let s = start c.before in
    (s.requires.0, (s.requires.1.0, omega (arith, sum c.before, s.requires.1.1)))

add-result-2 : tie.Need-overflow_add-result-2
add-result-2 c =
    let e = c in
    omega (
      arith,
      sum e.before.before,
      (start e.before.before).requires.1.1,
      e.role_lines-required.ensures,
      c.role_lines.ensures,
      c.role_lines-2.ensures,
    )

returns-2 : tie.Need-returns
returns-2 c =
    let e = c in
    omega (arith, sum e.before.before, e.role_lines-required.ensures, c.role_lines.ensures, c.role_lines-2.ensures)

pub token_lines_spec : {M : Type 1} → statement M
token_lines_spec =
    tie.close
    (tie.spec role-lines-requires returns role-lines-requires-2 add-result role-lines-requires-3 add-result-2
    returns-2)
