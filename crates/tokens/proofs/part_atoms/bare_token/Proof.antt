-- `tokens::part_atoms::bare_token` meets its contract.
-- Four words and four zeros behind them are the eight words of an atom without arguments (`puts_then`). The first four
-- keep the buffer's length, so there is room for the zeros (`puts-length`).
use Rattle.tokens.proofs.part_atoms.bare_token.Tie as tie
use mathlib.Core.Path.{refl}
use native.Mathlib.Omega.{arith}
use borrow.Author.Rules.{rules}
use Rattle.words.specs.Lists.{padded}
use Rattle.task.specs.Table.{atom_words}
use Rattle.tokens.specs.Split.{token}
use Rattle.words.proofs.Puts.{puts_then, puts-length}
use Rattle.tokens.proofs.part_atoms.bare_token.Statement.{statement}

four-requires-2 : tie.Need-four-requires
four-requires-2 c κs =
    let f = c.four-next.ensures in
    omega (arith, puts-length f, f.place)

returns : tie.Need-returns
unfolding atom_words padded token
returns c =
    let f = c.four-next.ensures in
    let g = c.four.ensures in
    (puts_then f g _ refl, omega (arith, f.place, g.place))

pub bare_token_spec : {M : Type 1} → statement M
bare_token_spec = tie.close (tie.spec (λ c κs. search rules) four-requires-2 (λ c. search rules) returns)
