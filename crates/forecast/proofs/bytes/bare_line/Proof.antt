-- `forecast::bytes::bare_line` meets its contract: the row holds the token, so its line is the token's (`row-line`).
use Rattle.forecast.proofs.bytes.bare_line.Tie as tie
use mathlib.Core.Path.{refl, ◌∙◌, ap}
use mathlib.Core.List.{[]}
use native.Mathlib.Omega.{arith}
use lib.ListN.{length}
use borrow.Author.Rules.{rules}
use Rattle.tokens.specs.Split.{token}
use Rattle.forecast.proofs.AtomRows.{row-line}
use Rattle.forecast.proofs.bytes.bare_line.Statement.{statement}

returns : tie.Need-returns
unfolding token
returns c =
    let put = c in
    let a = put.args in
    c.row_size.ensures ∙
    ap length (row-line 0 (token a.role a.predicate []) 0 put.bare_token.ensures.0 (omega arith) refl
    (omega arith))

pub bare_line_spec : {M : Type 1} → statement M
bare_line_spec =
    tie.close
    (tie.spec (λ c. search rules) (λ c κs. search rules) (λ c. search rules) (λ c κs. search rules) returns)
