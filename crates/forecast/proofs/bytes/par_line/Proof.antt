-- `forecast::bytes::par_line` meets its contract: the row holds the par, so its line is the par's (`row-line`).
use Rattle.forecast.proofs.bytes.par_line.Tie as tie
use mathlib.Core.Path.{refl, ◌∙◌, ap}
use native.Mathlib.Omega.{arith}
use lib.ListN.{length}
use borrow.Author.Rules.{rules}
use Rattle.tokens.specs.Split.{token}
use Rattle.tokens.specs.Writing.{par_in}
use Rattle.forecast.proofs.AtomRows.{row-line}
use Rattle.forecast.proofs.bytes.par_line.Statement.{statement}

returns : tie.Need-returns
unfolding token
returns c =
    let put = c in
    let a = put.args in
    c.row_size.ensures ∙
    ap length (row-line a.here.number (par_in a.here.own a.here.par a.role a.x.0) 1
    put.par_atom.ensures.0 (omega arith) refl (omega arith))

pub par_line_spec : {M : Type 1} → statement M
par_line_spec =
    tie.close
    (tie.spec (λ c. search rules) (λ c κs. search rules) (λ c. search rules) (λ c κs. search rules) returns)
