-- `words::runs::many_zeros` meets its contract: the four quarters fail, or the words behind them tell (`front-fails`,
-- `rest-tells`).
use native.Mathlib.Omega.{arith}
use Rattle.words.proofs.Quarters.{front-fails, rest-tells}
use Rattle.words.proofs.runs.many_zeros.Statement.{statement}
use Rattle.words.proofs.runs.many_zeros.Tie as tie

returns : tie.Need-returns-then-not-quarters_zero
returns c = front-fails _ _ _ _ (omega arith) c.before.quarters_zero.ensures c.if-not-quarters_zero.true-raw

returns-2 : tie.Need-returns
returns-2 c =
    rest-tells _ _ _ _ (omega arith) c.before.before.quarters_zero.ensures c.before.if-not-quarters_zero.false-raw
    c.zeros.ensures

pub many_zeros_spec : {M : Type 1} → statement M
many_zeros_spec =
    tie.close
    (tie.spec (λ c. omega arith) (λ c κs. omega arith) returns (λ c. omega arith) (λ c. omega arith)
    (λ c κs. omega arith) returns-2)
