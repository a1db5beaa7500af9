-- `task::layout::rows_base` meets its contract: the rows follow the pairs, which have three words each.
use native.Mathlib.Omega.{arith}
use borrow.Author.Rules.{rules}
use Rattle.task.proofs.layout.rows_base.Statement.{statement}
use Rattle.task.proofs.layout.rows_base.Tie as tie

returns : tie.Need-returns
returns c =
    let base = c.pairs_base.ensures in
    (omega (arith, base.0, c.word.ensures.0), omega (arith, base.1, c.word.ensures.1))

pub rows_base_spec : {M : Type 1} → statement M
rows_base_spec =
    tie.close (tie.spec (λ c κs. search rules) (λ c κs. search rules) (λ c. search rules) (λ c. search rules) returns)
