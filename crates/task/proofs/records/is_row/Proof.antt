-- `task::records::is_row` meets its contract.
-- Below n the row's five words lie in the state, and its number is compared. From n on the answer is false, and k is
-- none of the rows.
use mathlib.Core.Path.{sym, ◌∙◌}
use native.Mathlib.Omega.{arith}
use borrow.Author.Tests.{eqb-true, eqb-false}
use Rattle.words.proofs.Lists.{no_ft}
use borrow.Author.Rules.{rules}
use Rattle.task.proofs.records.is_row.Statement.{statement}
use Rattle.task.proofs.records.is_row.Tie as tie

returns : tie.Need-returns-then-k-n
returns c = record {
  found = λ e. (c.if-k-n.true, sym c.number_at.ensures ∙ eqb-true _ _ e);
  missed = λ e l q. eqb-false _ _ e (c.number_at.ensures ∙ q);
}

returns-2 : tie.Need-returns-else-k-n
returns-2 c =
    let out = c.if-k-n.false in
    record { found = λ e. absurd (no_ft e); missed = λ e l q. absurd (omega arith) }

pub is_row_spec : {M : Type 1} → statement M
is_row_spec = tie.close (tie.spec (λ c. search rules) (λ c κs. search rules) returns returns-2)
