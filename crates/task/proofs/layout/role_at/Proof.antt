-- `task::layout::role_at` meets its contract: the second word of the row.
use Prim.Native.Nat.{ℕ, ◌+◌}
use mathlib.Core.Path.{◌∙◌, ap}
use lib.ListN.{get_or}
use borrow.Author.Rules.{rules}
use Rattle.task.specs.Table.{atom_in}
use Rattle.task.proofs.layout.role_at.Statement.{statement}
use Rattle.task.proofs.layout.role_at.Tie as tie

returns : tie.Need-returns
unfolding atom_in
returns c =
    let e = c.word_at.ensures in
    (e, λ i p. e ∙ ap (λ (b : ℕ). get_or c.args.table.now (b + 1) 0) p)

pub role_at_spec : {M : Type 1} → statement M
role_at_spec = tie.close (tie.spec (λ c. search rules) (λ c κs. search rules) returns)
