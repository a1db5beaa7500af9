-- `task::layout::lower` meets its contract: the second word of its row.
use Prim.Native.Nat.{ℕ, ◌+◌}
use mathlib.Core.Path.{◌∙◌, ap}
use lib.ListN.{get_or}
use borrow.Author.Rules.{rules}
use Rattle.task.specs.Table.{pair_in}
use Rattle.task.proofs.layout.lower.Statement.{statement}
use Rattle.task.proofs.layout.lower.Tie as tie

returns : tie.Need-returns
unfolding pair_in
returns c =
    c.word.ensures.0 ∙ ap (λ (b : ℕ). get_or c.args.table.now (b + 1) 0)
    c.pair_of.ensures.0

pub lower_spec : {M : Type 1} → statement M
lower_spec = tie.close (tie.spec (λ c κs. search rules) (λ c. search rules) (λ c κs. search rules) returns)
