-- `task::layout::atom_base` meets its contract: eight words for each atom before it.
use native.Mathlib.Omega.{arith}
use borrow.Author.Rules.{rules}
use Rattle.task.specs.Layout.{atom_base}
use Rattle.task.proofs.layout.atom_base.Statement.{statement}
use Rattle.task.proofs.layout.atom_base.Tie as tie

returns : tie.Need-returns
unfolding atom_base
returns c = omega (arith, c.rows_base.ensures.0)

pub atom_base_spec : {M : Type 1} → statement M
atom_base_spec = tie.close (tie.spec (λ c κs. search rules) (λ c. search rules) (λ c. search rules) returns)
