-- `task::layout::row_of` meets its contract: the eight words of a known atom lie in the table.
use native.Mathlib.Omega.{arith}
use borrow.Author.Rules.{rules}
use Rattle.task.specs.Layout.{atom_base}
use Rattle.task.proofs.layout.row_of.Statement.{statement}
use Rattle.task.proofs.layout.row_of.Tie as tie

returns : tie.Need-returns
unfolding atom_base
returns c = (c.atom_base.ensures, omega arith)

pub row_of_spec : {M : Type 1} → statement M
row_of_spec = tie.close (tie.spec (λ c κs. search rules) returns)
