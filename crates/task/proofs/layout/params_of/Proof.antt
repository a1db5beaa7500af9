-- `task::layout::params_of` meets its contract: a word behind where the parameter counts begin.
use Prim.Native.Nat.{ℕ, ◌+◌}
use mathlib.Core.Path.{◌∙◌, ap}
use lib.ListN.{get_or}
use borrow.Author.Rules.{rules}
use Rattle.task.proofs.layout.params_of.Statement.{statement}
use Rattle.task.proofs.layout.params_of.Tie as tie

returns : tie.Need-returns
returns c =
    let given = c.args in (
      c.word.ensures.0 ∙ ap (λ (b : ℕ). get_or given.table.now (b + given.s) 0)
          c.params_base.ensures.0,
      c.word.ensures.1,
    )

pub params_of_spec : {M : Type 1} → statement M
params_of_spec = tie.close (tie.spec (λ c κs. search rules) (λ c. search rules) (λ c κs. search rules) returns)
