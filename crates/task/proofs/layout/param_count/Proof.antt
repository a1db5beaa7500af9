-- `task::layout::param_count` meets its contract: the word of the schema is its parameter count in the task.
use mathlib.Core.Path.{◌∙◌, ap}
use native.Mathlib.Omega.{arith}
use borrow.Author.Rules.{rules}
use Rattle.task.specs.Layout.{params_in}
use Rattle.task.proofs.TableReads.{params-inside, params-word}
use Rattle.task.proofs.layout.param_count.Statement.{statement}
use Rattle.task.proofs.layout.param_count.Tie as tie

params-of-requires : tie.Need-params_of-requires
params-of-requires c κs =
    let start = c in
    let l = params-inside start.args.table.now start.requires.0 start.args.schema start.requires.1 in
    omega (arith, c.wide.ensures)

returns : tie.Need-returns
returns c =
    let start = c in
    let w = start.args.table.now in
    c.params_of.ensures.0 ∙ (ap (params_in w) c.wide.ensures ∙
    params-word w start.requires.0 start.args.schema start.requires.1)

pub param_count_spec : {M : Type 1} → statement M
param_count_spec = tie.close (tie.spec (λ c κs. search rules) params-of-requires returns)
