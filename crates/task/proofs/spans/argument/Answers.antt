use mathlib.Core.Path.{sym, ◌∙◌, ap}
use mathlib.Core.Bool.{Bool, cond}
use lib.ListN.{get_or}
use Rattle.task.specs.Spans.{object_in, argument_in}
use Rattle.task.proofs.spans.argument.Goals as goal

pub returns-then-used : goal.returns-then-used
unfolding argument_in
returns-then-used c =
    let own = object_in c.args.steps.now c.args.i (get_or c.args.table.now c.args.at 0) in
    c.object_of.ensures ∙ ap (λ (used : Bool). cond used own 0) (sym c.if-used.true)

pub returns-else-used : goal.returns-else-used
unfolding argument_in
returns-else-used c =
    let own = object_in c.args.steps.now c.args.i (get_or c.args.table.now c.args.at 0) in
    ap (λ (used : Bool). cond used own 0) (sym c.if-used.false)
