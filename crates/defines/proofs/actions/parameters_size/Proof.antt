-- `defines::actions::parameters_size` meets its contract: each parameter takes its mark and its digits, but for the
-- space before the first (`parameters-long`), and the digits are few.
use native.Mathlib.Omega.{arith}
use mathlib.Core.Path.{sym, ◌∙◌, ap}
use lib.ListN.{length}
use Rattle.defines.specs.Pddl.{parameter}
use Rattle.defines.proofs.MarkedNames.{below-long}
use Rattle.defines.proofs.AtomItems.{no-neighbours}
use Rattle.defines.proofs.Frames.{parameters, parameters-long}
use borrow.Author.Rules.{rules}
use Rattle.defines.proofs.actions.parameters_size.Statement.{statement}
use Rattle.defines.proofs.actions.parameters_size.Tie as tie

returns : tie.Need-returns-then-params-eq0
returns c = sym (ap length (ap parameters c.if-params-eq0.true ∙ no-neighbours parameter))

add-result : tie.Need-overflow_add-result
add-result c =
    let b = below-long c.args.params (omega arith) in
    let e = c.below_size.ensures in
    omega arith

returns-2 : tie.Need-returns
returns-2 c =
    let l = parameters-long c.args.params in
    let e = c.below_size.ensures in
    omega arith

pub parameters_size_spec : {M : Type 1} → statement M
parameters_size_spec =
    tie.close
    (tie.spec returns (λ c. search rules) (λ c κs. search rules) add-result (λ c. search rules) returns-2)
