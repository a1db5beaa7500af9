-- `task::layout::arity` meets its contract: the arities that were tested are at most 4.
use native.Mathlib.Omega.{arith}
use borrow.Author.Rules.{rules}
use Rattle.task.proofs.layout.arity.Statement.{statement}
use Rattle.task.proofs.layout.arity.Tie as tie

returns : tie.Need-returns
returns c =
    let start = c in
    let e = c.arity_of.ensures in
    (e, omega (arith, start.requires.0.arities start.args.p start.requires.1, e))

pub arity_spec : {M : Type 1} → statement M
arity_spec = tie.close (tie.spec (λ c κs. search rules) returns)
