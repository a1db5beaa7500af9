-- `arcs::choice::new_parameters` meets its contract.
use Prim.Native.Nat.{ℕ}
use mathlib.Core.Path.{◌∙◌, ap}
use mathlib.Core.Bool.{not, ◌&&◌}
use borrow.Author.Rules.{rules}
use Rattle.words.specs.Sets.{member}
use Rattle.arcs.proofs.Choosing.{new-counted}
use Rattle.arcs.proofs.choice.new_parameters.Statement.{statement}
use Rattle.arcs.proofs.choice.new_parameters.Tie as tie

returns : tie.Need-returns
returns c = λ atoms counts placed t b.
    let a = c.args in
    let left = c.minus in
    let named = c.held.ensures in
    c.size.ensures.0
    ∙ new-counted atoms placed counts a.tested.now a.bound left.result a.p t b
    (λ x. left.ensures x ∙ ap (λ (s : ℕ). member s x && not (member a.bound x)) named)

pub new_parameters_spec : {M : Type 1} → statement M
new_parameters_spec =
    tie.close (tie.spec (λ c. search rules) (λ c. search rules) (λ c κs. tt) (λ c κs. tt) (λ c κs. tt) returns)
