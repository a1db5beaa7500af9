-- `defines::actions::head_size` meets its contract: fixed bytes, the number's digits and the parameters make the head
-- (`head-long`), and they are few.
use native.Mathlib.Omega.{arith}
use Prim.Native.Nat.{◌≤◌}
use Rattle.text.proofs.DigitSteps.{at-most-five}
use Rattle.defines.proofs.Frames.{parameters-few, head-long}
use borrow.Author.Rules.{rules}
use Rattle.defines.proofs.actions.head_size.Statement.{statement}
use Rattle.defines.proofs.actions.head_size.Tie as tie

few-digits : (c : tie.After-number_size) → c.number_size.result ≤ 5
few-digits c = let d = at-most-five c.args.schema in let e = c.number_size.ensures in omega arith

few-names : (c : tie.After-parameters_size) → c.parameters_size.result ≤ 49
few-names c =
    let start = c in
    let p = parameters-few start.args.params start.requires in
    let e = c.parameters_size.ensures in
    omega arith

add-result-3 : tie.Need-overflow_add-result-3
add-result-3 c = let d = few-digits c.before.before in let p = few-names c in omega arith

add-result-4 : tie.Need-overflow_add-result-4
add-result-4 c = let d = few-digits c.before.before.before in let p = few-names c.before in omega arith

returns : tie.Need-returns
returns c =
    let args = c.args in
    let l = head-long args.schema args.params in
    let d = c.number_size.ensures in
    let p = c.parameters_size.ensures in
    omega arith

pub head_size_spec : {M : Type 1} → statement M
head_size_spec =
    tie.close
    (tie.spec (λ c κs. search rules) (λ c. omega (arith, few-digits c)) (λ c. omega (arith, few-digits c.before))
    (λ c κs. search rules) add-result-3 add-result-4 returns)
