-- `blocks::folding::object_in` meets its contract: the word of the block at the parameter's origin.
use Rattle.blocks.proofs.folding.object_in.Tie as tie
use Prim.Native.Nat.{ℕ, ◌+◌, ◌<◌}
use mathlib.Core.Path.{◌≡◌, ◌∙◌, ap}
use native.Mathlib.Omega.{arith}
use lib.ListN.{length, get_or}
use borrow.Author.Rules.{rules}
use Rattle.blocks.specs.FoldCode.{origin_place}
use Rattle.blocks.proofs.folding.object_in.Statement.{statement}

-- where it stands
place : (c : tie.After-wide-2) → let a = c.args in
    c.wide-2.result ≡ get_or a.origins.now (origin_place a.s a.parameter.0) 0
place c =
    let a = c.args in
    c.wide-2.ensures
    ∙ ap (λ (p : ℕ). get_or a.origins.now (origin_place a.s p) 0) c.wide.ensures

inside : (c : tie.After-wide-2) → let a = c.args in
    a.begin + c.wide-2.result < length a.steps.now
inside c = let e = place c in let l = c.requires in omega arith

returns : tie.Need-returns
returns c =
    let a = c.args in
    ap (λ (n : ℕ). get_or a.steps.now (a.begin + n) 0) (place c.before)

pub object_in_spec : {M : Type 1} → statement M
object_in_spec =
    tie.close
    (tie.spec (λ c. search rules) (λ c κs. search rules) (λ c. search rules) (λ c. search rules) (λ c. search rules)
    (λ c κs. search rules) (λ c. let l = inside c in omega arith) (λ c. let l = inside c in omega arith)
    (λ c. inside c.before) returns)
