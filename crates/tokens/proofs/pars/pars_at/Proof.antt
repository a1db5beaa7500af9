-- `tokens::pars::pars_at` meets its contract: its sets are made of those at the position, before it and after it. A
-- parameter stood before where a set before has it, and stands again where one after has it.
use Rattle.tokens.proofs.pars.pars_at.Tie as tie
use borrow.Author.Rules.{rules}
use Prim.Native.Nat.{ℕ, ◌+◌, ◌-◌}
use mathlib.Core.Path.{◌∙◌, ap}
use mathlib.Core.Bool.{Bool, not, ◌&&◌}
use native.Mathlib.Omega.{arith}
use Rattle.words.specs.Lists.{any, up_from}
use Rattle.words.specs.Sets.{member}
use Rattle.tokens.proofs.ParPlaces.{pars-here}
use Rattle.tokens.proofs.pars.pars_at.Statement.{statement}
use Rattle.tokens.specs.Kept.{kept_own}

own-at-requires : tie.Need-own_at-here-requires
own-at-requires c κs = let l = c.requires.1.0 in (c.requires.0, omega (arith, c.requires.1.1))

parameters-between-requires : tie.Need-parameters_between-before-requires
parameters-between-requires c κs = let p = c.requires in (p.0, (omega arith, omega (arith, p.1.0, p.1.1)))

add-parameters-between : tie.Need-overflow_add-j
add-parameters-between c = omega (arith, c.requires.1)

count-of-requires : tie.Need-count_of-requires
count-of-requires c κs = c.requires.0

parameters-between-requires-2 : tie.Need-parameters_between-after-requires
parameters-between-requires-2 c κs =
    let p = c.requires in
    let n = c.count_of.ensures in
    (p.0, (omega (arith, p.1.0), omega (arith, p.1.1)))

returns : tie.Need-returns
returns c =
    λ t o known.
    let s = c in
    let a = s.args in
    let here = c.own_at-here.ensures in
    let before = c.parameters_between-before in
    let after = c.parameters_between-after in
    let later = c.common-later.ensures in
    let none = c.minus.ensures in
    let first = c.common.ensures in
    let n = s.requires.1.0 in
    let e = known.count in
    pars-here t a.s o a.j (omega arith) a.kept.now known _ before.result after.result
    (λ x. ap (λ (v : ℕ). member v x) here)
    before.ensures
    (λ x. after.ensures x ∙
    ap (λ (k : ℕ). any (λ i. member (kept_own a.kept.now a.s i) x) (up_from (a.j + 1) (k - (a.j + 1))))
    (c.count_of.ensures ∙ e))
    (λ x. later x ∙ ap (λ (v : ℕ). member v x && member before.result x) here)
    (λ x. first x ∙ ap (λ (b : Bool). b && member after.result x)
    (none x ∙ ap (λ (v : ℕ). member v x && not (member before.result x)) here))
    c.minus-2.ensures

pub pars_at_spec : {M : Type 1} → statement M
pars_at_spec =
    tie.close
    (tie.spec own-at-requires parameters-between-requires add-parameters-between count-of-requires
    parameters-between-requires-2 (λ c κs. search rules) (λ c κs. search rules) (λ c κs. search rules)
    (λ c κs. search rules) returns)
