use Prim.Native.Nat.{ℕ, ◌-◌}
use mathlib.Core.Path.{◌≡◌, subst}
use native.Mathlib.Omega.{arith}
use Rattle.task.specs.Limits.{most_parameters}
use Rattle.blocks.specs.FoldCode.{PartNoted, PartsNoted}
use Rattle.blocks.proofs.Origins.{parts-start, parts_more}
use Rattle.blocks.proofs.folding.note_origins.Goals as goal

pub loop-j-init : goal.loop-j-init
loop-j-init c =
    let a = c.args in
    parts-start a.kept.now a.s c.count_of-j.result a.origins.now (let e = c.count_of-j.ensures in omega arith)

pub loop-j-preserved : goal.loop-j-preserved
loop-j-preserved c =
    let h = c.loop-j in
    let a = c.args in
    parts_more a.kept.now a.s h.j (h.j - 1) (omega (arith, c.loop-j-test.true)) h.invariant
    (subst (λ (o : ℕ). PartNoted o a.s (h.j - 1) most_parameters h.origins c.note_part.new.origins) c.own_at.ensures
    c.note_part.ensures)

pub returns : goal.returns
returns c =
    let h = c.loop-j in
    let a = c.args in
    let e : h.j ≡ 0 = omega (arith, c.loop-j-test.false) in
    subst (λ (j : ℕ). PartsNoted a.kept.now a.s j a.origins.now h.origins) e h.invariant
