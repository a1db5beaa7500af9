-- `blocks::folding::origins_of` meets its contract. The invariant: the parameters of the schemas before s are noted.
-- The measure is the schemas left.
use Rattle.blocks.proofs.folding.origins_of.Tie as tie
use Prim.Native.Nat.{ℕ, ◌-◌, ◌≤◌}
use mathlib.Core.Path.{◌≡◌, subst}
use native.Mathlib.Omega.{arith}
use Rattle.blocks.specs.FoldCode.{OriginsKept}
use Rattle.blocks.proofs.Origins.{origins-start, origins-more}
use Rattle.blocks.proofs.folding.origins_of.Statement.{statement}

abbrev invariant-loop-s : tie.invariant-loop-s
invariant-loop-s kept schemas origins₀ s₀ origins s =
    (s ≤ schemas) × OriginsKept kept s origins

abbrev decreases-loop-s : tie.decreases-loop-s
decreases-loop-s kept schemas origins₀ s₀ origins s = schemas - s

loop-holds : tie.Need-loop-s-init invariant-loop-s decreases-loop-s
loop-holds c = (omega arith, origins-start c.args.kept.now _)

note-origins-requires : tie.Need-note_origins-requires invariant-loop-s decreases-loop-s
note-origins-requires c κs =
    let d = c in
    let (few, parts) = d.requires in
    let l = d.loop-s-test.true in
    (omega arith, parts d.loop-s.s l)

loop-again : tie.Need-loop-s-preserved invariant-loop-s decreases-loop-s
loop-again c =
    let d = c in
    let h = d.loop-s in
    let l = d.loop-s-test.true in
    let n = c.note_origins.ensures in
    (omega arith, origins-more h.s h.invariant.1 n)

returns : tie.Need-returns invariant-loop-s decreases-loop-s
returns c =
    let h = c.loop-s in
    let a = c.args in
    let z : h.s ≡ a.schemas = omega (arith, c.loop-s-test.false) in
    subst (λ (n : ℕ). OriginsKept a.kept.now n h.origins) z h.invariant.1

pub origins_of_spec : {M : Type 1} → statement M
origins_of_spec =
    tie.close
    (tie.spec invariant-loop-s decreases-loop-s loop-holds (λ c. omega arith) note-origins-requires (λ c. omega arith) (λ c. omega arith)
    loop-again returns)
