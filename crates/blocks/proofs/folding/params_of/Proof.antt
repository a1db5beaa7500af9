-- `blocks::folding::params_of` meets its contract. The invariant: the parameters of the parts of the schemas before s
-- are counted. The measure is the schemas left.
use Rattle.blocks.proofs.folding.params_of.Tie as tie
use Prim.Native.Nat.{ℕ, ◌-◌, ◌≤◌}
use mathlib.Core.Path.{◌≡◌, refl, subst}
use native.Mathlib.Omega.{arith}
use lib.ListN.{length}
use Rattle.task.specs.Task.{Task}
use Rattle.tokens.specs.Split.{first_of}
use Rattle.blocks.specs.Unfolding.{BlocksKept}
use Rattle.blocks.specs.FoldCode.{ParamsNoted}
use Rattle.blocks.proofs.SplitParams.{params-start}
use Rattle.blocks.proofs.folding.params_of.Statement.{statement}

abbrev invariant-loop-s : tie.invariant-loop-s
invariant-loop-s kept schemas params₀ s₀ params s =
    (s ≤ schemas) ×
    ((t : Task) → BlocksKept t kept → schemas ≡ length t.schemas → ParamsNoted t (first_of t s) params)

abbrev decreases-loop-s : tie.decreases-loop-s
decreases-loop-s kept schemas params₀ s₀ params s = schemas - s

loop-holds : tie.Need-loop-s-init invariant-loop-s decreases-loop-s
loop-holds c = (omega arith, λ t K e. params-start t refl)

note-params-requires : tie.Need-note_params-requires invariant-loop-s decreases-loop-s
note-params-requires c κs =
    let d = c in
    let (t, K, e) = d.requires in
    (t, K, omega (arith, d.loop-s-test.true), d.loop-s.invariant.1 t K e)

loop-again : tie.Need-loop-s-preserved invariant-loop-s decreases-loop-s
loop-again c =
    let d = c in
    let l = d.loop-s-test.true in
    (omega arith, λ t K e. c.note_params.ensures t K (omega arith) (d.loop-s.invariant.1 t K e))

returns : tie.Need-returns invariant-loop-s decreases-loop-s
returns c = λ t K e.
    let h = c.loop-s in
    let z : h.s ≡ length t.schemas = omega (arith, c.loop-s-test.false) in
    subst (λ (n : ℕ). ParamsNoted t (first_of t n) h.params) z (h.invariant.1 t K e)

pub params_of_spec : {M : Type 1} → statement M
params_of_spec =
    tie.close
    (tie.spec invariant-loop-s decreases-loop-s loop-holds (λ c. omega arith) note-params-requires (λ c. omega arith) (λ c. omega arith)
    loop-again returns)
