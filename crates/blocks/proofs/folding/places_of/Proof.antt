-- `blocks::folding::places_of` meets its contract. The invariant: the origins of the parts of the schemas before s are
-- noted. The measure is the schemas left.
use Rattle.blocks.proofs.folding.places_of.Tie as tie
use Prim.Native.Nat.{ℕ, ◌-◌, ◌≤◌}
use mathlib.Core.Path.{◌≡◌, subst}
use native.Mathlib.Omega.{arith}
use lib.ListN.{length}
use Rattle.task.specs.Task.{Task}
use Rattle.tokens.specs.Split.{first_of}
use Rattle.blocks.specs.Unfolding.{BlocksKept}
use Rattle.blocks.specs.FoldCode.{PlacesNoted}
use Rattle.blocks.proofs.Places.{places-start}
use Rattle.blocks.proofs.folding.places_of.Statement.{statement}

abbrev invariant-loop-s : tie.invariant-loop-s
invariant-loop-s kept schemas origins places₀ s₀ places s =
    (s ≤ schemas) ×
    ((t : Task) → BlocksKept t kept → schemas ≡ length t.schemas → PlacesNoted t kept origins (first_of t s) places)

abbrev decreases-loop-s : tie.decreases-loop-s
decreases-loop-s kept schemas origins places₀ s₀ places s = schemas - s

loop-holds : tie.Need-loop-s-init invariant-loop-s decreases-loop-s
loop-holds c = (omega arith, λ t K e. places-start _)

note-places-requires : tie.Need-note_places-requires invariant-loop-s decreases-loop-s
note-places-requires c κs =
    let d = c in
    let (t, K, e) = d.requires in
    (t, K, omega (arith, d.loop-s-test.true))

loop-again : tie.Need-loop-s-preserved invariant-loop-s decreases-loop-s
loop-again c =
    let d = c in
    let l = d.loop-s-test.true in (
      omega arith,
      λ t K e. c.note_places.ensures t K (omega arith) (d.loop-s.invariant.1 t K e),
    )

returns : tie.Need-returns invariant-loop-s decreases-loop-s
returns c = λ t K e.
    let h = c.loop-s in
    let a = c.args in
    let z : h.s ≡ length t.schemas = omega (arith, c.loop-s-test.false) in
    subst (λ (n : ℕ). PlacesNoted t a.kept.now a.origins.now (first_of t n) h.places) z (h.invariant.1 t K e)

pub places_of_spec : {M : Type 1} → statement M
places_of_spec =
    tie.close
    (tie.spec invariant-loop-s decreases-loop-s loop-holds (λ c. omega arith) note-places-requires (λ c. omega arith) (λ c. omega arith)
    loop-again returns)
