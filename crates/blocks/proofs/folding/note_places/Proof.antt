-- `blocks::folding::note_places` meets its contract. The invariant: the origins of the schema's parts before j are
-- noted. The measure is the parts left.
use Rattle.blocks.proofs.folding.note_places.Tie as tie
use Prim.Native.Nat.{ℕ, ◌+◌, ◌-◌, ◌≤◌, ◌<◌}
use mathlib.Core.Path.{◌≡◌, refl, subst}
use native.Mathlib.Omega.{arith}
use lib.ListN.{length}
use Rattle.task.specs.Task.{Task}
use Rattle.tokens.specs.Split.{orders, first_of}
use Rattle.tokens.specs.Kept.{kept_own}
use Rattle.blocks.specs.Unfolding.{BlocksKept}
use Rattle.blocks.specs.FoldCode.{PartPlaced, PlacesNoted}
use Rattle.blocks.proofs.SplitParams.{schema-passed, part-looked}
use Rattle.blocks.proofs.Places.{places-more}
use Rattle.blocks.proofs.folding.note_places.Statement.{statement}

abbrev invariant-loop-j : tie.invariant-loop-j
invariant-loop-j kept s origins places₀ first parts j₀ places j =
    (j ≤ parts) ×
    ((t : Task) → BlocksKept t kept → s < length t.schemas → PlacesNoted t kept origins (first_of t s) places₀ →
    PlacesNoted t kept origins (first_of t s + j) places)

abbrev decreases-loop-j : tie.decreases-loop-j
decreases-loop-j kept s origins places₀ first parts j₀ places j = parts - j

-- the schema is one of the task's, for the task that the caller knows of
known : (c : tie.Start invariant-loop-j decreases-loop-j) → c.args.s < 200
known c = let (t, K, l) = c.requires in let n = K.few-schemas in omega arith

-- the part of this turn, for any task
part : (c : tie.In-loop-j invariant-loop-j decreases-loop-j) (t : Task) → let a = c.args in
    BlocksKept t a.kept.now → a.s < length t.schemas → c.loop-j.j < length (orders t a.s)
part c t K l = omega (arith, c.count_of-parts.ensures, K.count _ l, c.loop-j-test.true)

-- it and its number in the split are within the limits
small : (c : tie.In-loop-j invariant-loop-j decreases-loop-j) →
    (c.loop-j.j < 16) × (c.first_of-first.result + c.loop-j.j < 200)
small c =
    let (t, K, l) = c.requires in
    let (e, a, b) = part-looked K _ _ l (part c t K l) _ c.first_of-first.ensures in
    (a, b)

loop-holds : tie.Need-loop-j-init invariant-loop-j decreases-loop-j
loop-holds c =
    let a = c.args in (
      omega arith,
      λ t K l h. let e : first_of t a.s ≡ first_of t a.s + 0 = omega arith in
          subst (λ (n : ℕ). PlacesNoted t a.kept.now a.origins.now n a.places.now) e h,
    )

own-at-requires : tie.Need-own_at-requires invariant-loop-j decreases-loop-j
own-at-requires c κs = (known c.before.before.before.before, (small c).0)

place-part-requires : tie.Need-place_part-requires invariant-loop-j decreases-loop-j
place-part-requires c κs =
    let turn = c in
    (known turn.before.before.before.before.before.before, (small turn.before.before).1)

loop-again : tie.Need-loop-j-preserved invariant-loop-j decreases-loop-j
loop-again c =
    let turn = c in
    let h = turn.loop-j in
    let a = turn.args in
    let d = c.place_part.ensures in
    let after = c.place_part.new.places in (
      omega (arith, turn.loop-j-test.true),
      λ t K l n.
          let m = part turn.before.before.before t K l in
          let e = (part-looked K _ _ l m _ turn.first_of-first.ensures).0 in
          let f : first_of t a.s + h.j + 1 ≡ first_of t a.s + (h.j + 1) = omega arith in
          subst (λ (i : ℕ). PlacesNoted t a.kept.now a.origins.now i after) f
          (places-more a.s h.j (first_of t a.s + h.j) m refl (h.invariant.1 t K l n)
          (subst (λ (i : ℕ). PartPlaced (kept_own a.kept.now a.s h.j) a.s i 12 a.origins.now h.places
          after) e
          (subst (λ (o : ℕ). PartPlaced o a.s (turn.first_of-first.result + h.j) 12
          a.origins.now h.places after) c.own_at.ensures d))),
    )

returns : tie.Need-returns invariant-loop-j decreases-loop-j
returns c =
    let h = c.loop-j in
    let a = c.args in
    λ t K l n.
    subst (λ (i : ℕ). PlacesNoted t a.kept.now a.origins.now i h.places)
    (schema-passed K _ h.j _ l c.count_of-parts.ensures c.loop-j-test.false h.invariant.0)
    (h.invariant.1 t K l n)

pub note_places_spec : {M : Type 1} → statement M
note_places_spec =
    tie.close
    (tie.spec invariant-loop-j decreases-loop-j (λ c κs. let l = known c in omega arith) (λ c κs. known c.before) loop-holds
    own-at-requires (λ c. let l = (small c.before).1 in omega arith) place-part-requires
    (λ c. let l = (small c.before.before.before).0 in omega arith) (λ c. omega arith) loop-again returns)
