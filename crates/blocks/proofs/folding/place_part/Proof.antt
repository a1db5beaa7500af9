-- `blocks::folding::place_part` meets its contract. The invariant: the parameters below p are noted, and the next one's
-- origin goes to `next`. The measure is the parameters left.
use Rattle.blocks.proofs.folding.place_part.Tie as tie
use Prim.Native.Nat.{ℕ, ◌+◌, ◌-◌, ◌≤◌, ◌<◌}
use mathlib.Core.Path.{◌≡◌, sym, ◌∙◌, ap, subst}
use mathlib.Core.List.{List}
use mathlib.Core.Logic.{⊎_elim}
use native.Mathlib.Omega.{arith}
use Rattle.blocks.specs.FoldCode.{PartPlaced}
use Rattle.blocks.proofs.KeptWords.{both_at}
use Rattle.blocks.proofs.Origins.{few-below}
use Rattle.blocks.proofs.Places.{next_place, place-first, place_in, place_out, placed-start, placed-in}
use Rattle.blocks.proofs.Places.{placed-out}
use Rattle.blocks.proofs.folding.place_part.Statement.{statement}

abbrev Noted : ℕ → ℕ → ℕ → List ℕ → List ℕ → ℕ → List ℕ → ℕ → Type 0
Noted own s number origins places₀ p places next =
    (next ≡ next_place own number p) × PartPlaced own s number p origins places₀ places

abbrev invariant-loop-p : tie.invariant-loop-p
invariant-loop-p own s number origins places₀ next₀ p₀ places next p =
    (p ≤ 12) × Noted own s number origins places₀ p places next

abbrev decreases-loop-p : tie.decreases-loop-p
decreases-loop-p own s number origins places₀ next₀ p₀ places next p = 12 - p

loop-holds : tie.Need-loop-p-init invariant-loop-p decreases-loop-p
loop-holds c =
    let a = c.args in (
      omega arith,
      (place-first a.own a.number, placed-start a.own a.s a.number a.origins.now a.places.now),
    )

-- the next place is one of the schema's
small : (c : tie.Then-has invariant-loop-p decreases-loop-p) → c.loop-p.next < 2400
small c =
    let h = c.loop-p in
    let a = c.args in
    let n = few-below a.own h.p in
    let e = h.invariant.1.0 in
    let l = c.requires in
    let q = c.loop-p-test.true in
    omega arith

loop-again : tie.Need-loop-p-preserved invariant-loop-p decreases-loop-p
loop-again c =
    let turn = c in
    let h = turn.loop-p in
    let a = turn.args in
    let test = sym c.has.ensures in
    let P : List ℕ → ℕ → Type 0 = Noted a.own a.s a.number a.origins.now a.places.now (h.p + 1) in (
      omega arith,
      ⊎_elim
          (λ x.
          let m = test ∙ x.if-has.true in
          let l = small (record { before = c.before; if-has = x.if-has }) in
          both_at P x.places-is x.next-is (
            ap (λ (n : ℕ). n + 1) h.invariant.1.0 ∙ place_in a.own a.number h.p m,
            placed-in a.own a.s a.number a.origins.now h.p h.invariant.1.1 m h.next h.invariant.1.0
                (omega arith),
          ))
          (λ x.
          let m = test ∙ x.if-has.false in
          both_at P x.places-is x.next-is (
            h.invariant.1.0 ∙ place_out a.own a.number h.p m,
            placed-out a.own a.s a.number a.origins.now h.p h.invariant.1.1 m,
          ))
          c.if-has.branch-raw,
    )

returns : tie.Need-returns invariant-loop-p decreases-loop-p
returns c =
    let h = c.loop-p in
    let a = c.args in
    let e : h.p ≡ 12 = omega arith in
    subst (λ (p : ℕ). PartPlaced a.own a.s a.number p a.origins.now a.places.now h.places) e
    h.invariant.1.1

pub place_part_spec : {M : Type 1} → statement M
place_part_spec =
    tie.close
    (tie.spec invariant-loop-p decreases-loop-p (λ c. omega arith) loop-holds (λ c κs. omega arith) (λ c. omega arith) (λ c. omega arith)
    (λ c. omega arith) (λ c. omega arith) (λ c. let l = small c.before.before in omega arith) (λ c. small c.before.before.before)
    (λ c. let l = small c.before.before.before in omega arith) (λ c. omega arith) (λ c. omega arith) loop-again returns)
