-- `blocks::folding::note_part` meets its contract. The invariant: the parameters below p are noted, and the next
-- object stands at `next`. The measure is the parameters left.
use Rattle.blocks.proofs.folding.note_part.Tie as tie
use Prim.Native.Nat.{ℕ, ◌+◌, ◌-◌, ◌≤◌, ◌<◌}
use mathlib.Core.Path.{◌≡◌, sym, ◌∙◌, ap, subst}
use mathlib.Core.List.{List}
use mathlib.Core.Logic.{⊎_elim}
use native.Mathlib.Omega.{arith}
use Rattle.blocks.specs.FoldCode.{word_in, PartNoted}
use Rattle.blocks.proofs.KeptWords.{both_at}
use Rattle.blocks.proofs.Origins.{few-below, part-start, part_in, part_out, next-first, next-in, next-out}
use Rattle.blocks.proofs.folding.note_part.Statement.{statement}

abbrev Noted : ℕ → ℕ → ℕ → List ℕ → ℕ → List ℕ → ℕ → Type 0
Noted own s j origins₀ p origins next = (next ≡ word_in own j p) × PartNoted own s j p origins₀ origins

abbrev invariant-loop-p : tie.invariant-loop-p
invariant-loop-p own s j origins₀ next₀ p₀ origins next p = (p ≤ 12) × Noted own s j origins₀ p origins next

abbrev decreases-loop-p : tie.decreases-loop-p
decreases-loop-p own s j origins₀ next₀ p₀ origins next p = 12 - p

loop-holds : tie.Need-loop-p-init invariant-loop-p decreases-loop-p
loop-holds c =
    let a = c.args in
    (omega arith, (next-first a.own a.j, part-start a.own a.s a.j a.origins.now))

-- the next object's word is small
small : (c : tie.Then-has invariant-loop-p decreases-loop-p) → c.loop-p.next < 65536
small c =
    let h = c.loop-p in
    let a = c.args in
    let n = few-below a.own h.p in
    let e = h.invariant.1.0 in
    let l = c.requires in
    omega arith

loop-again : tie.Need-loop-p-preserved invariant-loop-p decreases-loop-p
loop-again c =
    let turn = c in
    let h = turn.loop-p in
    let a = turn.args in
    let test = sym c.has.ensures in
    let P : List ℕ → ℕ → Type 0 = Noted a.own a.s a.j a.origins.now (h.p + 1) in (
      omega arith,
      ⊎_elim
          (λ x.
          let m = test ∙ x.if-has.true in
          both_at P x.origins-is x.next-is (
            ap (λ (n : ℕ). n + 1) h.invariant.1.0 ∙ next-in a.own a.j h.p m,
            part_in a.own a.s a.j h.p h.invariant.1.1 m h.next h.invariant.1.0 (omega arith),
          ))
          (λ x.
          let m = test ∙ x.if-has.false in
          both_at P x.origins-is x.next-is (
            h.invariant.1.0 ∙ next-out a.own a.j h.p m,
            part_out a.own a.s a.j h.p h.invariant.1.1 m,
          ))
          c.if-has.branch-raw,
    )

returns : tie.Need-returns invariant-loop-p decreases-loop-p
returns c =
    let h = c.loop-p in
    let a = c.args in
    let e : h.p ≡ 12 = omega arith in
    subst (λ (p : ℕ). PartNoted a.own a.s a.j p a.origins.now h.origins) e h.invariant.1.1

pub note_part_spec : {M : Type 1} → statement M
note_part_spec =
    tie.close
    (tie.spec invariant-loop-p decreases-loop-p (λ c. omega arith) (λ c. omega arith) loop-holds (λ c κs. omega arith)
    (λ c. let l = small c in omega arith) (λ c. omega arith) (λ c. omega arith) (λ c. omega arith) (λ c. omega arith)
    (λ c. let l = small c.before in omega arith) (λ c. omega arith) (λ c. omega arith) loop-again returns)
