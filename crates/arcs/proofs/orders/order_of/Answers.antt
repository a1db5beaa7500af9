use Rattle.std.proofs.Common.{arith, ℕ, List, ◌≡◌, refl, sym, ap, subst, replicate, get_or, ◌∙◌}
use lib.ListN.{length-set}
use Rattle.task.specs.declared.Part.{Part}
use Rattle.task.specs.Limits.{most_parts}
use Rattle.words.specs.Sets.{Loses, member}
use Rattle.arcs.specs.Stretches.{stretch_in, pair_stretch_in, chosen, order_told}
use Rattle.arcs.proofs.Placing.{Placed, placed-none, placed-more, placed-stuck, placed-all, order_is, below_all}
use Rattle.arcs.proofs.Placing.{below-without, bound-first, bound-next}
use Rattle.arcs.proofs.orders.order_of.Goals as goal

pub loop-placed-init : goal.loop-placed-init
loop-placed-init c =
    let g = c.gather-count in
    let n = g.result in
    let u = c.below-unplaced in
    let a = c.args in
    let atoms = stretch_in a.table.now a.from a.to in
    let none : List Part = replicate most_parts (record { 0 = 0 }) in (
      refl,
      below_all u.result n u.ensures,
      placed-none (pair_stretch_in a.table.now a.pair a.end) atoms n none u.result u.ensures,
      bound-first atoms n g.ensures.value u.result u.ensures,
    )

-- no part is ready
pub returns-in_default-clause-result_value : goal.returns-in_default-clause-result_value
unfolding chosen order_told
returns-in_default-clause-result_value c = λ s p e.
    let a = c.args in
    let h = c.loop-placed in
    let g = c.gather-count in
    let pairs = pair_stretch_in a.table.now a.pair a.end in
    let atoms = stretch_in a.table.now a.from a.to in
    sym (placed-stuck pairs atoms g.result h.parts h.unplaced h.placed c.loop-placed-test.true
    (sym (ap chosen c.in_default.is) ∙
    c.choose.ensures.result_value pairs atoms c.arcs_of-before.ensures g.ensures.are_tests h.invariant.3) h.invariant.2) ∙
    order_is s pairs atoms g.result p e g.ensures.value

pub without-unplaced-requires : goal.without-unplaced-requires
unfolding chosen
without-unplaced-requires c =
    let l = c.choose.ensures.chosen_below c.in-Some.part.0 (ap chosen c.in-Some.is) in
    omega (arith, c.from-p.ensures, c.gather-count.ensures.upper_bound)

pub bounds-named-p : goal.bounds-named-p
unfolding chosen
bounds-named-p c =
    let l = c.choose.ensures.chosen_below c.in-Some.part.0 (ap chosen c.in-Some.is) in
    omega (arith, c.from-p.ensures, c.gather-count.ensures.upper_bound)

pub loop-placed-preserved : goal.loop-placed-preserved
unfolding chosen
loop-placed-preserved c =
    let a = c.args in
    let h = c.loop-placed in
    let g = c.gather-count in
    let n = g.result in
    let p = c.in-Some.part in
    let q = c.from-p.ensures in
    let l = c.choose.ensures.chosen_below p.0 (ap chosen c.in-Some.is) in
    let pairs = pair_stretch_in a.table.now a.pair a.end in
    let atoms = stretch_in a.table.now a.from a.to in
    let u = c.without-unplaced.result in
    let w = subst (λ (k : ℕ). Loses h.unplaced k u) q c.without-unplaced.ensures in
    let next = sym (ap chosen c.in-Some.is) ∙
    c.choose.ensures.result_value pairs atoms c.arcs_of-before.ensures g.ensures.are_tests h.invariant.3 in (
      length-set h.parts h.placed p ∙ h.invariant.0,
      below-without h.unplaced u p.0 n w h.invariant.1,
      placed-more pairs atoms n h.parts h.unplaced u h.placed p c.loop-placed-test.true (omega arith) next w
          h.invariant.2,
      bound-next atoms n g.ensures.value h.unplaced u p.0 h.bound c.held.result c.union-bound.result l w h.invariant.3
          (λ x. ap (λ (s : ℕ). member s x) c.held.ensures ∙
          (ap (λ (k : ℕ). member (get_or g.new.named k 0) x) q ∙ g.ensures.are_parameters.named x p.0))
          c.union-bound.ensures,
    )

pub returns-clause-result_value : goal.returns-clause-result_value
unfolding order_told
returns-clause-result_value c = λ s p e.
    let a = c.args in
    let h = c.loop-placed in
    let g = c.gather-count in
    let pairs = pair_stretch_in a.table.now a.pair a.end in
    let atoms = stretch_in a.table.now a.from a.to in
    let z : h.placed ≡ g.result = omega arith in
    let done = subst (λ (k : ℕ). Placed pairs atoms g.result h.parts h.unplaced k) z h.invariant.2 in
    sym (placed-all pairs atoms g.result h.parts h.unplaced done) ∙ order_is s pairs atoms g.result p e g.ensures.value
