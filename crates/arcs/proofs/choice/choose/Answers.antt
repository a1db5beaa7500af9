use Rattle.std.proofs.Common.{arith, sym, subst, ◌∙◌, ◌≡◌, ℕ}
use Rattle.words.specs.Sets.{members}
use Rattle.arcs.specs.Order.{placed_parts}
use Rattle.arcs.specs.Stretches.{chosen}
use Rattle.arcs.proofs.Choosing.{FoundFrom, Known, found_none, found-skip, found_take, found_all}
use Rattle.arcs.proofs.choice.choose.Goals as goal

pub loop-p-init : goal.loop-p-init
unfolding chosen
loop-p-init c = (
  λ p e. let z : ◌≡◌ {A = ℕ} 0 1 = cc in omega arith,
  found_none _ c.args.unplaced c.args.count,
)

pub loop-p-preserved-then-is_ready : goal.loop-p-preserved-then-is_ready
loop-p-preserved-then-is_ready c =
    let n = c.args.count in (
      c.better_of-found.ensures.by_index n (omega arith) c.loop-p.invariant.0,
      found_take _ c.args.unplaced n c.loop-p.p (chosen c.loop-p.found) (chosen c.better_of-found.result)
          c.loop-p-test.true (omega arith)
          (λ pairs atoms k. sym (c.is_ready.ensures pairs atoms n k.arcs c.requires.set_below) ∙ c.if-is_ready.true)
          c.loop-p.invariant.1
          (λ pairs atoms k.
          c.better_of-found.ensures.result_value atoms (placed_parts atoms (members c.args.unplaced n)) k.tests k.placed),
    )

pub loop-p-preserved : goal.loop-p-preserved
loop-p-preserved c =
    let n = c.args.count in (
      c.loop-p.invariant.0,
      found-skip _ c.args.unplaced n c.loop-p.p (chosen c.loop-p.found) c.loop-p-test.true (omega arith)
          (λ pairs atoms k. sym (c.is_ready.ensures pairs atoms n k.arcs c.requires.set_below) ∙ c.if-is_ready.false)
          c.loop-p.invariant.1,
    )

pub returns-clause-result_value : goal.returns-clause-result_value
returns-clause-result_value c = λ pairs atoms a t b.
    let n = c.args.count in
    let known = Known c.args.before.now c.args.counts.now c.args.tested.now c.args.bound c.args.unplaced n in
    let z : c.loop-p.p ≡ 0 = omega arith in
    let found = chosen c.loop-p.found in
    found_all known c.args.unplaced n found
    (subst (λ (k : ℕ). FoundFrom known c.args.unplaced n k found) z c.loop-p.invariant.1) pairs atoms
    (record { arcs = a; tests = t; placed = b })
