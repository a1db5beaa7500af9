use Prim.Native.Nat.{◌+◌, ◌/◌, ◌<◌}
use mathlib.Core.Path.{refl, sym, ◌∙◌}
use native.Mathlib.Omega.{arith}
use lib.ListN.{length}
use borrow.Author.Count.{below_more}
use Rattle.task.specs.Limits.{step_size}
use Rattle.tokens.specs.Split.{orders}
use Rattle.blocks.proofs.Beginning.{begun_some, begun_nothing}
use Rattle.blocks.proofs.FoldWords.{part-whole}
use Rattle.blocks.proofs.FoldTaken.{found_none, found-whole, found-no-block, found-known, found-broken, found-more}
use Rattle.blocks.proofs.folding.take_apart.Goals as goal

-- ---- between blocks
pub list-init : goal.list-init
list-init c = record {
  within = omega arith;
  few = omega arith;
  found = λ t os ps K A B. found_none t c.args.steps.now;
}

pub count_of-parts-requires : goal.count_of-parts-requires
count_of-parts-requires c =
    let (t, os, ps, K, A, B) = c.requires in
    let here : c.list.i < length c.args.steps.now / step_size = omega (arith, c.list.invariant.within, c.if-i-count.false) in
    let begins = begun_some c.begun_at-begun.ensures c.in-Some.is in
    let known = found-known K B (c.list.invariant.found t os ps K A B) here c.in-Some.s begins in
    omega (arith, known, K.blocks.few-schemas)

-- ---- in a block
pub part_fits-requires : goal.part_fits-requires
part_fits-requires c =
    let (t, os, ps, K, A, B) = c.requires in
    let here : c.list.i < length c.args.steps.now / step_size = omega (arith, c.list.invariant.within, c.if-i-count.false) in
    let begins = begun_some c.begun_at-begun.ensures c.in-Some.is in
    let known = found-known K B (c.list.invariant.found t os ps K A B) here c.in-Some.s begins in
    let count = c.count_of-parts.ensures ∙ K.blocks.count c.in-Some.s known in
    let within = c.loop-j.invariant.within in
    (t, os, ps, K, A, known, omega (arith, count), omega arith)

pub loop-j-preserved : goal.loop-j-preserved
loop-j-preserved c =
    let (t, os, ps, K, A, B) = c.requires in
    let s = c.in-Some.s in
    let j = c.loop-j.j in
    let here : c.list.i < length c.args.steps.now / step_size = omega (arith, c.list.invariant.within, c.if-i-count.false) in
    let begins = begun_some c.begun_at-begun.ensures c.in-Some.is in
    let known = found-known K B (c.list.invariant.found t os ps K A B) here s begins in
    let count = c.count_of-parts.ensures ∙ K.blocks.count s known in
    let position : j < length (orders t s) = omega (arith, count) in
    let stands = sym (c.part_fits.ensures t os ps K A known position) ∙ c.if-not-part_fits.false in
    let whole = part-whole K.blocks K.origin c.args.steps.now c.list.i s known j position stands in
    record {
      within = omega (arith, whole);
      stand = λ t os ps K A m.
          let count = c.count_of-parts.ensures ∙ K.blocks.count s m in
          below_more _ _ (c.loop-j.invariant.stand t os ps K A m)
          (sym (c.part_fits.ensures t os ps K A m (omega (arith, count))) ∙ c.if-not-part_fits.false);
    }

-- ---- a block is complete
pub list-smaller : goal.list-smaller
list-smaller c =
    let (t, os, ps, K, A, B) = c.requires in
    let s = c.in-Some.s in
    let here : c.list.i < length c.args.steps.now / step_size = omega (arith, c.list.invariant.within, c.if-i-count.false) in
    let begins = begun_some c.begun_at-begun.ensures c.in-Some.is in
    let known = found-known K B (c.list.invariant.found t os ps K A B) here s begins in
    let count = c.count_of-parts.ensures ∙ K.blocks.count s known in
    let some = K.blocks.some-part s known in
    omega (arith, count, c.loop-j.invariant.within, c.loop-j-test.false)

pub list-preserved : goal.list-preserved
list-preserved c =
    let (t, os, ps, K, A, B) = c.requires in
    let s = c.in-Some.s in
    let n = c.count_of-parts.result in
    let here : c.list.i < length c.args.steps.now / step_size = omega (arith, c.list.invariant.within, c.if-i-count.false) in
    let begins = begun_some c.begun_at-begun.ensures c.in-Some.is in
    let known = found-known K B (c.list.invariant.found t os ps K A B) here s begins in
    let count = c.count_of-parts.ensures ∙ K.blocks.count s known in
    let some = K.blocks.some-part s known in
    let few = c.list.invariant.few in
    record {
      within = omega (arith, c.loop-j.invariant.within, c.loop-j-test.false);
      few = omega (arith, count);
      found = λ t os ps K A B.
          let known = found-known K B (c.list.invariant.found t os ps K A B) here s begins in
          let count = c.count_of-parts.ensures ∙ K.blocks.count s known in
          found-more K B (c.list.invariant.found t os ps K A B) here s begins n (omega (arith, count))
          (λ k l. c.loop-j.invariant.stand t os ps K A known k (omega (arith, c.loop-j-test.false))) (c.list.i + n) refl count;
    }

-- ---- the answers
pub returns-then-i-count : goal.returns-then-i-count
returns-then-i-count c = λ t os ps K A B.
    let h = c.list in found-whole h.taken h.i c.if-i-count.true (h.invariant.found t os ps K A B)

pub returns-in_default : goal.returns-in_default
returns-in_default c = λ t os ps K A B.
    let here : c.list.i < length c.args.steps.now / step_size = omega (arith, c.list.invariant.within, c.if-i-count.false) in
    found-no-block K B (c.list.invariant.found t os ps K A B) here
    (begun_nothing c.begun_at-begun.ensures c.in_default.is)

pub returns-then-not-part_fits : goal.returns-then-not-part_fits
returns-then-not-part_fits c = λ t os ps K A B.
    let s = c.in-Some.s in
    let j = c.loop-j.j in
    let here : c.list.i < length c.args.steps.now / step_size = omega (arith, c.list.invariant.within, c.if-i-count.false) in
    let begins = begun_some c.begun_at-begun.ensures c.in-Some.is in
    let known = found-known K B (c.list.invariant.found t os ps K A B) here s begins in
    let count = c.count_of-parts.ensures ∙ K.blocks.count s known in
    let position : j < length (orders t s) = omega (arith, count) in
    found-broken K B (c.list.invariant.found t os ps K A B) here s begins j (omega arith)
    (c.loop-j.invariant.stand t os ps K A known) (c.list.i + j) refl position
    (sym (c.part_fits.ensures t os ps K A known position) ∙ c.if-not-part_fits.true)
