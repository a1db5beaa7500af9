use Rattle.std.proofs.Common.{◌≡◌, refl, ◌∙◌, arith}
use Rattle.task.specs.Table.{task_of}
use Rattle.task.proofs.TableReads.{counts-inside}
use Rattle.tokens.proofs.KeptSchema.{schemas-told, one-kept, count_small, count-parts, count-some, schema-small, counted}
use Rattle.tokens.proofs.SplitSizes.{sizes-none, sizes-more}
use Rattle.tokens.proofs.SizesTold.{sizes-counted, sizes-told}
use Rattle.tokens.proofs.measure.sizes_of.Goals as goal

pub word-s-end-requires : goal.word-s-end-requires
word-s-end-requires c = omega (arith, counts-inside c.args.table.now c.requires.table_value)

pub loop-s-init : goal.loop-s-init
loop-s-init c = sizes-none (task_of c.args.table.now) _ refl refl refl refl refl refl

pub measure_schema-one-requires : goal.measure_schema-one-requires
measure_schema-one-requires c =
    one-kept c.args.table.now c.requires.table_value c.word-s-end.ensures.value c.requires.parts_kept c.loop-s-test.true

pub count_of-requires : goal.count_of-requires
count_of-requires c =
    schema-small (one-kept c.args.table.now c.requires.table_value c.word-s-end.ensures.value c.requires.parts_kept
    c.loop-s-test.true)

pub with_schema-sizes-requires-clause-le_count : goal.with_schema-sizes-requires-clause-le_count
with_schema-sizes-requires-clause-le_count c =
    let k = one-kept c.args.table.now c.requires.table_value c.word-s-end.ensures.value c.requires.parts_kept
    c.loop-s-test.true in
    (omega (arith, c.count_of.ensures, count-some k), omega (arith, c.count_of.ensures, count_small k))

pub with_schema-sizes-requires-clause-later_bound : goal.with_schema-sizes-requires-clause-later_bound
with_schema-sizes-requires-clause-later_bound c =
    let l = schema-small (one-kept c.args.table.now c.requires.table_value c.word-s-end.ensures.value c.requires.parts_kept
    c.loop-s-test.true) in
    (omega (arith, c.loop-s.invariant.later-most), omega (arith, c.loop-s.invariant.schemas-most))

pub with_schema-sizes-requires-clause-atoms_bound : goal.with_schema-sizes-requires-clause-atoms_bound
with_schema-sizes-requires-clause-atoms_bound c =
    let l = schema-small (one-kept c.args.table.now c.requires.table_value c.word-s-end.ensures.value c.requires.parts_kept
    c.loop-s-test.true) in
    omega (arith, c.loop-s.invariant.atoms-most)

pub with_schema-sizes-requires-clause-pairs_bound : goal.with_schema-sizes-requires-clause-pairs_bound
with_schema-sizes-requires-clause-pairs_bound c =
    let l = schema-small (one-kept c.args.table.now c.requires.table_value c.word-s-end.ensures.value c.requires.parts_kept
    c.loop-s-test.true) in
    (omega (arith, c.loop-s.invariant.pairs-most), c.measure_schema-one.ensures.pairs-most)

pub loop-s-preserved : goal.loop-s-preserved
loop-s-preserved c =
    let k = one-kept c.args.table.now c.requires.table_value c.word-s-end.ensures.value c.requires.parts_kept
    c.loop-s-test.true in
    let h = c.loop-s in
    let e = c.with_schema-sizes.ensures in
    let one = c.measure_schema-one in
    let count = c.count_of in
    sizes-more (task_of c.args.table.now) h.s h.sizes c.with_schema-sizes.result one.result count.result k.known
    (count.ensures ∙ counted k) (count.ensures ∙ count-parts k) (omega (arith, count.ensures, count_small k))
    one.ensures h.invariant e.later_value e.pars_value e.schemas_value e.atoms_value e.largest_value e.pairs_value

pub within_limits-within-requires-clause-sizes_counted : goal.within_limits-within-requires-clause-sizes_counted
within_limits-within-requires-clause-sizes_counted c =
    let e = schemas-told c.args.table.now c.requires.table_value c.word-s-end.ensures.value in
    let n : c.loop-s.s ≡ c.word-s-end.result = omega arith in
    sizes-counted (task_of c.args.table.now) c.loop-s.sizes c.loop-s.s (n ∙ e) c.loop-s.invariant

pub returns : goal.returns
returns c =
    let e = schemas-told c.args.table.now c.requires.table_value c.word-s-end.ensures.value in
    let n : c.loop-s.s ≡ c.word-s-end.result = omega arith in
    let t = task_of c.args.table.now in
    let r = c.loop-s.sizes in
    sizes-told t r (sizes-counted t r c.loop-s.s (n ∙ e) c.loop-s.invariant) c.within_limits-within.result
    c.within_limits-within.ensures
