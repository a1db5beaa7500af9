-- A schema without pairs has no part that carries one.
use Rattle.std.proofs.Common.{length, sym, ap, ◌∙◌, arith}
use Rattle.task.specs.Task.{Schema}
use Rattle.task.specs.Table.{task_of}
use Rattle.tokens.specs.Split.{orders}
use Rattle.tokens.proofs.KeptSchema.{schema-small, count_small, kept-pair-stretch}
use Rattle.tokens.proofs.SplitSizes.{part-sum-none, part-sum-more, part-sum-nothing}
use Rattle.tokens.proofs.PairWords.{carried-count, stretch-few, none-carried}
use Rattle.tokens.proofs.measure.pairs_carried.Goals as goal

pub pair_of-from-requires : goal.pair_of-from-requires
pair_of-from-requires c = omega (arith, schema-small c.requires)

pub pair_end_of-to-requires : goal.pair_end_of-to-requires
pair_end_of-to-requires c = schema-small c.requires

pub returns-then-from-to-clause-value : goal.returns-then-from-to-clause-value
returns-then-from-to-clause-value c =
    let t = task_of c.args.table.now in
    let bare = none-carried c.requires c.pair_of-from.ensures c.pair_end_of-to.ensures c.if-from-to.true in
    sym (part-sum-nothing t c.args.s (λ (u : Schema). length u.pairs) (λ j. ap length (bare j))
    (length (orders t c.args.s)))

pub count_of-j-end-requires : goal.count_of-j-end-requires
count_of-j-end-requires c = schema-small c.requires

pub loop-j-init : goal.loop-j-init
loop-j-init c = (omega arith, sym (part-sum-none (task_of c.args.table.now) c.args.s (λ (u : Schema). length u.pairs)))

pub own_at-requires : goal.own_at-requires
own_at-requires c = (schema-small c.requires, omega (arith, count_small c.requires, c.count_of-j-end.ensures))

pub carried-n-requires : goal.carried-n-requires
carried-n-requires c = kept-pair-stretch c.requires c.pair_of-from.ensures c.pair_end_of-to.ensures

pub loop-j-preserved : goal.loop-j-preserved
loop-j-preserved c =
    let K = c.requires in
    let begins = c.pair_of-from.ensures in
    let stops = c.pair_end_of-to.ensures in
    let j = c.loop-j.j in
    let e = c.carried-n.ensures.value ∙
    carried-count K begins stops j c.own_at.result (omega (arith, c.count_of-j-end.ensures)) c.own_at.ensures in
    let m = part-sum-more (task_of c.args.table.now) c.args.s (λ (u : Schema). length u.pairs) j in
    (omega (arith, c.carried-n.ensures.upper_bound, stretch-few K begins stops), omega arith)

pub returns-clause-upper_bound : goal.returns-clause-upper_bound
returns-clause-upper_bound c = omega (arith, count_small c.requires, c.count_of-j-end.ensures)
