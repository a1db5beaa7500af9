-- A schema without pairs has no words to put.
use Rattle.std.proofs.Common.{◌+◌, length, refl, ap, arith, length-append}
use Rattle.task.specs.Task.{Schema}
use Rattle.task.specs.Table.{task_of, pair_words}
use Rattle.words.proofs.Puts.{puts_none, puts-is, puts_then, puts-length}
use Rattle.tokens.specs.Split.{orders, split_schema}
use Rattle.tokens.specs.Kept.{kept_first}
use Rattle.tokens.specs.Writing.{carried_words}
use Rattle.tokens.proofs.KeptSchema.{schema-small, count_small, counted, kept-pair-stretch}
use Rattle.tokens.proofs.SchemaRuns.{parts_up_to, parts_none, parts-bare, parts-fewer}
use Rattle.tokens.proofs.PairWords.{none-carried, kept-words}
use Rattle.tokens.proofs.pairs.schema_pairs.Goals as goal

pub pair_of-from-requires : goal.pair_of-from-requires
pair_of-from-requires c = omega (arith, schema-small c.requires.schema_kept)

pub pair_end_of-to-requires : goal.pair_end_of-to-requires
pair_end_of-to-requires c = schema-small c.requires.schema_kept

pub first_of-first-requires : goal.first_of-first-requires
first_of-first-requires c = omega (arith, schema-small c.requires.schema_kept)

pub returns-then-from-to : goal.returns-then-from-to
returns-then-from-to c =
    let a = c.args in
    let t = task_of a.table.now in
    let bare = none-carried c.requires.schema_kept c.pair_of-from.ensures c.pair_end_of-to.ensures c.if-from-to.true in
    puts-is (puts_none a.out.now a.at) refl refl _
    (parts-bare pair_words (λ (u : Schema). u.pairs) (kept_first a.kept.now a.s)
    (split_schema t a.s (orders t a.s)) bare
    (length (orders t a.s)))

pub count_of-j-end-requires : goal.count_of-j-end-requires
count_of-j-end-requires c = schema-small c.requires.schema_kept

pub loop-j-init : goal.loop-j-init
loop-j-init c =
    let a = c.args in
    let t = task_of a.table.now in (
      refl,
      puts-is (puts_none a.out.now a.at) refl refl _
          (parts_none pair_words (λ (u : Schema). u.pairs) (kept_first a.kept.now a.s)
          (split_schema t a.s (orders t a.s))),
    )

pub own_at-own-requires : goal.own_at-own-requires
own_at-own-requires c =
    let K = c.requires.schema_kept in
    (schema-small K, omega (arith, count_small K, c.count_of-j-end.ensures))

pub put_carried-next-requires-clause-pair_stretch : goal.put_carried-next-requires-clause-pair_stretch
put_carried-next-requires-clause-pair_stretch c =
    kept-pair-stretch c.requires.schema_kept c.pair_of-from.ensures c.pair_end_of-to.ensures

pub put_carried-next-requires-clause-to_in_bounds : goal.put_carried-next-requires-clause-to_in_bounds
put_carried-next-requires-clause-to_in_bounds c =
    let a = c.args in
    let t = task_of a.table.now in
    let K = c.requires.schema_kept in
    let h = c.loop-j in
    let first = kept_first a.kept.now a.s in
    let f = split_schema t a.s (orders t a.s) in
    let begins = c.pair_of-from in
    let stops = c.pair_end_of-to in
    let number = c.first_of-first.result + h.j in
    let own = c.own_at-own in
    let e = ap length (kept-words K begins.ensures stops.ensures h.j own.result
    (omega (arith, c.count_of-j-end.ensures)) own.ensures first number (omega (arith, c.first_of-first.ensures))) in
    let l = parts-fewer pair_words (λ (u : Schema). u.pairs) first f (h.j + 1) (length (orders t a.s))
    (omega (arith, c.count_of-j-end.ensures, counted K)) in
    omega (
      arith,
      h.invariant.0,
      h.invariant.1.place,
      c.requires.s_in_bounds,
      length-append (parts_up_to pair_words (λ (u : Schema). u.pairs) first f h.j)
          (carried_words a.table.now number own.result begins.result stops.result),
    )

pub loop-j-preserved : goal.loop-j-preserved
loop-j-preserved c =
    let a = c.args in
    let K = c.requires.schema_kept in
    let h = c.loop-j in
    let p = puts_then h.invariant.1 c.put_carried-next.ensures _
    (kept-words K c.pair_of-from.ensures c.pair_end_of-to.ensures h.j c.own_at-own.result
    (omega (arith, c.count_of-j-end.ensures)) c.own_at-own.ensures (kept_first a.kept.now a.s)
    (c.first_of-first.result + h.j) (omega (arith, c.first_of-first.ensures))) in
    (puts-length p, p)
