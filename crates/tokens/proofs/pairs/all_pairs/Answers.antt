use Rattle.std.proofs.Common.{refl, arith}
use Rattle.words.specs.Lists.{concat_map, up_to, up_from}
use Rattle.task.specs.Task.{Schema}
use Rattle.task.specs.Table.{task_of, pair_words, rows_from, pairs_from}
use Rattle.task.proofs.TableReads.{counts-inside}
use Rattle.words.proofs.Puts.{puts_none, puts_then, puts-length}
use Rattle.tokens.proofs.KeptSchema.{schemas-told, one-kept, count_small}
use Rattle.tokens.proofs.Splitting.{split-put, kept-few, rows_behind, rows-within}
use Rattle.tokens.proofs.pairs.all_pairs.Goals as goal

pub word-s-end-requires : goal.word-s-end-requires
word-s-end-requires c = omega (arith, counts-inside c.args.table.now c.requires.accepted_parts.1.table)

pub loop-s-init : goal.loop-s-init
unfolding concat_map up_to up_from rows_from
loop-s-init c = (refl, puts_none c.args.out.now c.args.at)

pub schema_pairs-next-requires-clause-schema_kept : goal.schema_pairs-next-requires-clause-schema_kept
schema_pairs-next-requires-clause-schema_kept c =
    let S = c.requires.accepted_parts.1 in
    one-kept c.args.table.now S.table c.word-s-end.ensures.value S.parts c.loop-s-test.true

pub schema_pairs-next-requires-clause-s_bound : goal.schema_pairs-next-requires-clause-s_bound
schema_pairs-next-requires-clause-s_bound c =
    let S = c.requires.accepted_parts.1 in
    let K = one-kept c.args.table.now S.table c.word-s-end.ensures.value S.parts c.loop-s-test.true in
    omega (arith, kept-few S c.loop-s.s K.known, count_small K)

pub schema_pairs-next-requires-clause-s_in_bounds : goal.schema_pairs-next-requires-clause-s_in_bounds
schema_pairs-next-requires-clause-s_in_bounds c =
    let S = c.requires.accepted_parts.1 in
    let K = one-kept c.args.table.now S.table c.word-s-end.ensures.value S.parts c.loop-s-test.true in
    let h = c.loop-s.invariant in
    omega (
      arith,
      rows-within S pair_words (λ (u : Schema). u.pairs) c.loop-s.s K.known,
      c.requires.table_in_bounds,
      h.1.place,
    )

pub loop-s-preserved : goal.loop-s-preserved
loop-s-preserved c =
    let S = c.requires.accepted_parts.1 in
    let K = one-kept c.args.table.now S.table c.word-s-end.ensures.value S.parts c.loop-s-test.true in
    let p = puts_then c.loop-s.invariant.1 c.schema_pairs-next.ensures _
    (rows_behind S pair_words (λ (u : Schema). u.pairs) c.loop-s.s K.known) in
    (puts-length p, p)

pub returns : goal.returns
returns c =
    let n = schemas-told c.args.table.now c.requires.accepted_parts.1.table c.word-s-end.ensures.value in
    split-put (pairs_from 0) (task_of c.args.table.now) c.loop-s.s (omega arith) c.loop-s.invariant.1
