use Rattle.std.proofs.Common.{refl, arith}
use Rattle.words.specs.Lists.{concat_map, up_from, up_to}
use Rattle.task.specs.Task.{Schema}
use Rattle.task.specs.Table.{task_of, atom_words, rows_from, schemas_from}
use Rattle.task.proofs.TableReads.{counts-inside}
use Rattle.words.proofs.Puts.{puts_none, puts_then, puts-length}
use Rattle.tokens.proofs.KeptSchema.{schemas-told}
use Rattle.tokens.proofs.Splitting.{split-put, rows_behind, rows-within}
use Rattle.tokens.proofs.schemas.all_parts.Goals as goal

pub word-s-end-requires : goal.word-s-end-requires
word-s-end-requires c = omega (arith, counts-inside c.args.table.now c.requires.accepted_kept.table)

pub loop-s-init : goal.loop-s-init
unfolding concat_map up_to up_from rows_from
loop-s-init c = (refl, puts_none c.args.out.now c.args.at)

pub schema_parts-next-requires-clause-s_in_bounds : goal.schema_parts-next-requires-clause-s_in_bounds
schema_parts-next-requires-clause-s_in_bounds c =
    let n = schemas-told c.args.table.now c.requires.accepted_kept.table c.word-s-end.ensures.value in
    omega arith

pub schema_parts-next-requires-clause-most_part_words_in_bounds :
    goal.schema_parts-next-requires-clause-most_part_words_in_bounds
schema_parts-next-requires-clause-most_part_words_in_bounds c =
    let n = schemas-told c.args.table.now c.requires.accepted_kept.table c.word-s-end.ensures.value in
    let h = c.loop-s.invariant in
    omega (
      arith,
      rows-within c.requires.accepted_kept atom_words (λ (u : Schema). u.atoms) c.loop-s.s (omega arith),
      c.requires.most_part_words_in_bounds,
      h.1.place,
    )

pub loop-s-preserved : goal.loop-s-preserved
loop-s-preserved c =
    let n = schemas-told c.args.table.now c.requires.accepted_kept.table c.word-s-end.ensures.value in
    let p = puts_then c.loop-s.invariant.1 c.schema_parts-next.ensures _
    (rows_behind c.requires.accepted_kept atom_words (λ (u : Schema). u.atoms) c.loop-s.s (omega arith)) in
    (puts-length p, p)

pub returns : goal.returns
returns c =
    let n = schemas-told c.args.table.now c.requires.accepted_kept.table c.word-s-end.ensures.value in
    split-put (schemas_from 0) (task_of c.args.table.now) c.loop-s.s (omega arith) c.loop-s.invariant.1
