use Rattle.std.proofs.Common.{refl, length, arith}
use Rattle.words.specs.Lists.{up_from, up_to}
use Rattle.task.specs.Task.{Schema}
use Rattle.task.specs.Table.{task_of, atom_words, rows_from}
use Rattle.words.proofs.Puts.{puts_none, puts_then, puts-length}
use Rattle.tokens.specs.Split.{orders, split_schema}
use Rattle.tokens.specs.Kept.{kept_first}
use Rattle.tokens.proofs.KeptSchema.{schema-small, counted}
use Rattle.tokens.proofs.SchemaRuns.{parts_more, parts-fewer}
use Rattle.tokens.proofs.Splitting.{schema-kept}
use Rattle.tokens.proofs.schemas.schema_parts.Goals as goal

pub count_of-j-end-requires : goal.count_of-j-end-requires
count_of-j-end-requires c = schema-small (schema-kept c.requires.accepted_kept c.args.s c.requires.s_in_bounds)

pub loop-j-init : goal.loop-j-init
unfolding rows_from up_to up_from
loop-j-init c = (refl, puts_none c.args.out.now c.args.at)

pub one_part-next-requires-clause-most_part_words_in_bounds :
    goal.one_part-next-requires-clause-most_part_words_in_bounds
one_part-next-requires-clause-most_part_words_in_bounds c =
    let a = c.args in
    let t = task_of a.table.now in
    let h = c.loop-j in
    let K = schema-kept c.requires.accepted_kept a.s c.requires.s_in_bounds in
    let f = parts-fewer atom_words (λ (u : Schema). u.atoms) (kept_first a.kept.now a.s)
    (split_schema t a.s (orders t a.s)) h.j (length (orders t a.s)) (omega (arith, c.count_of-j-end.ensures, counted K)) in
    omega (arith, h.invariant.0, h.invariant.1.place, c.requires.most_part_words_in_bounds)

pub loop-j-preserved : goal.loop-j-preserved
loop-j-preserved c =
    let a = c.args in
    let t = task_of a.table.now in
    let p = puts_then c.loop-j.invariant.1 c.one_part-next.ensures _
    (parts_more atom_words (λ (u : Schema). u.atoms) (kept_first a.kept.now a.s) (split_schema t a.s (orders t a.s))
    c.loop-j.j) in
    (puts-length p, p)
