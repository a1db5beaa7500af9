-- The eight words are those of the atom: at most four arguments, and zeros behind them.
use Rattle.std.proofs.Common.{arith, ℕ, List, get_or, subst}
use Rattle.task.specs.Limits.{atom_size}
use Rattle.text.specs.ReadCode.{Wrote}
use Rattle.text.proofs.RowTests.{row_words, small-or-zero, eight-words}
use Rattle.text.proofs.rows.put_row.Goals as goal

pub put_words-requires-clause-by_index : goal.put_words-requires-clause-by_index
put_words-requires-clause-by_index c =
    let (schema, role, predicate, few) = c.requires.schema_lt_word_bound in
    let small = small-or-zero c.args.args.now c.requires.by_index in
    eight-words schema role predicate (omega arith)
    (rw c.argument-a.ensures (small 0)) (rw c.argument-b.ensures (small 1))
    (rw c.argument-c.ensures (small 2)) (rw c.argument-d.ensures (small 3))

pub returns : goal.returns
returns c =
    let (schema, role, predicate, few) = c.requires.schema_lt_word_bound in
    subst (λ (xs : List ℕ). Wrote c.args.table.now c.args.at atom_size (λ k. get_or xs k 0) c.put_words.new.table)
    (row_words c.args.schema c.args.role c.args.predicate c.args.args.now few _ _ _ _ c.argument-a.ensures
    c.argument-b.ensures c.argument-c.ensures c.argument-d.ensures)
    c.put_words.ensures
