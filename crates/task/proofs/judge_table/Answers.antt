-- The first check that fails is the first refusal.
use Rattle.std.proofs.Common.{sym, ◌∙◌, [], ◌∷◌}
use Rattle.task.specs.Answers.{refuse_unless}
use Rattle.task.specs.Table.{is_table}
use Rattle.task.proofs.Answers.{first_passes, first-refuses, none-refused}
use Rattle.task.proofs.LongEnough.{too_short, long-enough, has-table-words}
use Rattle.task.proofs.judge_table.Goals as goal

pub returns-then-table-lt-TABLE_WORDS : goal.returns-then-table-lt-TABLE_WORDS
returns-then-table-lt-TABLE_WORDS c =
    let w = c.args.table.now in
    rw c.nowhere.ensures
    (sym (first-refuses 1 (refuse_unless (is_table w) 2 ∷ []) (too_short w c.if-table-lt-TABLE_WORDS.true)))

pub is_table-requires : goal.is_table-requires
is_table-requires c = has-table-words c.args.table.now c.if-table-lt-TABLE_WORDS.false

pub returns-then-not-is_table : goal.returns-then-not-is_table
returns-then-not-is_table c =
    let w = c.args.table.now in
    rw c.nowhere-then-not-is_table.ensures
    (sym (first_passes 1 (refuse_unless (is_table w) 2 ∷ []) (long-enough w c.if-table-lt-TABLE_WORDS.false) ∙
    first-refuses 2 [] (sym c.is_table.ensures ∙ c.if-not-is_table.true)))

pub returns : goal.returns
returns c =
    let w = c.args.table.now in
    sym (first_passes 1 (refuse_unless (is_table w) 2 ∷ []) (long-enough w c.if-table-lt-TABLE_WORDS.false) ∙
    (first_passes 2 [] (sym c.is_table.ensures ∙ c.if-not-is_table.false) ∙ none-refused))
