-- `proposals::writing::write_proposed` meets its contract: the table is copied first, and after the last turn the words
-- are those of the task proposed.
use Rattle.std.proofs.Common.{◌+◌, ◌≤◌, ◌<◌, length, arith}
use Rattle.words.proofs.Puts.{puts-length}
use Rattle.task.specs.Limits.{table_words}
use Rattle.task.proofs.Tables.{table_words-is}
use Rattle.task.proofs.TablesByIndex.{table-long}
use Rattle.task.proofs.TableReads.{table-roomy, counts-inside}
use Rattle.tokens.proofs.KeptSchemas.{atoms-few}
use Rattle.proposals.proofs.FreshParts.{part_word, fresh_start, fresh-more, fresh-words, part-inside}
use Rattle.proposals.proofs.writing.write_proposed.Goals as goal
use Rattle.proposals.proofs.writing.write_proposed.Goals.{After-row_of}

pub copy-requires-clause-count_in_bounds : goal.copy-requires-clause-count_in_bounds
copy-requires-clause-count_in_bounds c =
    omega (arith, table_words-is, table-long c.args.table.now c.requires.table_value)

pub copy-requires-clause-count_in_bounds_2 : goal.copy-requires-clause-count_in_bounds_2
copy-requires-clause-count_in_bounds_2 c = omega (arith, table_words-is)

pub word-atoms-requires : goal.word-atoms-requires
word-atoms-requires c = omega (arith, counts-inside c.args.table.now c.requires.table_value)

pub loop-i-init : goal.loop-i-init
loop-i-init c = fresh_start

pub bounds-parts-i : goal.bounds-parts-i
bounds-parts-i c = omega (arith, atoms-few c.args.table.now c.requires.table_value)

pub row_of-requires-clause-roomy : goal.row_of-requires-clause-roomy
row_of-requires-clause-roomy c = table-roomy c.args.table.now c.requires.table_value

-- the part of atom i lies in the table, and there is room for a table in the copy
inside : (c : After-row_of) → part_word c.args.table.now c.loop-i.i < table_words
inside c = part-inside c.args.table.now c.requires.table_value c.loop-i.i (omega arith)

room : (c : After-row_of) → table_words ≤ length c.copy.new.out
room c = omega (arith, puts-length c.copy.ensures)

pub bounds-proposed-row_of : goal.bounds-proposed-row_of
bounds-proposed-row_of c = omega (arith, inside c, room c, c.loop-i.invariant.long)

pub loop-i-preserved : goal.loop-i-preserved
loop-i-preserved c =
    fresh-more c.loop-i.invariant (c.row_of.result + 3) (omega arith) (omega (arith, inside c)) (room c)

pub returns : goal.returns
returns c =
    fresh-words c.requires.table_value c.requires.table_words_in_bounds c.copy.ensures c.loop-i.invariant (omega arith)
