-- What is cleared are 14,007 words, all of a table (`table_words-is`), and that many are lent.
use Rattle.std.proofs.Common.{arith, sym}
use Rattle.task.proofs.Tables.{table_words-is}
use Rattle.text.proofs.WroteWords.{wrote-all}
use Rattle.text.proofs.reader.refused.Goals as goal

pub clear-requires : goal.clear-requires
clear-requires c = omega (arith, table_words-is, c.requires)

pub returns-clause-wrote : goal.returns-clause-wrote
returns-clause-wrote c = wrote-all (sym table_words-is) c.clear.ensures
