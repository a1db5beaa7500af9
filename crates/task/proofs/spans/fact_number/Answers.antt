use Rattle.task.proofs.GroundWords.{fact-read}
use Rattle.task.proofs.TableReads.{table-roomy}
use Rattle.task.proofs.spans.fact_number.Goals as goal

pub row_of-at-requires-clause-roomy : goal.row_of-at-requires-clause-roomy
row_of-at-requires-clause-roomy c = table-roomy _ c.requires.table_value

pub returns : goal.returns
returns c =
    let e = fact-read _ c.requires.table_value _ c.requires.k_bound c.row_of-at.result c.row_of-at.ensures.value in
    let p = c.predicate_at.ensures.value in
    let n = c.number_of.ensures in cc
