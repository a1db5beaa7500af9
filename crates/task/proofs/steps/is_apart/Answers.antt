use Rattle.std.proofs.Common.{arith}
use Rattle.task.specs.Layout.{pair_base}
use Rattle.task.proofs.TableReads.{table-roomy}
use Rattle.task.proofs.StepPairs.{pairs-few}
use Rattle.task.proofs.steps.is_apart.Goals as goal

pub keep_apart-requires-clause-count_in_bounds : goal.keep_apart-requires-clause-count_in_bounds
unfolding pair_base
keep_apart-requires-clause-count_in_bounds c =
    omega (arith, c.requires, (table-roomy _ c.requires.table_value).inside)

pub keep_apart-requires-clause-pairs_few : goal.keep_apart-requires-clause-pairs_few
keep_apart-requires-clause-pairs_few c =
    rw (c.requires.base_value, c.requires.pairs_value) (pairs-few _ c.requires.table_value)

pub returns : goal.returns
returns c =
    rw (← c.requires.base_value, ← c.requires.pairs_value, ← c.schema_at.ensures) c.keep_apart.ensures
