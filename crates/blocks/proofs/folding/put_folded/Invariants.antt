-- The steps of the blocks before the next that begins are put, none of the split steps from i to there begins one, and
-- the rest of the list folds to the rest of the steps (`PassedSo`).
use mathlib.Core.Path.{◌≡◌}
use mathlib.Core.List.{List}
use lib.ListN.{length}
use Rattle.task.specs.Table.{task_of}
use Rattle.task.specs.Run.{Step, steps_in}
use Rattle.tokens.specs.Split.{split_task}
use Rattle.blocks.specs.Blocks.{folded, fold_steps}
use Rattle.blocks.proofs.FoldPuts.{PassedSo}
use Rattle.blocks.proofs.folding.put_folded.Given as goal

abbrev pub invariant-loop-i : goal.invariant-loop-i
invariant-loop-i l = record {
  long : length l.out ≡ length l.fn.out;
  passed : (xs : List Step) → fold_steps (task_of l.fn.table) (steps_in (split_task (task_of l.fn.table)) l.fn.steps) ≡ folded xs →
      PassedSo (task_of l.fn.table) l.fn.steps l.fn.begins xs l.fn.out l.out l.next l.i;
}
