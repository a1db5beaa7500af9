-- Between the steps, running those left from the state kept gives what running all was to give, and the lent numbers
-- stay 64.
use mathlib.Core.Path.{◌≡◌}
use lib.ListN.{length}
use Rattle.task.specs.Limits.{most_atoms}
use Rattle.task.specs.Table.{task_of}
use Rattle.task.proofs.RunLaws.{RunSo}
use Rattle.task.proofs.running.run_list.Given as goal

abbrev pub invariant-loop-i : goal.invariant-loop-i
invariant-loop-i l =
    RunSo (task_of l.table) l.steps l.fn.state l.n l.count l.state l.left l.i × (length l.numbers ≡ most_atoms)
