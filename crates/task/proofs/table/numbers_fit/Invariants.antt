-- The whole test is what is left of it from i on, and `before` compares with row i's number as that of the row before
-- it does.
use Prim.Native.Nat.{ℕ, ◌+◌, ◌-◌, ◌*◌}
use mathlib.Core.Path.{◌≡◌}
use lib.ListN.{get_or}
use lib.Dec.{leb}
use Rattle.task.specs.Layout.{head_in}
use Rattle.task.specs.WordTests.{in_file_order}
use Rattle.words.proofs.Loops.{AllLeft}
use Rattle.task.proofs.FileOrder.{row_fits}
use Rattle.task.proofs.table.numbers_fit.Given as goal

abbrev pub invariant-loop-i : goal.invariant-loop-i
invariant-loop-i l =
    let row : ℕ → ℕ = λ i. get_or l.table (l.base + l.size * i) 0 in
    AllLeft (row_fits row (head_in l.table).schemas l.count) l.count (in_file_order row (head_in l.table).schemas l.count)
    l.i × (leb l.before (row l.i) ≡ leb (row (l.i - 1)) (row l.i))
