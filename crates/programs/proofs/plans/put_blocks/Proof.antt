-- `programs::plans::put_blocks` meets its contract: the split is written as a table, the blocks of few steps fit the
-- words and lie there as steps of the split, and their plan is written.
use Rattle.programs.proofs.plans.put_blocks.Tie as tie
use mathlib.Core.Path.{sym, ap}
use native.Mathlib.Omega.{arith}
use lib.Seq.{length-take-le}
use Rattle.text.specs.Plan.{write_plan}
use Rattle.programs.proofs.Printed.{prints-same}
use Rattle.programs.proofs.PlanUnfolded.{BlocksWritten, blocks-written, few-steps}
use borrow.Author.Rules.{rules}
use Rattle.programs.proofs.plans.put_blocks.Statement.{statement}
use Prim.Native.Nat.{ℕ}
use mathlib.Core.List.{List}
use Rattle.task.specs.Table.{task_of}
use Rattle.task.proofs.Tables.{table_words-is}
use Rattle.tokens.proofs.SplitAnswers.{AcceptedSplit}
use Rattle.blocks.specs.Unfolding.{StepsKept}
use Rattle.blocks.proofs.KeptParts.{table_kept}
use Rattle.blocks.proofs.SplitWritten.{table-zeros, split-written}

abbrev start : tie.After-write_split → tie.Start
start k = k.before.before.before.before.before

-- the split's table
abbrev split-table : tie.After-write_split → List ℕ
split-table k = k.write_split.new.out

given : (k : tie.After-write_split) → AcceptedSplit (start k).args.table.now (split-table k)
given k = split-written (start k).requires.0 _ table-zeros k.write_split.ensures

-- the steps, whose blocks are kept
steps-kept : (k : tie.After-write_split) → let a = (start k).args in
    StepsKept (task_of a.table.now) a.steps.now a.kept.now
steps-kept k = let p = (start k).requires in record { blocks = (table_kept p.0).blocks; good = p.1.0.good }

-- the words of their blocks
abbrev split-of : tie.After-put_blocks-end → tie.After-write_split
split-of b = b.before.before.before

written : (b : tie.After-put_blocks-end) → let k = split-of b in let a = (start k).args in
    BlocksWritten a.table.now (split-table k) a.steps.now b.put_blocks-end.new.out b.put_blocks-end.result
written b =
    let k = split-of b in
    let a = (start k).args in
    let t = task_of a.table.now in
    let h = b.put_blocks-end.ensures in
    blocks-written a.table.now (split-table k) a.steps.now (given k) (start k).requires.1.0 _
    (h.0 t (steps-kept k)) (h.1 t (steps-kept k))

write-split-requires : tie.Need-write_split-requires
write-split-requires c κs = (c.requires.0, omega (arith, table_words-is))

put-blocks-requires : tie.Need-put_blocks-end-requires
put-blocks-requires c κs =
    let k = c in
    let a = (start k.before.before).args in
    let n = few-steps a.table.now (split-table k.before.before) a.steps.now (given k.before.before) (start k.before.before).requires.1.0 in
    (task_of a.table.now, steps-kept k.before.before, omega arith)

array-share-prefix-words : tie.Need-slice_bounds-words-end
array-share-prefix-words c = (written c.before.before).inside

slice-aggregate-write-plan-2 : tie.Need-slice_bounds-write_plan-end-2
slice-aggregate-write-plan-2 c =
    let b = c in
    sym (length-take-le b.put_blocks-end.result b.put_blocks-end.new.out (written b.before.before.before).inside)

write-plan-requires : tie.Need-write_plan-requires
write-plan-requires c κs =
    let b = c in
    let k = split-of b.before.before.before.before in
    let fits = (written b.before.before.before.before).fits in
    let room = (start k).requires.1.1 in
    ((given k).split-table, ((written b.before.before.before.before).good, omega arith))

returns : tie.Need-returns
returns c =
    let b = c in
    let wrote = c.write_plan.ensures in
    prints-same (ap write_plan (written b.before.before.before.before.before.before.before).are) (record { bytes = wrote.1; count = wrote.0 })

pub put_blocks_spec : {M : Type 1} → statement M
put_blocks_spec =
    tie.close
    (tie.spec (λ c. search rules) write-split-requires (λ c. search rules) put-blocks-requires (λ c. search rules)
    array-share-prefix-words slice-aggregate-write-plan-2 write-plan-requires (λ c. search rules) returns)
