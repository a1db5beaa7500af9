-- Each check that fails is the outcome's first behind acceptance, and where all pass the blocks are written, as many as
-- were counted.
use Prim.Native.Nat.{ℕ, ◌/◌}
use mathlib.Core.Path.{sym, ◌∙◌, ap}
use mathlib.Core.List.{[], ◌∷◌}
use native.Mathlib.Omega.{arith}
use lib.ListN.{length}
use borrow.Author.Tests.{le-leb, lt-leb}
use Rattle.task.specs.Limits.{step_size}
use Rattle.task.specs.Answers.{result}
use Rattle.task.specs.Table.{task_of}
use Rattle.blocks.specs.Unfolding.{StepsKept}
use Rattle.task.proofs.Answers.{both}
use Rattle.blocks.proofs.BlockAnswers.{unfolding_of}
use Rattle.blocks.proofs.KeptBlocks.{room_for}
use Rattle.blocks.proofs.UnfoldOutcome.{unfold-bad-step, unfold-no-room, unfold-done}
use Rattle.blocks.proofs.unfold_kept.Goals as goal

-- ---- a bad step
pub returns-in-Some-clause-told : goal.returns-in-Some-clause-told
returns-in-Some-clause-told c =
    let a = c.args in
    rw c.at_step.ensures
    (both (unfold-bad-step a.table.now a.steps.now a.out.now c.requires (sym c.bad_step.ensures ∙ c.in-Some.is))).0

pub returns-in-Some-clause-written : goal.returns-in-Some-clause-written
returns-in-Some-clause-written c =
    let a = c.args in
    (both (unfold-bad-step a.table.now a.steps.now a.out.now c.requires (sym c.bad_step.ensures ∙ c.in-Some.is))).1

-- ---- no room
pub returns-then-room-split_steps-clause-told : goal.returns-then-room-split_steps-clause-told
returns-then-room-split_steps-clause-told c =
    let a = c.args in
    let good = sym c.bad_step.ensures ∙ c.in_default.is in
    let kept : StepsKept (task_of a.table.now) a.steps.now a.kept.now = record { blocks = c.requires.blocks; good = good } in
    let n = c.split_steps_of-split_steps.ensures (task_of a.table.now) kept in
    let long =
    room_for kept a.out.now ∙
    lt-leb (length (unfolding_of a.table.now a.steps.now)) (length a.out.now / step_size) (omega arith) in
    rw c.nowhere.ensures (both (unfold-no-room a.table.now a.steps.now a.out.now c.requires good long)).0

pub returns-then-room-split_steps-clause-written : goal.returns-then-room-split_steps-clause-written
returns-then-room-split_steps-clause-written c =
    let a = c.args in
    let good = sym c.bad_step.ensures ∙ c.in_default.is in
    let kept : StepsKept (task_of a.table.now) a.steps.now a.kept.now = record { blocks = c.requires.blocks; good = good } in
    let n = c.split_steps_of-split_steps.ensures (task_of a.table.now) kept in
    let long =
    room_for kept a.out.now ∙
    lt-leb (length (unfolding_of a.table.now a.steps.now)) (length a.out.now / step_size) (omega arith) in
    (both (unfold-no-room a.table.now a.steps.now a.out.now c.requires good long)).1

-- ---- all pass
pub returns-clause-told : goal.returns-clause-told
returns-clause-told c =
    let a = c.args in
    let good = sym c.bad_step.ensures ∙ c.in_default.is in
    let kept : StepsKept (task_of a.table.now) a.steps.now a.kept.now = record { blocks = c.requires.blocks; good = good } in
    let n = c.split_steps_of-split_steps.ensures (task_of a.table.now) kept in
    let fits =
    room_for kept a.out.now ∙
    le-leb (length (unfolding_of a.table.now a.steps.now)) (length a.out.now / step_size) (omega arith) in
    ap (λ (k : ℕ). result (k ∷ [])) n ∙
    (both (unfold-done a.table.now a.steps.now a.out.now c.requires good fits)).0

pub returns-clause-written : goal.returns-clause-written
returns-clause-written c =
    let a = c.args in
    let good = sym c.bad_step.ensures ∙ c.in_default.is in
    let kept : StepsKept (task_of a.table.now) a.steps.now a.kept.now = record { blocks = c.requires.blocks; good = good } in
    let n = c.split_steps_of-split_steps.ensures (task_of a.table.now) kept in
    let fits =
    room_for kept a.out.now ∙
    le-leb (length (unfolding_of a.table.now a.steps.now)) (length a.out.now / step_size) (omega arith) in
    c.put_blocks.ensures.out_after (task_of a.table.now) kept ∙
    (both (unfold-done a.table.now a.steps.now a.out.now c.requires good fits)).1
