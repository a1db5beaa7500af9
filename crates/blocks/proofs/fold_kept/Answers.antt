-- Each check that fails is the outcome's first behind acceptance, and where all pass the steps of the blocks are written,
-- as many as were found.
use Prim.Native.Nat.{ℕ, ◌/◌, ◌<◌}
use mathlib.Core.Path.{refl, sym, ◌∙◌, ap₂, subst}
use mathlib.Core.List.{[], ◌∷◌}
use native.Mathlib.Omega.{arith}
use lib.ListN.{length}
use borrow.Author.Tests.{le-leb, lt-leb}
use Rattle.std.proofs.lemmas.Result.{err_from_is_err_and}
use Rattle.task.specs.Limits.{step_size}
use Rattle.task.specs.Answers.{result}
use Rattle.task.specs.Table.{task_of}
use Rattle.task.specs.Run.{bad_step}
use Rattle.task.proofs.Answers.{both}
use Rattle.task.proofs.StepWords.{length-steps_in}
use Rattle.tokens.specs.Split.{split_task}
use Rattle.blocks.specs.FoldCode.{OriginsKept, SplitStepsKept}
use Rattle.blocks.proofs.KeptParts.{table_kept}
use Rattle.blocks.proofs.FoldMoves.{is_whole}
use Rattle.blocks.proofs.FoldedSteps.{room-folded}
use Rattle.blocks.proofs.FoldOutcome.{split_steps_in, folding_of, fold-judged, fold-no-room, fold_done}
use Rattle.blocks.proofs.fold_kept.Goals as goal

-- ---- what is looked up
pub begins_of-begins-requires : goal.begins_of-begins-requires
begins_of-begins-requires c =
    (task_of c.args.table.now, (table_kept c.requires).blocks, c.schema_count-schemas.ensures)

pub origins_of-origins-requires-clause-schemas_le_most_schemas :
    goal.origins_of-origins-requires-clause-schemas_le_most_schemas
origins_of-origins-requires-clause-schemas_le_most_schemas c =
    omega (arith, c.schema_count-schemas.ensures, (table_kept c.requires).blocks.few-schemas)

pub origins_of-origins-requires-clause-by_index : goal.origins_of-origins-requires-clause-by_index
origins_of-origins-requires-clause-by_index c = λ s l.
    let K = (table_kept c.requires).blocks in
    let known : s < length (task_of c.args.table.now).schemas = omega (arith, c.schema_count-schemas.ensures) in
    omega (arith, K.count s known, K.few-parts s known)

pub judge-requires-clause-begins_kept : goal.judge-requires-clause-begins_kept
judge-requires-clause-begins_kept c =
    c.begins_of-begins.ensures (task_of c.args.table.now) (table_kept c.requires).blocks c.schema_count-schemas.ensures

-- ---- a bad step, or a misfit
pub returns-in_err-found-clause-told : goal.returns-in_err-found-clause-told
returns-in_err-found-clause-told c =
    let a = c.args in
    let w = a.table.now in
    let t = task_of w in
    let steps = a.steps.now in
    let K = table_kept c.requires in
    let e = err_from_is_err_and c.from_residual.result c.from_residual.ensures.1 in
    rw (e.1, e.2) (both (fold-judged w steps a.out.now K _ refl _ refl _ c.in_err-found.ensures)).0

pub returns-in_err-found-clause-written : goal.returns-in_err-found-clause-written
returns-in_err-found-clause-written c =
    let a = c.args in
    let w = a.table.now in
    let t = task_of w in
    let steps = a.steps.now in
    let K = table_kept c.requires in
    (both (fold-judged w steps a.out.now K _ refl _ refl _ c.in_err-found.ensures)).1

-- ---- no room
pub returns-then-room-found-clause-told : goal.returns-then-room-found-clause-told
returns-then-room-found-clause-told c =
    let a = c.args in
    let w = a.table.now in
    let t = task_of w in
    let steps = a.steps.now in
    let K = table_kept c.requires in
    let (good, (xs, f, n)) = is_whole (bad_step (split_task t) steps) (folding_of w steps) c.in_ok-found.found
    c.in_ok-found.ensures in
    let long =
    room-folded t K.blocks.few-params (split_steps_in w steps) xs f a.out.now ∙
    lt-leb (length xs) (length a.out.now / step_size) (omega arith) in
    rw c.nowhere.ensures (both (fold-no-room w steps a.out.now K good xs f long)).0

pub returns-then-room-found-clause-written : goal.returns-then-room-found-clause-written
returns-then-room-found-clause-written c =
    let a = c.args in
    let w = a.table.now in
    let t = task_of w in
    let steps = a.steps.now in
    let K = table_kept c.requires in
    let (good, (xs, f, n)) = is_whole (bad_step (split_task t) steps) (folding_of w steps) c.in_ok-found.found
    c.in_ok-found.ensures in
    let long =
    room-folded t K.blocks.few-params (split_steps_in w steps) xs f a.out.now ∙
    lt-leb (length xs) (length a.out.now / step_size) (omega arith) in
    (both (fold-no-room w steps a.out.now K good xs f long)).1

-- ---- all pass
pub put_folded-requires : goal.put_folded-requires
put_folded-requires c =
    let a = c.args in
    let w = a.table.now in
    let t = task_of w in
    let steps = a.steps.now in
    let K = table_kept c.requires in
    let (good, (xs, f, n)) = is_whole (bad_step (split_task t) steps) (folding_of w steps) c.in_ok-found.found
    c.in_ok-found.ensures in
    let begun = c.begins_of-begins.ensures t K.blocks c.schema_count-schemas.ensures in
    let origin =
    subst (λ (n : ℕ). OriginsKept a.kept.now n c.origins_of-origins.result) c.schema_count-schemas.ensures
    c.origins_of-origins.ensures in
    let kept : SplitStepsKept t steps a.kept.now c.begins_of-begins.result c.origins_of-origins.result =
    record { blocks = K.blocks; good = good; begun = begun; origin = origin } in
    (_, xs, K, kept, f, omega arith)

pub returns-clause-told : goal.returns-clause-told
returns-clause-told c =
    let a = c.args in
    let w = a.table.now in
    let t = task_of w in
    let steps = a.steps.now in
    let K = table_kept c.requires in
    let (good, (xs, f, n)) = is_whole (bad_step (split_task t) steps) (folding_of w steps) c.in_ok-found.found
    c.in_ok-found.ensures in
    let fits =
    room-folded t K.blocks.few-params (split_steps_in w steps) xs f a.out.now ∙
    le-leb (length xs) (length a.out.now / step_size) (omega arith) in
    let read = sym (length-steps_in (split_task t) steps) in
    ap₂ (λ (k m : ℕ). result (k ∷ m ∷ [])) read n ∙ (both (fold_done w steps a.out.now K good xs f fits)).0

pub returns-clause-written : goal.returns-clause-written
returns-clause-written c =
    let a = c.args in
    let w = a.table.now in
    let t = task_of w in
    let steps = a.steps.now in
    let K = table_kept c.requires in
    let (good, (xs, f, n)) = is_whole (bad_step (split_task t) steps) (folding_of w steps) c.in_ok-found.found
    c.in_ok-found.ensures in
    let fits =
    room-folded t K.blocks.few-params (split_steps_in w steps) xs f a.out.now ∙
    le-leb (length xs) (length a.out.now / step_size) (omega arith) in
    c.put_folded.ensures xs f ∙ (both (fold_done w steps a.out.now K good xs f fits)).1
