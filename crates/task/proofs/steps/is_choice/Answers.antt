-- The tests are those of a row, in their order (`step-short`, `step-unknown`, `step-whole`). A schema has at most 12
-- parameters, so that the words tested have their limits. What is left are the pairs, by rows (`pairs-apart`).
use Rattle.std.proofs.Common.{ℕ, ◌+◌, ◌*◌, sym, ◌∙◌, ap, ap₂, ◌&&◌, get_or, arith}
use Rattle.task.specs.Limits.{step_size}
use Rattle.task.specs.Table.{task_of}
use Rattle.task.proofs.Tables.{of-table}
use Rattle.task.proofs.TablesByIndex.{table-frame, schemas-word}
use Rattle.task.proofs.StepPairs.{pairs-apart}
use Rattle.task.proofs.StepWords.{params-few, pairs_differ, step-short, step-unknown, step-whole}
use Rattle.task.proofs.steps.is_choice.Goals as goal

pub returns-then-steps-at-lt-STEP_SIZE-clause-i_value : goal.returns-then-steps-at-lt-STEP_SIZE-clause-i_value
returns-then-steps-at-lt-STEP_SIZE-clause-i_value c =
    let w = c.args.table.now in
    let i_in = c.requires.i_in_bounds in
    step-short (task_of w) (of-table w c.requires.table_value).0 c.args.steps.now c.args.i (omega arith)

pub returns-then-schema_count-schema-clause-i_value : goal.returns-then-schema_count-schema-clause-i_value
returns-then-schema_count-schema-clause-i_value c =
    let w = c.args.table.now in
    let e = c.schema_count.ensures in
    step-unknown (task_of w) (of-table w c.requires.table_value).0 c.args.steps.now c.args.i (omega arith)

pub are_within-requires : goal.are_within-requires
are_within-requires c =
    let w = c.args.table.now in
    let few = params-few (task_of w) (of-table w c.requires.table_value).0
    (get_or c.args.steps.now (step_size * c.args.i) 0) in
    let e = c.param_count.ensures in
    (omega arith, omega arith)

pub returns-clause-i_value : goal.returns-clause-i_value
returns-clause-i_value c =
    let w = c.args.table.now in
    let steps = c.args.steps.now in
    let well = (of-table w c.requires.table_value).0 in
    let at : ℕ = step_size * c.args.i in
    let schemas = schemas-word w (table-frame w c.requires.table_value) in
    let count = c.schema_count.ensures in
    let within = sym (c.are_within.ensures (task_of w).objects c.requires.limits_value) in
    let pairs = ap (pairs_differ (task_of w) well steps c.args.i) c.param_count.ensures ∙
    pairs-apart w c.requires.table_value (get_or steps at 0) (omega arith) steps (at + 1) in
    step-whole (task_of w) well steps c.args.i c.param_count.result c.param_count.ensures (omega arith) (omega arith) ∙
    ap₂ ◌&&◌ within pairs
