-- `blocks::folding::is_split_step` meets its contract: its tests are those of a step of the split, in their order
-- (`split-short`, `split-unknown`, then those of a step of its schema).
use Rattle.blocks.proofs.folding.is_split_step.Tie as tie
use Prim.Native.Nat.{◌+◌, ◌*◌, ◌≤◌, ◌<◌}
use mathlib.Core.Path.{◌≡◌, sym}
use native.Mathlib.Omega.{arith}
use lib.ListN.{length, get_or}
use borrow.Author.Rules.{rules}
use Rattle.task.specs.Limits.{step_size}
use Rattle.task.specs.Task.{Task}
use Rattle.tokens.specs.Split.{first_of}
use Rattle.blocks.proofs.SplitTests.{split-short, split-unknown}
use Rattle.blocks.proofs.folding.is_split_step.Statement.{statement}

-- past the tests of the length and the schema
abbrev start : tie.Else-splits-number → tie.Start
start c = c.before.before.before.before

whole : (c : tie.Else-splits-number) → step_size * (start c).args.i + step_size ≤ length (start c).args.steps.now
whole c = let l = c.if-steps-at-lt-STEP_SIZE.false in let h = (start c).requires.0 in omega arith

known : (c : tie.Else-splits-number) (t : Task) → (start c).args.splits ≡ first_of t (length t.schemas) →
    get_or (start c).args.steps.now (step_size * (start c).args.i) 0 < first_of t (length t.schemas)
known c t f = let e = c.schema_at-number.ensures in let l = c.if-splits-number.false in omega arith

returns : tie.Need-returns-then-steps-at-lt-STEP_SIZE
returns c = λ t S f.
    let a = c.args in
    let h = c.requires.0 in
    let l = c.if-steps-at-lt-STEP_SIZE.true in
    sym (split-short S a.steps.now a.i (omega arith))

returns-2 : tie.Need-returns-then-splits-number
returns-2 c = λ t S f.
    let d = c in
    let a = d.args in
    let e = d.schema_at-number.ensures in
    let l = c.if-splits-number.true in
    sym (split-unknown S a.steps.now a.i (omega arith))

is-schema-step-requires : tie.Need-is_schema_step-requires
is-schema-step-requires c κs =
    let (t, S, f) = (start c).requires.1 in
    let e = c.schema_at-number.ensures in
    let l = known c t f in
    (whole c, (e, (t, S, omega arith)))

returns-3 : tie.Need-returns
returns-3 c = λ t S f.
    let d = c in
    let e = d.schema_at-number.ensures in
    let l = known d.before t f in
    c.is_schema_step.ensures t S (omega arith)

pub is_split_step_spec : {M : Type 1} → statement M
is_split_step_spec =
    tie.close
    (tie.spec (λ c. search rules) (λ c. search rules) returns (λ c κs. search rules) returns-2
    is-schema-step-requires returns-3)
