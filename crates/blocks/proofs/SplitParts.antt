-- The parts of an accepted split, in numbers: each schema has one to sixteen, the split has at most 200 together, and
-- each parameter stands in one. So a block fixes its step.
use Prim.Native.Nat.{ℕ, ◌≤◌, ◌<◌}
use mathlib.Core.Path.{◌≡◌}
use mathlib.Core.Bool.{true}
use native.Mathlib.Omega.{arith}
use lib.ListN.{length}
use borrow.Author.Tests.{leb-true}
use Rattle.task.specs.Task.{Task, part_count, schema_fits, well_formed, no_schema}
use Rattle.task.specs.Run.{Step, schema_at, is_step}
use Rattle.words.proofs.Lists.{every-at, all_in, in-get_or}
use Rattle.task.proofs.Tests.{schema-tests, task-tests}
use Rattle.task.proofs.States.{is_step-is}
use Rattle.tokens.specs.Split.{parts, orders, split_task, split_as, limit_tests, within_limits, split, first_of}
use Rattle.tokens.proofs.Accepted.{split-within}
use Rattle.blocks.specs.Blocks.{block}
use Rattle.blocks.proofs.Numbers.{split-count}
use Rattle.blocks.proofs.Unfolded.{block-fixes-step}
use Rattle.blocks.proofs.Given.{Given, given, part-count, filled, covered}

module _ (t : Task) (well : well_formed t ≡ true) (accepted : split t ≡ split_as (split_task t)) where
  pub few-schemas : length t.schemas ≤ 200
  few-schemas = leb-true (length t.schemas) 200 (task-tests t well).schemas

  -- the split's schemas are the parts of all schemas
  pub few-splits : first_of t (length t.schemas) ≤ 200
  unfolding within_limits limit_tests
  few-splits =
      let h = leb-true (length (split_task t).schemas) 200
      (every-at (limit_tests (split_task t)) (split-within t (split_task t) accepted) 1) in
      let e = split-count t in
      omega arith

  G : Given t (split_task t)
  G = given t (split_task t) well accepted

  module _ (s : ℕ) (l : s < length t.schemas) where
    pub some-part : 0 < length (orders t s)
    some-part = filled G l

    pub few-parts : length (orders t s) ≤ 16
    unfolding parts schema_at
    few-parts =
        let i = in-get_or t.schemas s no_schema l in
        let f = all_in (schema_fits t.arities) (task-tests t well).fit i in
        let b = leb-true (part_count (schema_at t s).atoms) 16 (schema-tests t.arities (schema_at t s) f).parts in
        omega (arith, part-count G l)

  -- ---- "Two steps may have equal ground sets and differ", and then their blocks differ too
  pub blocks-differ : (x y : Step) → is_step t x ≡ true → is_step t y ≡ true → (x ≡ y → ⊥) → block t x ≡ block t y → ⊥
  blocks-differ x y hx hy n e =
      n (block-fixes-step t some-part (λ s l. covered G l) x y (is_step-is t x hx) (is_step-is t y hy) e)
