-- The powers kept are those of the task's objects, so the totals are the instances of the task and of its split, capped.
-- Where one reaches the limit, 24 is the outcome; else both are whole, and the other sizes are those that acceptance
-- counted, and the bytes.
use Prim.Native.Nat.{ℕ}
use mathlib.Core.Path.{sym, ◌∙◌, subst}
use mathlib.Core.Logic.{inl, inr, ⊎_elim}
use native.Mathlib.Omega.{arith}
use borrow.Author.Tests.{leb-true}
use Rattle.task.specs.Table.{task_of}
use Rattle.task.proofs.TableReads.{counts-inside}
use Rattle.task.proofs.TablesByIndex.{table-frame, objects-word}
use Rattle.task.proofs.Tests.{task-tests}
use Rattle.tokens.proofs.Splitting.{well, few-predicates, predicates-word}
use Rattle.forecast.specs.Forecast.{instance_limit}
use Rattle.forecast.specs.Capped.{ArePowers}
use Rattle.forecast.proofs.Capped.{limit_is}
use Rattle.forecast.proofs.Outcome.{too-many-told, counted-told}
use Rattle.forecast.proofs.forecast_split.Goals as goal

pub word-requires : goal.word-requires
word-requires c = omega (arith, counts-inside c.args.table.now c.requires.table)

pub keep_powers-requires : goal.keep_powers-requires
keep_powers-requires c =
    let w = c.args.table.now in
    let t = task_of w in
    let objects = c.word.ensures.value ∙ sym (objects-word w (table-frame w c.requires.table)) in
    omega (arith, objects, leb-true 1 t.objects (task-tests t (well c.requires)).some-object)

pub instances_before-before-requires-clause-are_powers : goal.instances_before-before-requires-clause-are_powers
instances_before-before-requires-clause-are_powers c =
    let w = c.args.table.now in
    let objects = c.word.ensures.value ∙ sym (objects-word w (table-frame w c.requires.table)) in
    subst (λ (n : ℕ). ArePowers instance_limit n c.keep_powers.new.powers) objects c.keep_powers.ensures

pub instances_after-after-requires-clause-are_powers : goal.instances_after-after-requires-clause-are_powers
instances_after-after-requires-clause-are_powers c =
    let w = c.args.table.now in
    let objects = c.word.ensures.value ∙ sym (objects-word w (table-frame w c.requires.table)) in
    subst (λ (n : ℕ). ArePowers instance_limit n c.keep_powers.new.powers) objects c.keep_powers.ensures

-- ---- the totals
pub returns-then-before-ge-INSTANCE_LIMIT : goal.returns-then-before-ge-INSTANCE_LIMIT
returns-then-before-ge-INSTANCE_LIMIT c =
    rw c.nowhere.ensures
    (too-many-told c.requires (sym limit_is) c.instances_before-before.ensures c.instances_after-after.ensures
    (⊎_elim (λ x. inl x.if-before-ge-INSTANCE_LIMIT.true) (λ x. inr x.if-after-ge-INSTANCE_LIMIT.true)
    c.then-before-ge-INSTANCE_LIMIT.branch-raw))

-- ---- the other sizes
pub word-requires-2 : goal.word-requires-2
word-requires-2 c = omega (arith, counts-inside c.args.table.now c.requires.table)

-- the predicates of an accepted split are few
pub overflow_add-predicates-2 : goal.overflow_add-predicates-2
overflow_add-predicates-2 c =
    let S = c.requires in
    omega (arith, c.word-2.ensures.value, few-predicates S, predicates-word S, S.sized.later, S.sized.pars)

pub overflow_add-predicates-3 : goal.overflow_add-predicates-3
overflow_add-predicates-3 c =
    let S = c.requires in
    omega (arith, c.word-2.ensures.value, few-predicates S, predicates-word S, S.sized.later, S.sized.pars)

pub returns : goal.returns
returns c =
    counted-told c.requires (sym limit_is) c.instances_before-before.ensures c.instances_after-after.ensures
    c.if-before-ge-INSTANCE_LIMIT.false c.if-after-ge-INSTANCE_LIMIT.false (omega (arith, c.word-2.ensures.value))
    c.text_bytes-bytes.ensures
