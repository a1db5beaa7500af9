use Prim.Native.Nat.{ℕ, ◌*◌, ◌<◌}
use mathlib.Core.Path.{◌≡◌, refl, sym, ◌∙◌, ap, subst}
use mathlib.Core.List.{List}
use native.Mathlib.Omega.{arith}
use lib.ListN.{length}
use Rattle.words.specs.Lists.{put}
use Rattle.words.proofs.Puts.{length-put}
use Rattle.task.specs.Limits.{step_size}
use Rattle.task.specs.Table.{task_of}
use Rattle.task.specs.Run.{Step, step_words}
use Rattle.task.proofs.Tables.{of-table}
use Rattle.tokens.specs.Split.{split_task}
use Rattle.blocks.specs.Unfolding.{TableKept}
use Rattle.blocks.specs.FoldCode.{gathered, step_from}
use Rattle.blocks.proofs.Beginning.{begun_some, begun_nothing}
use Rattle.blocks.proofs.Given.{given, covered}
use Rattle.blocks.proofs.FoldBlock.{Covered}
use Rattle.blocks.proofs.FoldPuts.{PassedSo, passed_start, between, passed_on, passed-block}
use Rattle.blocks.proofs.FoldPuts.{passed-all, known, objects-inside, room-more, words-put, all-put}
use Rattle.blocks.proofs.folding.put_folded.Goals as goal
use Rattle.blocks.proofs.folding.put_folded.Goals.{in-Some, in_default}

covered_by : {w kept : List ℕ} → TableKept w kept → (s : ℕ) → s < length (task_of w).schemas → Covered (task_of w) s
covered_by {w} T s l = covered (given (task_of w) (split_task (task_of w)) (of-table w T.table).0 T.accepted) l

pub loop-i-init : goal.loop-i-init
loop-i-init c =
    let a = c.args in
    record {
      long = refl;
      passed = λ xs f. passed_start (task_of a.table.now) a.steps.now a.begins.now xs a.out.now f;
    }

-- ---- where a block begins
pub overflow_cast-s : goal.overflow_cast-s
overflow_cast-s c =
    let (k, xs, T, K, f, r) = c.requires in
    let begins = begun_some c.begun_at.ensures c.in-Some.is in
    let h = between K (c.loop-i.invariant.passed xs f) c.in-Some.s begins in
    omega (arith, known K h (omega arith) c.in-Some.s begins, K.blocks.few-schemas)

pub param_count-requires-clause-schema_in_bounds : goal.param_count-requires-clause-schema_in_bounds
param_count-requires-clause-schema_in_bounds c =
    let (k, xs, T, K, f, r) = c.requires in
    let begins = begun_some c.begun_at.ensures c.in-Some.is in
    let h = between K (c.loop-i.invariant.passed xs f) c.in-Some.s begins in
    known K h (omega arith) c.in-Some.s begins

pub put_gathered-requires-clause-s_lt_most_schemas : goal.put_gathered-requires-clause-s_lt_most_schemas
put_gathered-requires-clause-s_lt_most_schemas c =
    let (k, xs, T, K, f, r) = c.requires in
    let begins = begun_some c.begun_at.ensures c.in-Some.is in
    let h = between K (c.loop-i.invariant.passed xs f) c.in-Some.s begins in
    let l = known K h (omega arith) c.in-Some.s begins in
    let few = K.blocks.few-params c.in-Some.s in
    (omega (arith, l, K.blocks.few-schemas), omega (arith, few, c.param_count.ensures))

pub put_gathered-requires-clause-step_size_in_bounds : goal.put_gathered-requires-clause-step_size_in_bounds
put_gathered-requires-clause-step_size_in_bounds c =
    let (k, xs, T, K, f, r) = c.requires in
    let begins = begun_some c.begun_at.ensures c.in-Some.is in
    let h = between K (c.loop-i.invariant.passed xs f) c.in-Some.s begins in
    let l = known K h (omega arith) c.in-Some.s begins in
    omega (arith, room-more K h (omega arith) c.in-Some.s begins (covered_by T c.in-Some.s l) r, c.loop-i.invariant.long)

pub put_gathered-requires-clause-by_index : goal.put_gathered-requires-clause-by_index
put_gathered-requires-clause-by_index c = λ p m.
    let (k, xs, T, K, f, r) = c.requires in
    let begins = begun_some c.begun_at.ensures c.in-Some.is in
    let h = between K (c.loop-i.invariant.passed xs f) c.in-Some.s begins in
    let l = known K h (omega arith) c.in-Some.s begins in
    objects-inside K h (omega arith) c.in-Some.s begins (covered_by T c.in-Some.s l) p (omega (arith, c.param_count.ensures))

pub overflow_add-next : goal.overflow_add-next
overflow_add-next c =
    let (k, xs, T, K, f, r) = c.requires in
    let begins = begun_some c.begun_at.ensures c.in-Some.is in
    let h = between K (c.loop-i.invariant.passed xs f) c.in-Some.s begins in
    let l = known K h (omega arith) c.in-Some.s begins in
    let room = room-more K h (omega arith) c.in-Some.s begins (covered_by T c.in-Some.s l) r in
    omega (arith, room, c.loop-i.invariant.long)

-- what is passed, by other names for what is put and its end
moved : (w : List ℕ) {steps begins : List ℕ} {xs : List Step} {lent : List ℕ} {i : ℕ} {out out' : List ℕ} {next next' : ℕ} →
    out ≡ out' → next ≡ next' → PassedSo (task_of w) steps begins xs lent out' next' i →
    PassedSo (task_of w) steps begins xs lent out next i
moved w {steps} {begins} {xs} {lent} {i} {out} {out'} {next} e n h =
    subst (λ (o : List ℕ). PassedSo (task_of w) steps begins xs lent o next i) (sym e)
    (subst (λ (m : ℕ). PassedSo (task_of w) steps begins xs lent out' m i) (sym n) h)

pub loop-i-preserved : goal.loop-i-preserved
loop-i-preserved c =
    let (k, xs, T, K, f, r) = c.requires in
    let a = c.args in
    let h = c.loop-i in
    elim c.match-begun_at.branch [
      | in-Some w ↦
          let s = w.in-Some.s in
          let begins = begun_some c.begun_at.ensures w.in-Some.is in
          let l = known K (between K (h.invariant.passed xs f) s begins) (omega arith) s begins in
          let step = step_from (task_of a.table.now) a.steps.now a.origins.now h.i s in
          let put-words : c.match-begun_at.out ≡ put h.out h.next (step_words step) =
          w.out-is ∙
          (w.put_gathered.ensures ∙
          ap (λ (n : ℕ). put h.out h.next (step_words (gathered a.steps.now a.origins.now (step_size * h.i) s n)))
          w.param_count.ensures) in
          record {
            long = ap length put-words ∙ (length-put h.out h.next (step_words step) ∙ h.invariant.long);
            passed = λ ys g.
                moved a.table.now put-words w.next-is
                (passed-block K (h.invariant.passed ys g) (omega arith) s begins (covered_by T s l));
          }
      | in_default w ↦
          let none = begun_nothing c.begun_at.ensures w.in_default.is in
          record {
            long = ap length w.out-is ∙ h.invariant.long;
            passed = λ ys g. moved a.table.now w.out-is w.next-is (passed_on K (h.invariant.passed ys g) (omega arith) none);
          }
    ]

-- ---- the list's end
pub returns : goal.returns
returns c = λ xs f.
    let (k, ys, T, K, g, r) = c.requires in
    let n = c.loop-i-test.false in
    let m = words-put K (passed-all K (c.loop-i.invariant.passed ys g) (omega arith)) (omega arith) in
    all-put K (passed-all K (c.loop-i.invariant.passed xs f) (omega arith)) (omega arith) (omega arith)
