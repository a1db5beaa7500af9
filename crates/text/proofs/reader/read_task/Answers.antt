-- The line at the cursor is one turn of the code and of the definitions; each arm says what the turn was.
use Rattle.std.proofs.Common.{◌∙◌, sym, subst, List, ℕ}
use Rattle.task.specs.declared.refusals.Reason.TheVariants.{OutOfForm}
use Rattle.task.specs.Table.{words_of}
use Rattle.task.proofs.Tables.{words-length}
use Rattle.text.specs.Holding.{Holds}
use Rattle.text.proofs.LaidOut.{cleared-is, over-touched}
use Rattle.text.proofs.ReadLoop.{told-refused, buffer-refused, told-read, buffer-read, begins, line-refuses, line-goes}
use Rattle.text.proofs.ReadLoop.{left_over, whole-text, last-phase, well, touched-both}
use Rattle.text.proofs.reader.read_task.Goals as goal

pub loop-reason-init : goal.loop-reason-init
loop-reason-init c = rw (c.start-counts.ensures, c.start-cursor.ensures) (begins _ _ c.requires)

pub returns-in-Err-clause-result_value : goal.returns-in-Err-clause-result_value
returns-in-Err-clause-result_value c =
    let s = c.loop-reason.invariant in
    told-refused c.args.table.now c.args.text.now _ c.in-Err.reason
    (line-refuses s _ (c.in-Err.ensures.fact s.draft s.holds)) c.refused.ensures.value

pub returns-in-Err-clause-table_after : goal.returns-in-Err-clause-table_after
returns-in-Err-clause-table_after c =
    let s = c.loop-reason.invariant in
    buffer-refused c.args.table.now c.args.text.now _ _ _ (line-refuses s _ (c.in-Err.ensures.fact s.draft s.holds))
    (cleared-is c.args.table.now _ _ c.requires (touched-both s.touched c.in-Err.ensures.touched)
    c.refused.ensures.wrote)

pub returns-then-next-text-clause-result_value : goal.returns-then-next-text-clause-result_value
returns-then-next-text-clause-result_value c =
    let s = c.loop-reason.invariant in
    let fact = rw c.in-Ok-Finish.field-0-is at c.in-Ok-Finish.ensures.fact in
    let left = rw c.in-Ok-Finish.field-0-is at c.if-next-text.true in
    let value = rw c.in-Ok-Finish.field-0-is at c.refused-then-next-text.ensures.value in
    told-refused c.args.table.now c.args.text.now _ OutOfForm (left_over s (fact s.draft s.holds).0 left) value

pub returns-then-next-text-clause-table_after : goal.returns-then-next-text-clause-table_after
returns-then-next-text-clause-table_after c =
    let s = c.loop-reason.invariant in
    let fact = rw c.in-Ok-Finish.field-0-is at c.in-Ok-Finish.ensures.fact in
    let left = rw c.in-Ok-Finish.field-0-is at c.if-next-text.true in
    buffer-refused c.args.table.now c.args.text.now _ _ _ (left_over s (fact s.draft s.holds).0 left)
    (cleared-is c.args.table.now _ _ c.requires (touched-both s.touched c.in-Ok-Finish.ensures.touched)
    c.refused-then-next-text.ensures.wrote)

pub returns-in-Ok-Finish-clause-result_value : goal.returns-in-Ok-Finish-clause-result_value
returns-in-Ok-Finish-clause-result_value c =
    let s = c.loop-reason.invariant in
    let fact = rw c.in-Ok-Finish.field-0-is at c.in-Ok-Finish.ensures.fact in
    let end = rw c.in-Ok-Finish.field-0-is at c.if-next-text.false in
    told-read c.args.table.now c.args.text.now _ (whole-text s (fact s.draft s.holds).0 end)

pub returns-in-Ok-Finish-clause-table_after : goal.returns-in-Ok-Finish-clause-table_after
returns-in-Ok-Finish-clause-table_after c =
    let s = c.loop-reason.invariant in
    let fact = rw c.in-Ok-Finish.field-0-is at c.in-Ok-Finish.ensures.fact in
    let end = rw c.in-Ok-Finish.field-0-is at c.if-next-text.false in
    let (ended, same) = fact s.draft s.holds in
    let fits = well s ended end in
    let holds = subst (λ (w : List ℕ). Holds s.draft w c.loop-reason.counts) (sym same) s.holds in
    buffer-read c.args.table.now c.args.text.now _ _ (whole-text s ended end)
    (c.lay_out.ensures s.draft holds (last-phase s ended) fits ∙
    over-touched (words_of s.draft.task) c.args.table.now _ (words-length s.draft.task fits) c.requires
    (touched-both s.touched c.in-Ok-Finish.ensures.touched))

pub loop-reason-preserved : goal.loop-reason-preserved
loop-reason-preserved c =
    let s = c.loop-reason.invariant in
    let fact = rw c.in-Ok-GoOn.field-0-is at c.in-Ok-GoOn.ensures.fact in
    rw c.in-Ok-GoOn.field-0-is (line-goes s c.in-Ok-GoOn.ensures.touched (fact s.draft s.holds))
