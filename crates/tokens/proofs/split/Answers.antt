-- Words too few for the split are refused first, then what acceptance refuses; a split that is accepted is written.
use Rattle.std.proofs.Common.{arith, ◌∙◌}
use Rattle.std.proofs.lemmas.Result.{err_from_is_err_and}
use Rattle.task.proofs.Answers.{both}
use Rattle.task.proofs.LongEnough.{too_short, long-enough, has-table-words}
use Rattle.tokens.specs.Acceptance.{AcceptanceTold, AcceptedKept}
use Rattle.tokens.proofs.SplitOutcome.{split-short, split-refused, split_done}
use Rattle.tokens.proofs.split.Goals as goal

pub returns-then-out-lt-TABLE_WORDS-clause-told : goal.returns-then-out-lt-TABLE_WORDS-clause-told
returns-then-out-lt-TABLE_WORDS-clause-told c =
    let a = c.args in
    rw c.nowhere.ensures
    (both (split-short a.table.now a.out.now (too_short a.out.now c.if-out-lt-TABLE_WORDS.true))).0

pub returns-then-out-lt-TABLE_WORDS-clause-written : goal.returns-then-out-lt-TABLE_WORDS-clause-written
returns-then-out-lt-TABLE_WORDS-clause-written c =
    let a = c.args in
    (both (split-short a.table.now a.out.now (too_short a.out.now c.if-out-lt-TABLE_WORDS.true))).1

pub returns-in_err-sizes-clause-told : goal.returns-in_err-sizes-clause-told
unfolding AcceptanceTold
returns-in_err-sizes-clause-told c =
    let a = c.args in
    let e = err_from_is_err_and c.from_residual.result c.from_residual.ensures.1 in
    rw (e.1, e.2) (both (split-refused a.table.now a.out.now
    (long-enough a.out.now (omega arith)) c.in_err-sizes.ensures)).0

pub returns-in_err-sizes-clause-written : goal.returns-in_err-sizes-clause-written
unfolding AcceptanceTold
returns-in_err-sizes-clause-written c =
    let a = c.args in
    (both (split-refused a.table.now a.out.now (long-enough a.out.now (omega arith))
    c.in_err-sizes.ensures)).1

pub write_split-requires-clause-accepted_kept : goal.write_split-requires-clause-accepted_kept
unfolding AcceptanceTold
write_split-requires-clause-accepted_kept c = c.in_ok-sizes.ensures

pub write_split-requires-clause-table_words_in_bounds : goal.write_split-requires-clause-table_words_in_bounds
write_split-requires-clause-table_words_in_bounds c = has-table-words c.args.out.now (omega arith)

pub returns-clause-told : goal.returns-clause-told
unfolding AcceptanceTold
returns-clause-told c =
    let a = c.args in
    let long = long-enough a.out.now (omega arith) in
    let h : AcceptedKept a.table.now c.in_ok-sizes.sizes c.keep_accepted.new.kept = c.in_ok-sizes.ensures in
    (both (split_done a.table.now a.out.now long h.long h.table h.accepted)).0

pub returns-clause-written : goal.returns-clause-written
unfolding AcceptanceTold
returns-clause-written c =
    let a = c.args in
    let long = long-enough a.out.now (omega arith) in
    let h : AcceptedKept a.table.now c.in_ok-sizes.sizes c.keep_accepted.new.kept = c.in_ok-sizes.ensures in
    c.write_split.ensures ∙ (both (split_done a.table.now a.out.now long h.long h.table h.accepted)).1
