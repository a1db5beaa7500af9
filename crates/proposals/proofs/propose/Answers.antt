-- `proposals::propose` meets its contract: its checks go down the table of refusals, each branch is a case of the
-- outcome, and what passes them all is settled by `propose_parts`.
use Rattle.task.specs.declared.Place.TheVariants as place
use Rattle.std.proofs.Common.{◌≡◌, sym, ◌∙◌, ap}
use mathlib.Core.Logic.{inl, inr, ⊎_elim}
use Rattle.task.specs.Table.{task_of}
use Rattle.task.proofs.Answers.{as_found, both}
use Rattle.task.proofs.LongEnough.{has-table-words}
use Rattle.proposals.specs.Proposal.{proposed_task, too_many}
use Rattle.proposals.specs.Outcome.{Lent, settled, propose_outcome, propose_answer_told}
use Rattle.proposals.proofs.ClearedScratch.{has_words, too_few}
use Rattle.proposals.proofs.ProposeOutcome.{propose-short, propose-no-table, propose-unfit, propose-settles}
use Rattle.proposals.proofs.ProposeOutcome.{tables-short, tables-long, lent-unfit, lent_fits}
use Rattle.proposals.proofs.propose.Goals as goal
use Rattle.proposals.proofs.propose.Goals.{After-nowhere, After-nowhere-then-not-is_table, After-nowhere-then-width}
use Rattle.proposals.proofs.propose.Goals.{After-propose_parts}

-- ---- a lent table is too short
short : (c : After-nowhere) →
    propose_outcome c.args.table.now c.args.width c.args.proposed.now c.args.scratch.now ≡
    as_found 1 place.Nowhere (record { proposed = c.args.proposed.now; scratch = c.args.scratch.now })
short c =
    propose-short _ _ _ _
    (tables-short _ _ (⊎_elim inl (λ x. inr x.1) c.then-table-lt-TABLE_WORDS.either))

pub returns-then-table-lt-TABLE_WORDS-clause-told :
    goal.returns-then-table-lt-TABLE_WORDS-clause-told
unfolding propose_answer_told
returns-then-table-lt-TABLE_WORDS-clause-told c = rw c.nowhere.ensures (both (short c)).0

pub returns-then-table-lt-TABLE_WORDS-clause-written :
    goal.returns-then-table-lt-TABLE_WORDS-clause-written
returns-then-table-lt-TABLE_WORDS-clause-written c = ap (λ (l : Lent). l.proposed) (both (short c)).1

pub returns-then-table-lt-TABLE_WORDS-clause-cleared :
    goal.returns-then-table-lt-TABLE_WORDS-clause-cleared
returns-then-table-lt-TABLE_WORDS-clause-cleared c = ap (λ (l : Lent). l.scratch) (both (short c)).1

-- ---- the first is no table
pub is_table-requires : goal.is_table-requires
is_table-requires c = has-table-words c.args.table.now c.if-table-lt-TABLE_WORDS.false

no-table : (c : After-nowhere-then-not-is_table) →
    propose_outcome c.args.table.now c.args.width c.args.proposed.now c.args.scratch.now ≡
    as_found 2 place.Nowhere (record { proposed = c.args.proposed.now; scratch = c.args.scratch.now })
no-table c =
    propose-no-table _ _ _ _ (tables-long _ _ c.if-table-lt-TABLE_WORDS.false c.if-proposed-lt-TABLE_WORDS.false)
    (sym c.is_table.ensures ∙ c.if-not-is_table.true)

pub returns-then-not-is_table-clause-told : goal.returns-then-not-is_table-clause-told
unfolding propose_answer_told
returns-then-not-is_table-clause-told c = rw c.nowhere-then-not-is_table.ensures (both (no-table c)).0

pub returns-then-not-is_table-clause-written : goal.returns-then-not-is_table-clause-written
returns-then-not-is_table-clause-written c = ap (λ (l : Lent). l.proposed) (both (no-table c)).1

pub returns-then-not-is_table-clause-cleared : goal.returns-then-not-is_table-clause-cleared
returns-then-not-is_table-clause-cleared c = ap (λ (l : Lent). l.scratch) (both (no-table c)).1

-- ---- the width or the scratch doesn't fit
unfit : (c : After-nowhere-then-width) →
    propose_outcome c.args.table.now c.args.width c.args.proposed.now c.args.scratch.now ≡
    as_found 22 place.Nowhere (record { proposed = c.args.proposed.now; scratch = c.args.scratch.now })
unfit c =
    propose-unfit _ _ _ _ (tables-long _ _ c.if-table-lt-TABLE_WORDS.false c.if-proposed-lt-TABLE_WORDS.false)
    (sym c.is_table.ensures ∙ c.if-not-is_table.false)
    (lent-unfit _ _ (⊎_elim inl (λ x. inr (too_few c.args.scratch.now x.1)) c.then-width.either))

pub returns-then-width-clause-told : goal.returns-then-width-clause-told
unfolding propose_answer_told
returns-then-width-clause-told c = rw c.nowhere-then-width.ensures (both (unfit c)).0

pub returns-then-width-clause-written : goal.returns-then-width-clause-written
returns-then-width-clause-written c = ap (λ (l : Lent). l.proposed) (both (unfit c)).1

pub returns-then-width-clause-cleared : goal.returns-then-width-clause-cleared
returns-then-width-clause-cleared c = ap (λ (l : Lent). l.scratch) (both (unfit c)).1

-- ---- all checks pass
pub propose_parts-requires-clause-table_words_in_bounds :
    goal.propose_parts-requires-clause-table_words_in_bounds
propose_parts-requires-clause-table_words_in_bounds c =
    has-table-words c.args.proposed.now c.if-proposed-lt-TABLE_WORDS.false

pub propose_parts-requires-clause-scratch_words_in_bounds :
    goal.propose_parts-requires-clause-scratch_words_in_bounds
propose_parts-requires-clause-scratch_words_in_bounds c =
    has_words c.args.scratch.now c.if-scratch-lt-SCRATCH_WORDS.false

settles : (c : After-propose_parts) →
    let t = proposed_task c.args.width (task_of c.args.table.now) in
    let lent : Lent = record { proposed = c.args.proposed.now; scratch = c.args.scratch.now } in
    propose_outcome c.args.table.now c.args.width c.args.proposed.now c.args.scratch.now ≡
    settled (too_many t) t lent
settles c =
    propose-settles _ _ _ _ (tables-long _ _ c.if-table-lt-TABLE_WORDS.false c.if-proposed-lt-TABLE_WORDS.false)
    (sym c.is_table.ensures ∙ c.if-not-is_table.false)
    (lent_fits _ _ c.if-width.false (has_words c.args.scratch.now c.if-scratch-lt-SCRATCH_WORDS.false))

pub returns-clause-told : goal.returns-clause-told
returns-clause-told c =
    c.propose_parts.ensures.told ∙ (both (settles (goal.at.returns-clause-told c).After-propose_parts)).0

pub returns-clause-written : goal.returns-clause-written
returns-clause-written c =
    ap (λ (l : Lent). l.proposed)
    (c.propose_parts.ensures.lent ∙ (both (settles (goal.at.returns-clause-written c).After-propose_parts)).1)

pub returns-clause-cleared : goal.returns-clause-cleared
returns-clause-cleared c =
    ap (λ (l : Lent). l.scratch)
    (c.propose_parts.ensures.lent ∙ (both (settles (goal.at.returns-clause-cleared c).After-propose_parts)).1)
