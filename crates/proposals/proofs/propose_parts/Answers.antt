-- `proposals::propose_parts` meets its contract: the scratch is cleared once the parts are found, and clearing forgets
-- what they left in it. Where a schema has too many parts the second table isn't touched; else it is written.
use Rattle.std.proofs.Common.{◌≡◌, sym, ◌∙◌}
use Rattle.proposals.specs.Outcome.{Lent, cleared, propose_answer_told}
use Rattle.proposals.proofs.ClearedScratch.{cleared-same}
use Rattle.proposals.proofs.ProposeOutcome.{many-settles, none-settles}
use Rattle.proposals.proofs.propose_parts.Goals as goal
use Rattle.proposals.proofs.propose_parts.Goals.{After-clear}

abbrev lent : After-clear → Lent
lent c = record { proposed = c.args.proposed.now; scratch = c.args.scratch.now }

-- the scratch, once it is cleared
clean : (c : After-clear) → c.clear.new.scratch ≡ cleared c.args.scratch.now
clean c = c.clear.ensures ∙ cleared-same c.requires.scratch_words_in_bounds c.all_parts-many.ensures.keeps_behind

pub returns-in-Some-clause-told : goal.returns-in-Some-clause-told
unfolding propose_answer_told
returns-in-Some-clause-told c =
    let at = (goal.at.returns-in-Some-clause-told c).After-clear in
    rw c.at_schema.ensures (many-settles _ (lent at) (clean at) (sym c.in-Some.ensures.result_value)).0

pub returns-in-Some-clause-lent : goal.returns-in-Some-clause-lent
returns-in-Some-clause-lent c =
    let at = (goal.at.returns-in-Some-clause-lent c).After-clear in
    (many-settles _ (lent at) (clean at) (sym c.in-Some.ensures.result_value)).1

pub returns-clause-told : goal.returns-clause-told
unfolding propose_answer_told
returns-clause-told c =
    let at = (goal.at.returns-clause-told c).After-clear in
    (none-settles _ (lent at) (clean at) (sym c.in_default.ensures.result_value)
    (c.write_proposed.ensures c.args.width (c.all_parts-many.ensures.have_parts c.in_default.is))).0

pub returns-clause-lent : goal.returns-clause-lent
returns-clause-lent c =
    let at = (goal.at.returns-clause-lent c).After-clear in
    (none-settles _ (lent at) (clean at) (sym c.in_default.ensures.result_value)
    (c.write_proposed.ensures c.args.width (c.all_parts-many.ensures.have_parts c.in_default.is))).1
