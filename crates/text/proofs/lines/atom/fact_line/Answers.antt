-- Whatever draft the code holds: a line without an atom is refused with 3, and nothing is touched (`no_line`); an atom
-- that `add_fact` refuses has its line refused so; else table and counts, with a fact of the kind more, hold the draft
-- behind the line (`atom-goes-on`).
use Rattle.std.proofs.lemmas.Result.{err_from_is_err_and}
use Rattle.text.specs.Holding.{fact_line}
use Rattle.text.proofs.LineTurns.{no_line, line_refused, atom-goes-on}
use Rattle.text.proofs.lines.atom.fact_line.Goals as goal

pub returns-in_default-clause-takes : goal.returns-in_default-clause-takes
returns-in_default-clause-takes c d h = no_line (fact_line c.args.kind) d _ c.in_default.ensures

pub returns-in_err-add_fact-clause-takes : goal.returns-in_err-add_fact-clause-takes
returns-in_err-add_fact-clause-takes c d h =
    let read = c.in-Some.ensures in
    let told = err_from_is_err_and c.from_residual.result c.from_residual.ensures.1 in
    rw (told.1, told.2)
    (line_refused (fact_line c.args.kind) d _ _ _ read.is _ (c.in_err-add_fact.ensures.checked d read.ns h read.listed))

pub returns-clause-takes : goal.returns-clause-takes
returns-clause-takes c d h =
    let read = c.in-Some.ensures in
    rw c.one_fact_more.ensures
    (atom-goes-on (fact_line c.args.kind) d read (c.in_ok-add_fact.ensures.checked d read.ns h read.listed))
