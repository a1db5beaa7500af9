-- Whatever draft the code holds: a line without an atom is refused with 3, and nothing is touched (`no_line`); an atom
-- that `add_atom` refuses has its line refused so; else table and counts, with an atom more, hold the draft behind the
-- line (`atom-goes-on`).
use Rattle.std.proofs.lemmas.Result.{err_from_is_err_and}
use Rattle.text.specs.Text.{atom_line}
use Rattle.text.proofs.LineTurns.{no_line, line_refused, atom-goes-on}
use Rattle.text.proofs.lines.atom.atom_line.Goals as goal

pub returns-in_default-clause-takes : goal.returns-in_default-clause-takes
returns-in_default-clause-takes c d h = no_line (atom_line c.args.role) d _ c.in_default.ensures

pub returns-in_err-add_atom-clause-takes : goal.returns-in_err-add_atom-clause-takes
returns-in_err-add_atom-clause-takes c d h =
    let read = c.in-Some.ensures in
    let told = err_from_is_err_and c.from_residual.result c.from_residual.ensures.1 in
    rw (told.1, told.2)
    (line_refused (atom_line c.args.role) d _ _ _ read.is _ (c.in_err-add_atom.ensures.checked d read.ns h read.listed))

pub returns-clause-takes : goal.returns-clause-takes
returns-clause-takes c d h =
    let read = c.in-Some.ensures in
    rw c.of_role.ensures
    (atom-goes-on (atom_line c.args.role) d read (c.in_ok-add_atom.ensures.checked d read.ns h read.listed))
