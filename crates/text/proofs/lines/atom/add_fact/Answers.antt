-- It refuses as the line's turn does: 4 where the kind is full, 5 where `fits` says so, and 6 where the words of the
-- new row don't come behind those of the row before. The row is written before 6 is tested, and touches nothing of the
-- table but its own eight words.
use Rattle.std.proofs.Common.{arith, refl, sym, ◌∙◌}
use Rattle.text.proofs.HeldAtoms.{inside-touched}
use Rattle.text.proofs.HeldFacts.{fact-room, fact-fits, fact-row, fact-place, fact-put, full-refused, misfit-refused}
use Rattle.text.proofs.TableRoom.{in_table}
use Rattle.text.proofs.lines.atom.add_fact.Goals as goal

pub returns-then-facts-clause-checked : goal.returns-then-facts-clause-checked
returns-then-facts-clause-checked c d ns h s =
    full-refused c.args.kind h c.facts-facts.ensures _ ns c.if-facts.true

pub fits-requires : goal.fits-requires
fits-requires c =
    let h = c.requires.drafted.holds in
    in_table (omega (arith, h.few.predicates)) h.long

pub returns-then-not-fits-clause-checked : goal.returns-then-not-fits-clause-checked
returns-then-not-fits-clause-checked c d ns h s =
    misfit-refused c.args.kind h c.facts-facts.ensures _ ns c.if-facts.false
    (sym (fact-fits h c.fits.ensures c.requires.args_len s) ∙ c.if-not-fits.true)

pub put_row-requires-clause-atom_size_in_bounds : goal.put_row-requires-clause-atom_size_in_bounds
put_row-requires-clause-atom_size_in_bounds c =
    let h = c.requires.drafted.holds in
    let place = fact-place c.args.kind h.few c.facts-facts.ensures in
    let room = in_table (fact-room h.few (place.few c.if-facts.false)) h.long in
    omega (arith, room, c.next_row-row.ensures)

pub less_words-requires-clause-n_in_bounds : goal.less_words-requires-clause-n_in_bounds
less_words-requires-clause-n_in_bounds c =
    let h = c.requires.drafted.holds in
    let place = fact-place c.args.kind h.few c.facts-facts.ensures in
    let room = in_table (fact-room h.few (place.few c.if-facts.false)) h.long in
    omega (arith, room, c.next_row-row.ensures, c.put_row.auto.table)

pub less_words-requires-clause-n_in_bounds_2 : goal.less_words-requires-clause-n_in_bounds_2
less_words-requires-clause-n_in_bounds_2 c =
    let h = c.requires.drafted.holds in
    let place = fact-place c.args.kind h.few c.facts-facts.ensures in
    let room = in_table (fact-room h.few (place.few c.if-facts.false)) h.long in
    omega (arith, room, c.next_row-row.ensures, c.put_row.auto.table)

pub returns-then-not-less_words-clause-touched : goal.returns-then-not-less_words-clause-touched
returns-then-not-less_words-clause-touched c =
    let few = c.requires.drafted.holds.few in
    let place = fact-place c.args.kind few c.facts-facts.ensures in
    inside-touched (fact-room few (place.few c.if-facts.false))
    (fact-row c.facts-facts.result.role c.args.predicate c.next_row-row.ensures refl c.put_row.ensures)

pub returns-then-not-less_words-clause-checked : goal.returns-then-not-less_words-clause-checked
returns-then-not-less_words-clause-checked c d ns h s =
    let put = fact-put c.args.kind h c.requires.allows c.facts-facts.ensures c.if-facts.false c.fits.ensures
    c.if-not-fits.false c.requires.args_len s c.next_row-row.ensures c.put_row.ensures in
    let row = c.next_row-row.ensures in
    let found = c.if-not-less_words.ensures in
    put.unordered (sym ((rw row at found) ∙ put.later c.if-facts-gt0.true))

pub returns-else-not-less_words-clause-touched : goal.returns-else-not-less_words-clause-touched
returns-else-not-less_words-clause-touched c =
    let few = c.requires.drafted.holds.few in
    let place = fact-place c.args.kind few c.facts-facts.ensures in
    inside-touched (fact-room few (place.few c.if-facts.false))
    (fact-row c.facts-facts.result.role c.args.predicate c.next_row-row.ensures refl c.put_row.ensures)

pub returns-else-not-less_words-clause-checked : goal.returns-else-not-less_words-clause-checked
returns-else-not-less_words-clause-checked c d ns h s =
    let put = fact-put c.args.kind h c.requires.allows c.facts-facts.ensures c.if-facts.false c.fits.ensures
    c.if-not-fits.false c.requires.args_len s c.next_row-row.ensures c.put_row.ensures in
    let row = c.next_row-row.ensures in
    let found = c.if-not-less_words.ensures in
    put.taken (sym ((rw row at found) ∙ put.later c.if-facts-gt0.true))

pub returns-else-facts-gt0-clause-touched : goal.returns-else-facts-gt0-clause-touched
returns-else-facts-gt0-clause-touched c =
    let few = c.requires.drafted.holds.few in
    let place = fact-place c.args.kind few c.facts-facts.ensures in
    inside-touched (fact-room few (place.few c.if-facts.false))
    (fact-row c.facts-facts.result.role c.args.predicate c.next_row-row.ensures refl c.put_row.ensures)

pub returns-else-facts-gt0-clause-checked : goal.returns-else-facts-gt0-clause-checked
returns-else-facts-gt0-clause-checked c d ns h s =
    let put = fact-put c.args.kind h c.requires.allows c.facts-facts.ensures c.if-facts.false c.fits.ensures
    c.if-not-fits.false c.requires.args_len s c.next_row-row.ensures c.put_row.ensures in
    put.taken (put.first (omega (arith, c.if-facts-gt0.false)))
