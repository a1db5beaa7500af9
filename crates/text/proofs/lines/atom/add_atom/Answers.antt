-- It refuses as the line's turn does: 4 where the schema or the table is full, 5 where `fits` says so, and 6 where the
-- search among the schema's rows finds the new one. The row is written before 6 is tested, and touches nothing of the
-- table but its own eight words.
use Rattle.std.proofs.Common.{arith, refl, sym, ◌∙◌}
use Rattle.text.proofs.HeldAtoms.{few_words, inside-touched, atom-fits, row_named, atom-put, schema-full, table-full}
use Rattle.text.proofs.HeldAtoms.{atom-misfits}
use Rattle.text.proofs.TableRoom.{in_table}
use Rattle.text.proofs.lines.atom.add_atom.Goals as goal

pub returns-then-counts-ge-MOST_ATOMS-clause-checked : goal.returns-then-counts-ge-MOST_ATOMS-clause-checked
returns-then-counts-ge-MOST_ATOMS-clause-checked c d ns h s = schema-full d _ _ ns (omega (arith, h.atoms))

pub returns-then-counts-ge-MOST_SCHEMA_ATOMS-clause-checked :
    goal.returns-then-counts-ge-MOST_SCHEMA_ATOMS-clause-checked
returns-then-counts-ge-MOST_SCHEMA_ATOMS-clause-checked c d ns h s =
    table-full d _ _ ns (omega (arith, h.atoms)) (omega (arith, h.atoms, h.closed))

pub fits-requires : goal.fits-requires
fits-requires c =
    let h = c.requires.drafted.holds in
    in_table (omega (arith, h.few.predicates)) h.long

pub returns-then-not-fits-clause-checked : goal.returns-then-not-fits-clause-checked
returns-then-not-fits-clause-checked c d ns h s =
    atom-misfits d _ _ ns (omega (arith, h.atoms)) (omega (arith, h.atoms, h.closed))
    (sym (atom-fits h c.fits.ensures c.requires.args_len s) ∙ c.if-not-fits.true)

pub put_row-requires-clause-atom_size_in_bounds : goal.put_row-requires-clause-atom_size_in_bounds
put_row-requires-clause-atom_size_in_bounds c =
    let h = c.requires.drafted.holds in
    let room = in_table (few_words h.few c.if-counts-ge-MOST_SCHEMA_ATOMS.false) h.long in
    omega (arith, room, c.next_row-row.ensures)

pub repeated-requires : goal.repeated-requires
repeated-requires c =
    let h = c.requires.drafted.holds in
    let room = in_table (few_words h.few c.if-counts-ge-MOST_SCHEMA_ATOMS.false) h.long in
    let row = c.next_row-row.ensures in
    let first = c.first_row.ensures in
    let size = c.put_row.auto.table in
    (omega arith, omega arith)

pub returns-then-repeated-clause-touched : goal.returns-then-repeated-clause-touched
returns-then-repeated-clause-touched c =
    inside-touched (few_words c.requires.drafted.holds.few c.if-counts-ge-MOST_SCHEMA_ATOMS.false)
    (row_named c.args.role c.args.predicate c.next_row-row.ensures refl refl c.put_row.ensures)

pub returns-then-repeated-clause-checked : goal.returns-then-repeated-clause-checked
returns-then-repeated-clause-checked c d ns h s =
    let put = atom-put h c.requires.in_schema c.if-counts-ge-MOST_ATOMS.false c.if-counts-ge-MOST_SCHEMA_ATOMS.false
    c.fits.ensures c.if-not-fits.false c.requires.args_len s c.next_row-row.ensures c.put_row.ensures in
    let row = c.next_row-row.ensures in
    let first = c.first_row.ensures in
    put.repeats (rw (← row, ← first) (sym c.if-repeated.ensures))

pub returns-clause-touched : goal.returns-clause-touched
returns-clause-touched c =
    inside-touched (few_words c.requires.drafted.holds.few c.if-counts-ge-MOST_SCHEMA_ATOMS.false)
    (row_named c.args.role c.args.predicate c.next_row-row.ensures refl refl c.put_row.ensures)

pub returns-clause-checked : goal.returns-clause-checked
returns-clause-checked c d ns h s =
    let put = atom-put h c.requires.in_schema c.if-counts-ge-MOST_ATOMS.false c.if-counts-ge-MOST_SCHEMA_ATOMS.false
    c.fits.ensures c.if-not-fits.false c.requires.args_len s c.next_row-row.ensures c.put_row.ensures in
    let row = c.next_row-row.ensures in
    let first = c.first_row.ensures in
    put.taken (rw (← row, ← first) (sym c.if-repeated.ensures))
