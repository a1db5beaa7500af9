-- The line has no list, or its parts don't close the schema, or they do. Then the parts go into the schema's rows, its
-- parameter count behind those of the schemas before, and the code holds the draft behind it.
use Rattle.std.proofs.Common.{arith, ◌≤◌, sym, ap, ◌∙◌, length, get_or, ltb}
use Rattle.std.proofs.lemmas.Result.{err_from_is_err_and}
use borrow.Author.Tests.{ltb-true}
use Rattle.words.specs.Lists.{all}
use Rattle.words.proofs.Words.{each_first}
use Rattle.task.proofs.Tables.{table_words-is}
use Rattle.text.specs.Text.{part_line, take_line}
use Rattle.text.proofs.RowTests.{listed-take, parts_all}
use Rattle.text.proofs.HeldSchemas.{schema-closed, closing-touched, schema-room}
use Rattle.text.proofs.TableRoom.{params-inside}
use Rattle.text.proofs.LineTurns.{no_line, line_refused, line-goes-on}
use Rattle.text.proofs.lines.part.part_line.Goals as goal

pub returns-in_default-clause-takes : goal.returns-in_default-clause-takes
returns-in_default-clause-takes c d h = no_line part_line d _ (c.in_default.ensures _ _ _ c.listing.ensures)

pub returns-in_err-check_parts-clause-takes : goal.returns-in_err-check_parts-clause-takes
unfolding take_line
returns-in_err-check_parts-clause-takes c d h =
    let list = c.in-Some.ensures _ _ _ c.listing.ensures in
    let told = err_from_is_err_and c.from_residual.result c.from_residual.ensures.1 in
    rw (told.1, told.2)
    (line_refused part_line d _ _ _ list.is _ (c.in_err-check_parts.ensures d list.ns h list.listed))

pub put_parts-requires-clause-n_in_bounds : goal.put_parts-requires-clause-n_in_bounds
put_parts-requires-clause-n_in_bounds c =
    let list = c.in-Some.ensures _ _ _ c.listing.ensures in
    let many = list.listed.counted in
    let size = c.listing.auto.list in
    let h = c.requires.drafted.holds in
    let same = (c.in_ok-check_parts.ensures _ list.ns h list.listed).1 in
    let atoms = h.atoms in
    let few = h.few.atoms in
    let total = h.few.total in
    let predicates = h.few.predicates in
    let long = h.long in
    let z = table_words-is in
    let first = c.first_row.ensures in
    (omega arith, omega arith)

pub put_parts-requires-clause-by_index : goal.put_parts-requires-clause-by_index
put_parts-requires-clause-by_index c i l =
    let list = c.in-Some.ensures _ _ _ c.listing.ensures in
    let size = c.listing.auto.list in
    let h = c.requires.drafted.holds in
    let closes = c.in_ok-check_parts.ensures _ list.ns h list.listed in
    let room : c.in-Some.count ≤ length c.listing.new.list =
    omega (arith, list.listed.counted, closes.1, h.atoms, h.few.atoms) in
    let low = ap (all (λ p. ltb p 16)) (listed-take list.listed room) ∙ closes.2 in
    let small = ltb-true (get_or c.listing.new.list i 0) 16
    (each_first (λ p. ltb p 16) c.listing.new.list _ room low i l) in
    omega arith

pub bounds-table-at : goal.bounds-table-at
bounds-table-at c = omega (arith, params-inside c.requires.drafted.holds, c.put_parts.auto.table)

pub returns-clause-touched : goal.returns-clause-touched
returns-clause-touched c =
    let list = c.in-Some.ensures _ _ _ c.listing.ensures in
    let many = list.listed.counted in
    let h = c.requires.drafted.holds in
    let same = (c.in_ok-check_parts.ensures _ list.ns h list.listed).1 in
    let atoms = h.atoms in
    let few = h.few in
    let first = c.first_row.ensures in
    closing-touched _ _ (rw first at c.put_parts.ensures)
    (omega (arith, few.atoms, few.total, few.predicates, few.schemas))
    (omega (arith, few.atoms, few.total, few.predicates, few.schemas))

pub returns-clause-takes : goal.returns-clause-takes
unfolding take_line
returns-clause-takes c d h =
    let list = c.in-Some.ensures _ _ _ c.listing.ensures in
    let many = list.listed.counted in
    let size = c.listing.auto.list in
    let closes = c.in_ok-check_parts.ensures d list.ns h list.listed in
    let same = closes.1 in
    let atoms = h.atoms in
    let few = h.few in
    let few-atoms = few.atoms in
    let total = few.total in
    let predicates = few.predicates in
    let schemas = few.schemas in
    let long = h.long in
    let z = table_words-is in
    let room = schema-room h c.requires.allows in
    let first = c.first_row.ensures in
    let put = rw first at c.put_parts.ensures in
    record {
      draft = _;
      is = line-goes-on part_line d _ _ _ list.is _ closes.0;
      holds = schema-closed h list.ns _ same (λ i l. list.listed.held i l (omega arith)) (parts_all (sym many) put)
          (omega arith) (omega arith) c.requires.allows;
      line = list.line;
    }
