-- `text::writer::write_schema` meets its contract: the schema line, the lines of the pairs and of the atoms and the
-- part line are written one behind another. A lemma for each says what is still to come behind it.
use Prim.Native.Nat.{ℕ}
use mathlib.Core.List.{List, ◌++◌}
use Rattle.text.specs.Lines.{bytes, digits, line}
use Rattle.text.specs.TableLines.{atoms_text, pairs_text, schema_text_of}
use Rattle.text.proofs.SchemaLines.{parts_at, schema_text-is, parts-inside}
use Rattle.text.proofs.Writes.{Writing, writing_start, writing-left, writing-fits, writing-on, last_fits}
use Rattle.text.proofs.Writes.{writing-last}
use borrow.Author.Rules.{rules}
use Rattle.text.proofs.writer.write_schema.Statement.{statement}
use Rattle.text.proofs.writer.write_schema.Tie as tie

abbrev schema_line : tie.Start → List ℕ
schema_line c = line "schema" (digits c.args.params)

abbrev pairs : tie.Start → List ℕ
pairs c = pairs_text c.args.table.now c.args.rows.pair c.args.rows.pairs

abbrev atoms : tie.Start → List ℕ
atoms c = atoms_text c.args.table.now c.args.rows.atom c.args.rows.atoms

abbrev part_line : tie.Start → List ℕ
part_line c = line "part" (parts_at c.args.table.now c.args.rows.atom c.args.rows.atoms)

-- what is still to come of the lines, in a text and from a place on
abbrev Left : tie.Start → List ℕ → List ℕ → ℕ → Type 0
Left c left text next =
    Writing c.args.text.now c.args.at (schema_text_of c.args.table.now c.args.params c.args.rows)
    left text next

begin : (c : tie.Start) →
    Left c (schema_line c ++ (pairs c ++ (atoms c ++ part_line c))) c.args.text.now c.args.at
begin c =
    let rows = c.args.rows in
    writing-left
    (schema_text-is c.args.table.now c.args.params rows.pair rows.pairs rows.atom rows.atoms)
    (writing_start c.requires.1)

abbrev start : tie.After-slice_known-2-1 → tie.Start
start c = c.before.before.before.before.before.before.before.before

behind-schema : (c : tie.After-slice_known-2-1) →
    Left (start c) (pairs (start c) ++ (atoms (start c) ++ part_line (start c)))
    c.write_number_line-at_pairs.new.text c.write_number_line-at_pairs.result
unfolding line bytes
behind-schema c =
    writing-on {ys = schema_line (start c)} (begin (start c)) c.write_number_line-at_pairs.ensures

abbrev opened : tie.After-slice_known-3-1 → tie.After-slice_known-2-1
opened c = c.before.before.before.before

behind-pairs : (c : tie.After-slice_known-3-1) →
    Left (start (opened c)) (atoms (start (opened c)) ++ part_line (start (opened c)))
    c.write_pairs-at_atoms.new.text c.write_pairs-at_atoms.result
behind-pairs c = writing-on (behind-schema (opened c)) c.write_pairs-at_atoms.ensures

abbrev paired : tie.After-slice_known-4-1 → tie.After-slice_known-3-1
paired c = c.before.before.before.before

behind-atoms : (c : tie.After-slice_known-4-1) →
    Left (start (opened (paired c))) (part_line (start (opened (paired c))))
    c.write_atoms-at_parts.new.text c.write_atoms-at_parts.result
behind-atoms c = writing-on (behind-pairs (paired c)) c.write_atoms-at_parts.ensures

write-number-line-requires : tie.Need-write_number_line-at_pairs-requires
unfolding line bytes
write-number-line-requires c κs =
    let start = c in
    writing-fits (schema_line start.before.before.before.before.before) (pairs start.before.before.before.before.before ++ (atoms start.before.before.before.before.before ++ part_line start.before.before.before.before.before)) (begin start.before.before.before.before.before)

write-pairs-requires : tie.Need-write_pairs-at_atoms-requires
write-pairs-requires c κs =
    let start = start c.before in
    (start.requires.0.pairs, writing-fits (pairs start) (atoms start ++ part_line start) (behind-schema c.before))

write-atoms-requires : tie.Need-write_atoms-at_parts-requires
write-atoms-requires c κs =
    let start = start (opened c.before) in
    (start.requires.0.atoms, writing-fits (atoms start) (part_line start) (behind-pairs c.before))

write-list-line-requires : tie.Need-write_list_line-requires
unfolding line bytes
write-list-line-requires c κs =
    let put = c in
    let start = start (opened (paired put.before.before.before.before)) in
    let rows = start.args.rows in (
      parts-inside start.args.table.now rows.atom rows.atoms start.requires.0.atoms,
      last_fits (behind-atoms put.before.before.before.before),
    )

returns : tie.Need-returns
unfolding line bytes
returns c =
    writing-last (behind-atoms c.before.before.before.before.before.before.before)
    c.write_list_line.ensures

pub write_schema_spec : {M : Type 1} → statement M
write_schema_spec =
    tie.close
    (tie.spec write-number-line-requires write-pairs-requires write-atoms-requires (λ c. search rules)
    write-list-line-requires (λ c. search rules) returns)
