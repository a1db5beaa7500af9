-- Too many parts fail; else the set of parts has all below their count.
use Prim.Native.Nat.{◌-◌}
use mathlib.Core.Path.{sym, ◌∙◌}
use borrow.Author.Tests.{lt-leb}
use Rattle.words.specs.Lists.{up_to}
use Rattle.words.specs.Sets.{member}
use Rattle.task.specs.WordTests.{atoms_in}
use Rattle.words.proofs.Ranges.{all_same}
use Rattle.task.proofs.Tests.{has_part}
use Rattle.task.proofs.SchemaWords.{parts-many, parts-few}
use Rattle.task.proofs.table.schemas.parts_fit.Goals as goal

pub returns-then-count-le-MOST_PARTS : goal.returns-then-count-le-MOST_PARTS
returns-then-count-le-MOST_PARTS c =
    let atoms = atoms_in c.args.table.now c.args.first (c.args.end - c.args.first) in
    let count = c.part_count-count.result in
    c.has_all.ensures ∙ (all_same (member c.parts.result) (has_part atoms) (up_to count) c.parts.ensures ∙
    sym (parts-few atoms count c.part_count-count.ensures c.if-count-le-MOST_PARTS.true))

pub returns-else-count-le-MOST_PARTS : goal.returns-else-count-le-MOST_PARTS
returns-else-count-le-MOST_PARTS c =
    let atoms = atoms_in c.args.table.now c.args.first (c.args.end - c.args.first) in
    let many = c.if-count-le-MOST_PARTS.false in
    lt-leb _ _ many ∙ parts-many atoms c.part_count-count.result c.part_count-count.ensures many
