-- `text::writer::write_atom` meets its contract: the number of arguments is the arity of the atom's predicate, so the
-- row that is written is the atom's line (`atom-row`).
use native.Mathlib.Omega.{arith}
use Prim.Native.Nat.{◌+◌}
use mathlib.Core.Path.{◌≡◌, ◌∙◌, ap}
use lib.ListN.{length, get_or}
use Rattle.task.specs.Layout.{arity_in}
use Rattle.text.specs.TableLines.{row_text, atom_text}
use Rattle.text.proofs.AtomLines.{atom-row}
use Rattle.text.proofs.Writes.{writes-same}
use borrow.Author.Rules.{rules}
use Rattle.text.proofs.writer.write_atom.Statement.{statement}
use Rattle.text.proofs.writer.write_atom.Tie as tie

abbrev start : tie.After-arity_of-arity → tie.Start
start c = c.before.before.before.before.before

arity-read : (c : tie.After-arity_of-arity) →
    let w = (start c).args.table.now in
    c.arity_of-arity.result ≡ arity_in w (get_or w ((start c).args.base + 2) 0)
arity-read c =
    c.arity_of-arity.ensures ∙ ap (arity_in (start c).args.table.now)
    (c.wide.ensures ∙ c.predicate_at.ensures.0)

row_read : (c : tie.After-arity_of-arity) →
    let w = (start c).args.table.now in
    row_text w (start c).args.base c.arity_of-arity.result ≡ atom_text w (start c).args.base
row_read c = atom-row (start c).args.table.now (start c).args.base c.arity_of-arity.result (arity-read c)

predicate-at-requires : tie.Need-predicate_at-requires
predicate-at-requires c κs = c.requires.0.inside

arity-of-requires : tie.Need-arity_of-arity-requires
arity-of-requires c κs =
    let known = c.requires.0.known in
    omega (arith, known, c.wide.ensures, c.predicate_at.ensures.0)

write-row-requires : tie.Need-write_row-requires
write-row-requires c κs =
    let start = start c.before in
    let short = start.requires.0.short in
    let e = arity-read c.before in
    let fits = start.requires.1 in
    let long = ap length (row_read c.before) in
    ((start.requires.0.inside, omega arith), omega arith)

returns : tie.Need-returns
returns c = writes-same (row_read c.before.before.before.before) c.write_row.ensures

pub write_atom_spec : {M : Type 1} → statement M
write_atom_spec =
    tie.close
    (tie.spec predicate-at-requires (λ c κs. search rules) arity-of-requires write-row-requires (λ c. search rules)
    returns)
