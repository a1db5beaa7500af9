-- `text::counted::write_list_line` meets its contract: key, and list with byte 10, are written one behind the other.
use Prim.Native.Nat.{ℕ}
use mathlib.Core.List.{List, [], ◌∷◌, ◌++◌}
use Rattle.text.specs.Lines.{newline, commaed}
use Rattle.text.specs.TableLines.{spaced}
use Rattle.text.proofs.Writes.{Writing, first_fits, writing_start, writing-on, last_fits, writing-last}
use borrow.Author.Rules.{rules}
use Rattle.text.proofs.counted.write_list_line.Statement.{statement}
use Rattle.text.proofs.counted.write_list_line.Tie as tie

abbrev body : tie.Start → List ℕ
body c = commaed (spaced c.args.words.now c.args.from c.args.step c.args.n) ++ (newline ∷ [])

abbrev start : tie.After-slice_known-2-1 → tie.Start
start c = c.before.before.before.before.before.before.before

behind-key : (c : tie.After-slice_known-2-1) →
    Writing (start c).args.text.now (start c).args.at ((start c).args.key.now ++ body (start c)) (body (start c))
    c.write_bytes-at_body.new.text c.write_bytes-at_body.result
behind-key c = writing-on (writing_start (start c).requires.1) c.write_bytes-at_body.ensures

write-bytes-requires : tie.Need-write_bytes-at_body-requires
write-bytes-requires c κs =
    let start = c in
    first_fits start.args.at start.args.key.now (body start.before.before.before.before) start.requires.1

write-list-requires : tie.Need-write_list-requires
write-list-requires c κs = ((start c.before).requires.0, last_fits (behind-key c.before))

returns : tie.Need-returns
returns c = writing-last (behind-key c.before.before.before.before) c.write_list.ensures

pub write_list_line_spec : {M : Type 1} → statement M
write_list_line_spec =
    tie.close (tie.spec write-bytes-requires write-list-requires (λ c. search rules) returns)
