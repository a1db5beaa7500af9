-- `text::counted::write_entry` meets its contract: number with colon, and list with byte 10, are written one behind the
-- other.
use native.Mathlib.Omega.{arith}
use Prim.Native.Nat.{ℕ}
use mathlib.Core.List.{List, [], ◌∷◌, ◌++◌}
use Rattle.words.specs.Words.{words_at}
use Rattle.text.specs.Lines.{Entry, colon, newline, digits, commaed, entry_bytes}
use Rattle.text.specs.TableLines.{spaced}
use Rattle.text.proofs.AtomLines.{entry-is}
use Rattle.text.proofs.Writes.{Writing, writing_start, writing-left, writing-fits, writing-on, last_fits}
use Rattle.text.proofs.Writes.{writing-last}
use borrow.Author.Rules.{rules}
use Rattle.text.proofs.counted.write_entry.Statement.{statement}
use Rattle.text.proofs.counted.write_entry.Tie as tie

abbrev entry : tie.Start → Entry
entry c = record { head = c.args.head; list = words_at c.args.words.now c.args.from c.args.n }

abbrev list : tie.Start → List ℕ
list c = commaed (spaced c.args.words.now c.args.from 1 c.args.n) ++ (newline ∷ [])

-- what is still to come, in a text and from a place on
abbrev Left : tie.Start → List ℕ → List ℕ → ℕ → Type 0
Left c left text next =
    Writing c.args.text.now c.args.at (entry_bytes (entry c) ++ (newline ∷ [])) left text next

begin : (c : tie.Start) → Left c ((digits c.args.head ++ (colon ∷ [])) ++ list c) c.args.text.now c.args.at
begin c =
    writing-left (entry-is c.args.head c.args.words.now c.args.from c.args.n)
    (writing_start c.requires.1)

abbrev start : tie.After-slice_known-2-1 → tie.Start
start c = c.before.before.before.before.before.before

behind-head : (c : tie.After-slice_known-2-1) →
    Left (start c) (list (start c)) c.write_ended-at_list.new.text c.write_ended-at_list.result
behind-head c = writing-on (begin (start c)) c.write_ended-at_list.ensures

write-ended-requires : tie.Need-write_ended-at_list-requires
write-ended-requires c κs =
    let start = c in
    writing-fits (digits start.args.head ++ (colon ∷ [])) (list start.before.before.before) (begin start.before.before.before)

write-list-requires : tie.Need-write_list-requires
write-list-requires c κs =
    let inside = (start c.before).requires.0 in
    (λ k h. omega arith, last_fits (behind-head c.before))

returns : tie.Need-returns
returns c = writing-last (behind-head c.before.before.before.before) c.write_list.ensures

pub write_entry_spec : {M : Type 1} → statement M
write_entry_spec = tie.close (tie.spec write-ended-requires write-list-requires (λ c. search rules) returns)
