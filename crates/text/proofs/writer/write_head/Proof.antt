-- `text::writer::write_head` meets its contract: its three lines are written one behind another. A lemma for each says
-- what is still to come behind it.
use Rattle.task.specs.Limits.{head_words}
use Rattle.task.specs.Layout.{head_in}
use native.Mathlib.Omega.{arith}
use Prim.Native.Nat.{ℕ}
use mathlib.Core.Path.{◌≡◌, ap}
use mathlib.Core.List.{List, [], ◌∷◌, ◌++◌}
use lib.ListN.{length}
use Rattle.text.specs.Lines.{bytes, newline, digits, commaed, line}
use Rattle.text.specs.TableLines.{spaced, head_text}
use Rattle.task.proofs.TableReads.{counts-inside}
use Rattle.text.proofs.WholeText.{arity_bytes, task_bytes, head-parts, arities-inside}
use Rattle.text.proofs.Writes.{Writing, writes-same, writing_start, writing-left, writing-fits, writing-on}
use Rattle.text.proofs.Writes.{last_fits, writing-last}
use borrow.Author.Rules.{rules}
use Rattle.text.proofs.writer.write_head.Statement.{statement}
use Rattle.text.proofs.writer.write_head.Tie as tie

abbrev objects : tie.Start → List ℕ
objects c = line "objects" (digits (head_in c.args.table.now).objects)

abbrev arities : tie.Start → List ℕ
arities c = line "arity" (arity_bytes c.args.table.now)

-- what is still to come of the head, in a text and from a place on
abbrev Left : tie.Start → List ℕ → List ℕ → ℕ → Type 0
Left c left text next = Writing c.args.text.now 0 (head_text c.args.table.now) left text next

begin : (c : tie.Start) → Left c (task_bytes ++ (objects c ++ arities c)) c.args.text.now 0
begin c = let r = c.requires.1 in writing-left (head-parts c.args.table.now) (writing_start (omega arith))

abbrev start : tie.After-slice_known-2-1 → tie.Start
start c = c.before.before.before.before.before.before.before.before.before

behind-task : (c : tie.After-slice_known-2-1) →
    Left (start c) (objects (start c) ++ arities (start c))
    c.write_bytes-at_objects.new.text c.write_bytes-at_objects.result
behind-task c = writing-on {ys = task_bytes} (begin (start c)) c.write_bytes-at_objects.ensures

abbrev opened : tie.After-slice_known-3-1 → tie.After-slice_known-2-1
opened c = c.before.before.before.before.before.before.before

behind-objects : (c : tie.After-slice_known-3-1) →
    Left (start (opened c)) (arities (start (opened c)))
    c.write_number_line-at_arity.new.text c.write_number_line-at_arity.result
unfolding line bytes
behind-objects c =
    writing-on {ys = objects (start (opened c))} (behind-task (opened c))
    c.write_number_line-at_arity.ensures

-- the predicates were counted first
abbrev counted : tie.After-slice_known-2-1 → tie.After-word-predicates
counted c = c.before.before.before.before.before.before

predicates-read : (c : tie.After-slice_known-3-1) →
    let w = (start (opened c)).args.table.now in
    commaed (spaced w head_words 1 (counted (opened c)).word-predicates.result) ≡ arity_bytes w
predicates-read c =
    ap (λ (n : ℕ). commaed (spaced (start (opened c)).args.table.now head_words 1 n))
    (counted (opened c)).word-predicates.ensures.0

word-requires : tie.Need-word-predicates-requires
word-requires c κs =
    let start = c in
    let l = counts-inside start.args.table.now start.requires.0 in
    omega arith

write-bytes-requires : tie.Need-write_bytes-at_objects-requires
write-bytes-requires c κs =
    let start = c in
    let r = writing-fits task_bytes (objects start.before.before.before.before.before.before ++ arities start.before.before.before.before.before.before) (begin start.before.before.before.before.before.before) in
    omega arith

shared-slice-read-write-number-line : tie.Need-bounds-table-0
shared-slice-read-write-number-line c =
    let put = c in
    let l = counts-inside (start put.before.before.before.before).args.table.now (start put.before.before.before.before).requires.0 in
    omega arith

write-number-line-requires : tie.Need-write_number_line-at_arity-requires
unfolding line bytes
write-number-line-requires c κs =
    let start = start c.before.before.before.before in
    writing-fits (objects start) (arities start) (behind-task c.before.before.before.before)

write-list-line-requires : tie.Need-write_list_line-requires
unfolding line bytes
write-list-line-requires c κs =
    let put = c in
    let start = start (opened put.before.before.before) in
    let e = (counted (opened put.before.before.before)).word-predicates.ensures.0 in
    let r = last_fits (behind-objects put.before.before.before) in
    let l = ap (λ (bs : List ℕ). length (bs ++ (newline ∷ []))) (predicates-read put.before.before.before) in
    (λ k h. arities-inside start.args.table.now start.requires.0 k (omega arith), omega arith)

returns : tie.Need-returns
unfolding line bytes
returns c =
    let put = c in
    writing-last (behind-objects put.before.before.before.before.before.before)
    (writes-same (ap (λ (bs : List ℕ). 97 ∷ 114 ∷ 105 ∷ 116 ∷ 121 ∷ 61 ∷ (bs ++ (newline ∷ []))) (predicates-read put.before.before.before.before.before.before))
    c.write_list_line.ensures)

pub write_head_spec : {M : Type 1} → statement M
write_head_spec =
    tie.close
    (tie.spec word-requires write-bytes-requires shared-slice-read-write-number-line write-number-line-requires
    write-list-line-requires (λ c. search rules) returns)
