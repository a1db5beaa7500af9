-- `text::writer::write_text` meets its contract: head, schemas, initial and goal atoms and the last line are written
-- one behind another. A lemma for each says what is still to come behind it.
use native.Mathlib.Omega.{arith}
use Prim.Native.Nat.{ℕ}
use mathlib.Core.List.{List, ◌++◌}
use Rattle.task.specs.Table.{task_of}
use Rattle.text.specs.Text.{write}
use Rattle.text.specs.TableLines.{head_text, schemas_text, facts_text}
use Rattle.text.proofs.WholeText.{end_bytes, write-by-words, write-fits}
use Rattle.text.proofs.Writes.{Writing, writing_start, writing-left, writing-fits, writing-on, last_fits}
use Rattle.text.proofs.Writes.{writing-last}
use borrow.Author.Rules.{rules}
use Rattle.text.proofs.writer.write_text.Statement.{statement}
use Rattle.text.proofs.writer.write_text.Tie as tie

abbrev words : tie.Start → List ℕ
words c = c.args.table.now

-- what is still to come of the text, in a text and from a place on
abbrev Left : tie.Start → List ℕ → List ℕ → ℕ → Type 0
Left c left text next = Writing c.args.text.now 0 (write (task_of (words c))) left text next

begin : (c : tie.Start) →
    Left c (head_text (words c) ++ (schemas_text (words c) ++ (facts_text (words c) ++ end_bytes))) c.args.text.now 0
begin c =
    let fits = write-fits (words c) c.requires in
    writing-left (write-by-words (words c)) (writing_start (omega arith))

abbrev start : tie.After-slice_known-2-1 → tie.Start
start c = c.before.before.before.before.before.before

behind-head : (c : tie.After-slice_known-2-1) →
    Left (start c) (schemas_text (words (start c)) ++ (facts_text (words (start c)) ++ end_bytes))
    c.write_head-at_schemas.new.text c.write_head-at_schemas.result
behind-head c = writing-on (begin (start c)) c.write_head-at_schemas.ensures

abbrev headed : tie.After-slice_known-3-1 → tie.After-slice_known-2-1
headed c = c.before.before.before.before

behind-schemas : (c : tie.After-slice_known-3-1) →
    Left (start (headed c)) (facts_text (words (start (headed c))) ++ end_bytes)
    c.write_schemas-at_facts.new.text c.write_schemas-at_facts.result
behind-schemas c = writing-on (behind-head (headed c)) c.write_schemas-at_facts.ensures

abbrev listed : tie.After-slice_known-4-1 → tie.After-slice_known-3-1
listed c = c.before.before.before.before

behind-facts : (c : tie.After-slice_known-4-1) →
    Left (start (headed (listed c))) end_bytes
    c.write_facts-at_end.new.text c.write_facts-at_end.result
behind-facts c = writing-on (behind-schemas (listed c)) c.write_facts-at_end.ensures

write-head-requires : tie.Need-write_head-at_schemas-requires
write-head-requires c κs =
    let start = c in
    let w = words start.before.before.before in
    let fits = writing-fits (head_text w) (schemas_text w ++ (facts_text w ++ end_bytes)) (begin start.before.before.before) in
    (start.requires, omega arith)

write-schemas-requires : tie.Need-write_schemas-at_facts-requires
write-schemas-requires c κs =
    let start = start c.before in
    let w = words start in
    (start.requires, writing-fits (schemas_text w) (facts_text w ++ end_bytes) (behind-head c.before))

write-facts-requires : tie.Need-write_facts-at_end-requires
write-facts-requires c κs =
    let start = start (headed c.before) in
    (start.requires, writing-fits (facts_text (words start)) end_bytes (behind-schemas c.before))

write-bytes-requires : tie.Need-write_bytes-requires
write-bytes-requires c κs = last_fits (behind-facts c.before.before.before)

returns : tie.Need-returns
returns c =
    writing-last (behind-facts c.before.before.before.before.before.before) c.write_bytes.ensures

pub write_text_spec : {M : Type 1} → statement M
write_text_spec =
    tie.close
    (tie.spec write-head-requires write-schemas-requires write-facts-requires write-bytes-requires (λ c. search
    rules) returns)
