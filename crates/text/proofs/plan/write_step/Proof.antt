-- `text::plan::write_step` meets its contract: the key, and the entry behind it, are the step's line (`step_text-is`).
use Prim.Native.Nat.{ℕ, ◌+◌}
use mathlib.Core.List.{List, [], ◌∷◌, ◌++◌}
use lib.ListN.{get_or}
use Rattle.words.specs.Words.{words_at}
use Rattle.text.specs.Lines.{newline, entry_bytes}
use Rattle.text.specs.PlanCode.{step_text}
use Rattle.text.proofs.PlanWritten.{step_key, step_text-is}
use Rattle.text.proofs.Writes.{Writing, writing_start, writing-left, writing-fits, writing-on, last_fits}
use Rattle.text.proofs.Writes.{writing-last}
use borrow.Author.Rules.{rules}
use Rattle.text.proofs.plan.write_step.Statement.{statement}
use Rattle.text.proofs.plan.write_step.Tie as tie

abbrev entry : tie.Start → List ℕ
entry c =
    let words = c.args.words.now in
    entry_bytes (record {
      head = get_or words c.args.base 0;
      list = words_at words (c.args.base + 1) c.args.params;
    }) ++
    (newline ∷ [])

-- what is still to come of the line, in a text and from a place on
abbrev Left : tie.Start → List ℕ → List ℕ → ℕ → Type 0
Left c left text next =
    Writing c.args.text.now c.args.at (step_text c.args.words.now c.args.base c.args.params) left
    text
    next

begin : (c : tie.Start) → Left c (step_key ++ entry c) c.args.text.now c.args.at
begin c =
    writing-left (step_text-is c.args.words.now c.args.base c.args.params) (writing_start c.requires.1)

abbrev start : tie.After-write_bytes-at_schema → tie.Start
start c = c.before.before.before.before.before.before

behind-key : (c : tie.After-write_bytes-at_schema) →
    Left (start c) (entry (start c)) c.write_bytes-at_schema.new.text c.write_bytes-at_schema.result
behind-key c = writing-on (begin (start c)) c.write_bytes-at_schema.ensures

write-bytes-requires : tie.Need-write_bytes-at_schema-requires
write-bytes-requires c κs =
    let start = c in
    writing-fits step_key (entry start.before.before.before.before.before) (begin start.before.before.before.before.before)

write-entry-requires : tie.Need-write_entry-requires
write-entry-requires c κs =
    let keyed = c in
    ((start keyed.before.before.before.before).requires.0, last_fits (behind-key keyed.before.before.before.before))

returns : tie.Need-returns
returns c =
    let entered = c in
    writing-last (behind-key entered.before.before.before.before.before.before.before) entered.write_entry.ensures

pub write_step_spec : {M : Type 1} → statement M
write_step_spec =
    tie.close
    (tie.spec write-bytes-requires (λ c. search rules) (λ c. search rules) (λ c. search rules)
    write-entry-requires (λ c. search rules) returns)
