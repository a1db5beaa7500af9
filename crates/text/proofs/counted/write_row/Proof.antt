-- `text::counted::write_row` meets its contract: the key by the role, and the entry behind it, are the row's line
-- (`row_text-is`).
use native.Mathlib.Omega.{arith}
use Prim.Native.Nat.{ℕ, ◌+◌}
use mathlib.Core.Path.{◌≡◌, ap}
use mathlib.Core.List.{List, [], ◌∷◌, ◌++◌}
use lib.ListN.{length, get_or}
use Rattle.words.specs.Words.{words_at}
use Rattle.text.specs.Lines.{newline, entry_bytes}
use Rattle.text.specs.TableLines.{key_bytes, row_text}
use Rattle.text.proofs.AtomLines.{row_text-is}
use Rattle.text.proofs.Writes.{writes-same, Writing, writing_start, writing-left, writing-fits, writing-on}
use Rattle.text.proofs.Writes.{last_fits, writing-last}
use borrow.Author.Rules.{rules}
use Rattle.text.proofs.counted.write_row.Statement.{statement}
use Rattle.text.proofs.counted.write_row.Tie as tie

abbrev key : tie.Start → List ℕ
key c = key_bytes (get_or c.args.words.now (c.args.base + 1) 0)

-- the entry of a predicate with the row's arguments
abbrev entry_of : tie.Start → ℕ → List ℕ
entry_of c p =
    entry_bytes (record { head = p; list = words_at c.args.words.now (c.args.base + 4) c.args.arity }) ++
    (newline ∷ [])

abbrev entry : tie.Start → List ℕ
entry c = entry_of c (get_or c.args.words.now (c.args.base + 2) 0)

-- what is still to come of the line, in a text and from a place on
abbrev Left : tie.Start → List ℕ → List ℕ → ℕ → Type 0
Left c left text next =
    Writing c.args.text.now c.args.at (row_text c.args.words.now c.args.base c.args.arity) left
    text
    next

begin : (c : tie.Start) → Left c (key c ++ entry c) c.args.text.now c.args.at
begin c =
    writing-left (row_text-is c.args.words.now c.args.base c.args.arity) (writing_start c.requires.1)

-- the function's entry, behind the role
abbrev start : tie.After-role_at → tie.Start
start c = c.before.before.before.before

behind-key : (c : tie.After-write_key-at_entry) →
    Left (start c.before) (entry (start c.before)) c.write_key-at_entry.new.text c.write_key-at_entry.result
behind-key c =
    writing-on (begin (start c.before))
    (writes-same (ap key_bytes c.role_at.ensures.0) c.write_key-at_entry.ensures)

abbrev keyed : tie.After-predicate_at → tie.After-write_key-at_entry
keyed c = c.before.before.before.before

-- the entry that is written has the row's predicate
entry_read : (c : tie.After-predicate_at) →
    entry_of (start (keyed c).before) c.predicate_at.result ≡ entry (start (keyed c).before)
entry_read c = ap (entry_of (start (keyed c).before)) c.predicate_at.ensures.0

write-key-requires : tie.Need-write_key-at_entry-requires
write-key-requires c κs =
    let fits = writing-fits (key (start c)) (entry (start c)) (begin (start c)) in
    omega (arith, ap (λ (r : ℕ). length (key_bytes r)) c.role_at.ensures.0)

write-entry-requires : tie.Need-write_entry-requires
write-entry-requires c κs =
    let inside = (start (keyed c).before).requires.0 in
    let fits = last_fits (behind-key (keyed c)) in
    let long = ap length (entry_read c) in
    (omega arith, omega arith)

returns : tie.Need-returns
returns c =
    let entered = c in
    writing-last (behind-key (keyed entered.before.before.before))
    (writes-same (entry_read entered.before.before.before) c.write_entry.ensures)

pub write_row_spec : {M : Type 1} → statement M
write_row_spec =
    tie.close
    (tie.spec (λ c κs. search rules) write-key-requires (λ c κs. search rules) (λ c. search rules) write-entry-requires
    (λ c. search rules) returns)
