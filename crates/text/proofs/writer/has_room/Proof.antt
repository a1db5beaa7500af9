-- `text::writer::has_room` meets its contract.
-- Bytes that hold the longest text hold this one, since a table's task is well formed (`text-most`). For fewer the text
-- is written to no bytes, which gives its size.
use native.Mathlib.Omega.{arith}
use Prim.Native.Nat.{ℕ}
use mathlib.Core.Path.{sym, ap}
use lib.ListN.{length}
use lib.Dec.{leb}
use borrow.Author.Tests.{le-leb}
use Rattle.task.specs.Table.{task_of}
use Rattle.task.proofs.Tables.{of-table}
use Rattle.text.specs.Text.{write}
use Rattle.text.specs.TableLines.{longest_text}
use Rattle.text.proofs.LongestText.{text-most}
use Rattle.text.proofs.Writes.{writes-size}
use borrow.Author.Rules.{rules}
use Rattle.text.proofs.writer.has_room.Statement.{statement}
use Rattle.text.proofs.writer.has_room.Tie as tie

returns : tie.Need-returns-then-bytes-ge-LONGEST_TEXT
unfolding longest_text
returns c =
    let start = c in
    let m = text-most (task_of start.args.table.now) (of-table start.args.table.now start.requires).0 in
    sym (le-leb (length (write (task_of start.args.table.now))) start.args.bytes (omega arith))

returns-2 : tie.Need-returns
returns-2 c =
    ap (λ (n : ℕ). leb n c.args.bytes)
    (writes-size c.write_text.ensures)

pub has_room_spec : {M : Type 1} → statement M
has_room_spec = tie.close (tie.spec returns (λ c. search rules) (λ c κs. search rules) returns-2)
