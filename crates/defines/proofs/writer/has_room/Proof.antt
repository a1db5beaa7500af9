-- `defines::writer::has_room` meets its contract.
-- Bytes that hold the longest text hold this one (`table-most`). For fewer the size is counted and compared.
use native.Mathlib.Omega.{arith}
use Prim.Native.Nat.{ℕ}
use mathlib.Core.Path.{sym, ap}
use lib.ListN.{length}
use lib.Dec.{leb}
use borrow.Author.Tests.{le-leb}
use Rattle.task.specs.Table.{task_of}
use Rattle.defines.specs.Pddl.{pddl}
use Rattle.defines.specs.ByWords.{longest_pddl}
use Rattle.defines.proofs.Longest.{table-most}
use borrow.Author.Rules.{rules}
use Rattle.defines.proofs.writer.has_room.Statement.{statement}
use Rattle.defines.proofs.writer.has_room.Tie as tie

returns : tie.Need-returns-then-bytes-ge-LONGEST_PDDL
unfolding longest_pddl
returns c =
    let start = c in
    let m = table-most start.args.table.now start.requires in
    sym (le-leb (length (pddl (task_of start.args.table.now))) start.args.bytes (omega arith))

returns-2 : tie.Need-returns
returns-2 c = ap (λ (n : ℕ). leb n c.args.bytes) c.pddl_size.ensures

pub has_room_spec : {M : Type 1} → statement M
has_room_spec = tie.close (tie.spec returns (λ c κs. search rules) returns-2)
