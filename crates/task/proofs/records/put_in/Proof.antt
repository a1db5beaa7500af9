-- `task::records::put_in` meets its contract.
-- Where the row that `find` gives has the number, the fact holds, and inserting it changes nothing (`row-there`). Else
-- no row has it (`no_row`), so that the contract gives room for one: the rows from there on move up, and the new one is
-- written in their place (`row-came`).
use Prim.Native.Nat.{ℕ, ◌+◌, ◌*◌, ◌≤◌, ◌<◌}
use mathlib.Core.Path.{◌≡◌, ◌∙◌}
use mathlib.Core.Bool.{Bool, false}
use mathlib.Core.List.{List}
use native.Mathlib.Omega.{arith}
use lib.ListN.{length}
use Rattle.task.specs.Records.{row_number, RowsAscend, LowerBound, RowIs}
use Rattle.task.proofs.RowsFound.{row_is, no_row, row-there, row-came}
use borrow.Author.Rules.{rules}
use Rattle.task.proofs.records.put_in.Statement.{statement}
use Rattle.task.proofs.records.put_in.Tie as tie

abbrev Room : List ℕ → ℕ → ℕ → Type 0
Room w n number = (((i : ℕ) → i < n → row_number w i ≡ number → ⊥) → 5 * n + 5 ≤ length w) × (number < 72057594037927936)

room : {w : List ℕ} {n number k : ℕ} {r : Bool} → (5 * n ≤ length w) × (RowsAscend w n × Room w n number) →
    LowerBound w n number k → RowIs w n k number r → r ≡ false → 5 * n + 5 ≤ length w
room p b h e = p.1.1.0 (no_row p.1.0 b (row_is h e))

move-up-requires : tie.Need-move_up-requires
move-up-requires c κs =
    let at-is-row = c in
    let at-find = at-is-row in
    let start = at-find in (
      let z = at-find.find-k.ensures.within in omega arith,
      room start.requires
          at-find.find-k.ensures at-is-row.is_row.ensures c.if-is_row.false,
    )

write-at-requires : tie.Need-write_at-requires
write-at-requires c κs =
    let at-move-up = c in
    let at-if1 = at-move-up in
    let at-is-row = at-if1 in
    let at-find = at-is-row in
    let start = at-find in (
      let y = room start.requires
          at-find.find-k.ensures
          at-is-row.is_row.ensures
          at-if1.if-is_row.false in
          let z = at-find.find-k.ensures.within in
          let k = at-move-up.move_up.auto.state in
          omega arith,
      start.requires.1.1.1,
    )

returns : tie.Need-returns-then-is_row
returns c = λ t f d. row-there d (row_is c.is_row.ensures c.if-is_row.true)

returns-2 : tie.Need-returns-else-is_row
returns-2 c =
    let at-write-at = c in
    let at-move-up = at-write-at in
    let at-if1 = at-move-up in
    let at-is-row = at-if1 in
    let at-find = at-is-row in
    let start = at-find in
    λ t f d. row-came d at-find.find-k.ensures (row_is at-is-row.is_row.ensures at-if1.if-is_row.false)
    at-move-up.move_up.ensures at-write-at.write_at.ensures (at-write-at.write_at.auto.state ∙
    at-move-up.move_up.auto.state)
    (room start.requires at-find.find-k.ensures at-is-row.is_row.ensures at-if1.if-is_row.false)

pub put_in_spec : {M : Type 1} → statement M
put_in_spec =
    tie.close
    (tie.spec (λ c κs. search rules) (λ c κs. search rules) (λ c. search rules) (λ c. search rules) move-up-requires
    (λ c. search rules) write-at-requires (λ c. search rules) (λ c. search rules) returns (λ c. search rules) returns-2)
