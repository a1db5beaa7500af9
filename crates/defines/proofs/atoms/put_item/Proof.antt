-- `defines::atoms::put_item` meets its contract: each branch puts what the role says, so the room that is required is
-- that of the branch.
use native.Mathlib.Omega.{arith}
use Prim.Native.Nat.{ℕ, ◌+◌, ◌≤◌}
use mathlib.Core.Path.{◌≡◌, sym, ap, subst}
use mathlib.Core.List.{List}
use lib.ListN.{length}
use Rattle.words.proofs.Puts.{puts-same}
use Rattle.task.specs.Task.{deletion}
use Rattle.text.specs.Lines.{bytes}
use Rattle.defines.specs.ByWords.{formula_at, item_at}
use Rattle.defines.proofs.Formulas.{item-first, item-other}
use borrow.Author.Rules.{rules}
use Rattle.defines.proofs.atoms.put_item.Statement.{statement}
use Rattle.defines.proofs.atoms.put_item.Tie as tie

-- the item of a role, and the atom behind a mark
abbrev item : tie.Start → ℕ → List ℕ
item c role = item_at role c.args.table.now c.args.base

abbrev atom : tie.Start → List ℕ → List ℕ
atom c mark = formula_at mark c.args.table.now c.args.base

-- there is room for what the item is
room : (c : tie.Start) (bs : List ℕ) → item c c.args.role ≡ bs →
    c.args.at + length bs ≤ length c.args.text.now
room c bs e = subst (λ (bs : List ℕ). c.args.at + length bs ≤ length c.args.text.now) e c.requires.1

first : (c : tie.Then-role-lt-DELETION) →
    let start = c in
    item start.before.before.before start.args.role ≡ atom start.before.before.before (bytes " ?x")
first c =
    let args = c.args in
    item-first args.table.now args.base args.role c.if-role-lt-DELETION.true

other : (c : tie.Else-role-eq-DELETION) →
    let start = c in
    item start.before.before.before.before start.args.role ≡ atom start.before.before.before.before (bytes " o")
other c =
    let args = c.args in
    let n = c.if-role-eq-DELETION.false in
    item-other args.table.now args.base args.role (omega arith)

put-atom-requires : tie.Need-put_atom-requires
unfolding bytes
put-atom-requires c κs =
    let start = c in
    (start.requires.0, room start.before.before.before.before.before.before (atom start.before.before.before.before.before.before (bytes " ?x")) (first c.before.before.before))

returns : tie.Need-returns-then-role-lt-DELETION
unfolding bytes
returns c =
    puts-same (sym (first c.before.before.before.before.before.before)) c.put_atom.ensures

put-delete-requires : tie.Need-put_delete-requires
put-delete-requires c κs =
    let start = c in
    (start.requires.0, room start.before.before.before.before.before (item start.before.before.before.before.before deletion) (ap (item start.before.before.before.before.before) c.if-role-eq-DELETION.true))

returns-2 : tie.Need-returns-then-role-eq-DELETION
returns-2 c =
    let branch = c in
    puts-same (sym (ap (item branch.before.before.before.before.before.before.before.before) branch.if-role-eq-DELETION.true))
    c.put_delete.ensures

put-atom-requires-2 : tie.Need-put_atom-requires-2
unfolding bytes
put-atom-requires-2 c κs =
    let start = c in
    (start.requires.0, room start.before.before.before.before.before.before.before (atom start.before.before.before.before.before.before.before (bytes " o")) (other c.before.before.before))

returns-3 : tie.Need-returns
unfolding bytes
returns-3 c =
    puts-same (sym (other c.before.before.before.before.before.before)) c.put_atom-2.ensures

pub put_item_spec : {M : Type 1} → statement M
put_item_spec =
    tie.close
    (tie.spec put-atom-requires (λ c. search rules) returns put-delete-requires (λ c. search rules) returns-2
    put-atom-requires-2 (λ c. search rules) returns-3)
