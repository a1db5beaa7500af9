-- `forecast::bytes::old_line` meets its contract: the row holds the renumbered atom, which has as many arguments as the
-- old one, so its line is the atom's (`row-line`); word 1 of the old one is its role.
use Rattle.forecast.proofs.bytes.old_line.Tie as tie
use Prim.Native.Nat.{ℕ}
use mathlib.Core.Path.{sym, ◌∙◌, ap}
use native.Mathlib.Omega.{arith}
use lib.ListN.{length, length-map}
use borrow.Author.Rules.{rules}
use Rattle.task.specs.Table.{atom_in}
use Rattle.arcs.proofs.Stretches.{atom-row}
use Rattle.tokens.specs.Writing.{new_number, renumbered}
use Rattle.forecast.specs.Counting.{row_line}
use Rattle.forecast.proofs.AtomRows.{row-line}
use Rattle.forecast.proofs.bytes.old_line.Statement.{statement}

returns : tie.Need-returns
returns c =
    let counted = c.argument_count in
    let put = c in
    let read = put in
    let a = read.args in
    let old = atom_in a.table.now a.i in
    let role = read.role_at-role.ensures.1 _ read.row_of.ensures.0 in
    c.row_size.ensures ∙
    ap length (row-line 0 (renumbered a.own read.role_at-role.result old) counted.result
    put.old_atom.ensures.0 (omega arith)
    (counted.ensures.0 ∙ sym (length-map old.args (new_number a.own))) counted.ensures.1) ∙
    ap (λ (r : ℕ). length (row_line (renumbered a.own r old))) role

pub old_line_spec : {M : Type 1} → statement M
old_line_spec =
    tie.close
    (tie.spec (λ c κs. atom-row c.requires) (λ c κs. search rules) (λ c. search rules) (λ c κs. search rules)
    (λ c. search rules) (λ c κs. search rules) (λ c κs. search rules) returns)
