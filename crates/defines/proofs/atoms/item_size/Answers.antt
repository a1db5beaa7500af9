-- Each branch gives the bytes that the role's item takes. An atom takes few bytes (`formula_at-most`), so no sum wraps.
use Rattle.std.proofs.Common.{ℕ, ◌≡◌, ◌+◌, ◌≤◌, List, arith, sym, ◌∙◌, ap, subst, length, get_or}
use Rattle.task.specs.Task.{deletion}
use Rattle.task.specs.Layout.{atom_base}
use Rattle.task.proofs.TableReads.{table-roomy}
use Rattle.text.specs.Lines.{bytes}
use Rattle.text.specs.TableLines.{AtomInside}
use Rattle.text.proofs.TableAtoms.{each-inside}
use Rattle.defines.specs.ByWords.{item_at, formula_at}
use Rattle.defines.proofs.Formulas.{formula_at-most, item-first, item-other, delete-long}
use Rattle.defines.proofs.TableItems.{item-word}
use Rattle.defines.proofs.atoms.item_size.Goals as goal

pub row_of-row-requires-clause-roomy : goal.row_of-row-requires-clause-roomy
row_of-row-requires-clause-roomy c = table-roomy _ c.requires.table_value

pub atom_size-requires-clause-atom_inside : goal.atom_size-requires-clause-atom_inside
atom_size-requires-clause-atom_inside c =
    subst (AtomInside c.args.table.now) (sym c.row_of-row.ensures.value)
    (each-inside c.args.table.now c.requires.table_value c.args.i c.requires.i_bound)

pub atom_size-atom-requires-clause-atom_inside : goal.atom_size-atom-requires-clause-atom_inside
atom_size-atom-requires-clause-atom_inside c =
    subst (AtomInside c.args.table.now) (sym c.row_of-row.ensures.value)
    (each-inside c.args.table.now c.requires.table_value c.args.i c.requires.i_bound)

pub returns-then-role-gt-DELETION : goal.returns-then-role-gt-DELETION
unfolding bytes
returns-then-role-gt-DELETION c =
    let w = c.args.table.now in
    let row = c.row_of-row.result in
    let role = c.role_at-role.ensures.value in
    c.atom_size.ensures ∙
    ap length (sym (item-other w row (get_or w (row + 1) 0) (omega arith)) ∙
    item-word w c.args.i row c.row_of-row.ensures.value)

pub returns-then-role-lt-DELETION : goal.returns-then-role-lt-DELETION
unfolding bytes
returns-then-role-lt-DELETION c =
    let w = c.args.table.now in
    let row = c.row_of-row.result in
    let role = c.role_at-role.ensures.value in
    c.atom_size-atom.ensures ∙
    ap length (sym (item-first w row (get_or w (row + 1) 0) (omega arith)) ∙
    item-word w c.args.i row c.row_of-row.ensures.value)

-- an atom over parameters is small
small : (w : List ℕ) (i row n : ℕ) → AtomInside w (atom_base w i) → row ≡ atom_base w i →
    n ≡ length (formula_at (bytes " ?x") w row) → n ≤ 41
unfolding bytes
small w i row n inside e is =
    let m = formula_at-most w row (bytes " ?x") (subst (AtomInside w) (sym e) inside) (omega arith) in
    omega arith

pub overflow_add-result : goal.overflow_add-result
unfolding bytes
overflow_add-result c =
    let l = small c.args.table.now c.args.i _ _ (each-inside c.args.table.now c.requires.table_value c.args.i
    c.requires.i_bound) c.row_of-row.ensures.value c.atom_size-atom.ensures in
    omega arith

pub overflow_add-result-2 : goal.overflow_add-result-2
unfolding bytes
overflow_add-result-2 c =
    let l = small c.args.table.now c.args.i _ _ (each-inside c.args.table.now c.requires.table_value c.args.i
    c.requires.i_bound) c.row_of-row.ensures.value c.atom_size-atom.ensures in
    omega arith

pub returns : goal.returns
unfolding bytes
returns c =
    let w = c.args.table.now in
    let row = c.row_of-row.result in
    let role = c.role_at-role.ensures.value in
    let e : get_or w (row + 1) 0 ≡ deletion = omega arith in
    let i = ap (λ (r : ℕ). length (item_at r w row)) e in
    let d = delete-long w row in
    let a = c.atom_size-atom.ensures in
    let p = ap length (item-word w c.args.i row c.row_of-row.ensures.value) in
    omega arith
