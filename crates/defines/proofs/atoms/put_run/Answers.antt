-- Each way out of the loop shows that `atom` does not belong to the run, so the run has ended there (`turn_end`).
use Rattle.std.proofs.Common.{◌≡◌, sym, ◌∙◌, ap, subst, arith, length}
use Rattle.words.proofs.Puts.{puts-same}
use Rattle.task.proofs.TableReads.{table-roomy}
use Rattle.text.specs.TableLines.{AtomInside}
use Rattle.text.proofs.TableAtoms.{each-inside}
use Rattle.defines.specs.ByWords.{item_at, item_in}
use Rattle.defines.proofs.TableItems.{row-schema, item-row}
use Rattle.defines.proofs.RunsPut.{Belongs, turn-first, turn-room, turn-next, turn_end}
use Rattle.defines.proofs.atoms.put_run.Goals as goal
use Rattle.defines.proofs.atoms.put_run.Goals.{Else-role_at-role}
use Rattle.defines.proofs.atoms.put_run.Goals.{then-word-schema-via-then-word-schema}
use Rattle.defines.proofs.atoms.put_run.Goals.{then-word-schema-via-else-word-schema+then-role_at-role}

pub loop-atom-init : goal.loop-atom-init
loop-atom-init c =
    let (to, run, room) = c.requires.by_index in
    turn-first c.args.table.now c.args.schema c.args.role c.args.from to run room

pub row_of-row-requires-clause-roomy : goal.row_of-row-requires-clause-roomy
row_of-row-requires-clause-roomy c = table-roomy _ c.requires.table_value

-- the atom is one of the run's schema and role
own : (c : Else-role_at-role) → Belongs c.args.table.now c.args.schema c.args.role c.loop-atom.atom
own c = record {
  inside = let e = c.atom_count-count.ensures in omega arith;
  named = sym (c.word.ensures.value ∙ row-schema c.args.table.now c.loop-atom.atom _ c.row_of-row.ensures.value) ∙
      c.if-word-schema.false;
  plays = sym (c.role_at.ensures.by_index _ c.row_of-row.ensures.value) ∙ c.if-role_at-role.false;
}

-- what is put is the atom's item
item-read : (c : Else-role_at-role) →
    item_at c.args.role c.args.table.now c.row_of-row.result ≡ item_in c.args.table.now c.loop-atom.atom
item-read c =
    item-row c.args.table.now c.loop-atom.atom c.args.role c.row_of-row.result (sym (own c).plays)
    c.row_of-row.ensures.value

pub put_item-next-requires-clause-atom_inside : goal.put_item-next-requires-clause-atom_inside
put_item-next-requires-clause-atom_inside c =
    subst (AtomInside c.args.table.now) (sym c.row_of-row.ensures.value)
    (each-inside c.args.table.now c.requires.table_value c.loop-atom.atom
    (own (goal.at.put_item-next-requires-clause-atom_inside c).Else-role_at-role).inside)

pub put_item-next-requires-clause-base_in_bounds : goal.put_item-next-requires-clause-base_in_bounds
put_item-next-requires-clause-base_in_bounds c =
    let at = (goal.at.put_item-next-requires-clause-base_in_bounds c).Else-role_at-role in
    let r = turn-room c.args.table.now c.args.schema c.args.role c.args.from c.loop-atom.invariant (own at) in
    let e = ap length (item-read at) in
    omega arith

pub loop-atom-preserved : goal.loop-atom-preserved
loop-atom-preserved c =
    let at = (goal.at.loop-atom-preserved c).Else-role_at-role in
    turn-next c.args.table.now c.args.schema c.args.role c.args.from c.loop-atom.invariant (own at)
    (puts-same (item-read at) c.put_item-next.ensures)

pub returns-then-word-schema : goal.returns-then-word-schema
returns-then-word-schema c =
    turn_end c.args.table.now c.args.schema c.args.role c.args.from c.loop-atom.invariant (λ b.
    elim c.then-word-schema.branch [
      | then-word-schema-via-then-word-schema w ↦
          w.if-word-schema.true (c.word.ensures.value ∙
          (row-schema c.args.table.now c.loop-atom.atom _ c.row_of-row.ensures.value ∙ b.named))
      | then-word-schema-via-else-word-schema+then-role_at-role w ↦
          w.if-role_at-role.true (w.role_at.ensures.by_index _ c.row_of-row.ensures.value ∙ b.plays)
    ])

pub returns : goal.returns
returns c =
    λ to run.
    let e = c.atom_count-count.ensures in
    let (over, puts) = turn_end c.args.table.now c.args.schema c.args.role c.args.from c.loop-atom.invariant
    (λ b. let l = b.inside in omega arith) to run in
    let end = run.within in
    (omega arith, puts)
