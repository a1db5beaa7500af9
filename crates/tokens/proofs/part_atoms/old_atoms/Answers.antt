use Rattle.std.proofs.Common.{◌≡◌, ◌≤◌, ℕ, true, false, ◌&&◌, eqb, refl, sym, ◌∙◌, arith}
use borrow.Author.Tests.{eqb-true, eq-eqb, ne_eqb}
use Rattle.task.specs.Table.{atom_in}
use Rattle.task.specs.Turns.{RoleEnds}
use Rattle.words.proofs.Lists.{both-ft}
use Rattle.words.proofs.Loops.{run_more}
use Rattle.words.proofs.Puts.{puts_none, puts-is, puts_then, puts-length}
use Rattle.tokens.proofs.PartWords.{old-begun, old-ended, old-taken, old-left}
use Rattle.tokens.proofs.part_atoms.old_atoms.Goals.{then-part_of-here, else-part_of-here}
use Rattle.tokens.proofs.part_atoms.old_atoms.Goals as goal

-- an atom of the role is put if its part is the one
same-part : (r a p b : ℕ) → r ≡ a → p ≡ b → eqb r a && eqb p b ≡ true
same-part r a p b e f = rw (eq-eqb r a e, eq-eqb p b f) refl

other-part : (r a p b : ℕ) → r ≡ a → (p ≡ b → ⊥) → eqb r a && eqb p b ≡ false
other-part r a p b e n = rw (eq-eqb r a e, ne_eqb p b n) refl

pub loop-i-init : goal.loop-i-init
loop-i-init c =
    let a = c.args in (
      omega arith,
      refl,
      λ k l m. absurd (omega arith),
      puts-is (puts_none a.out.now a.at) refl refl _ (old-begun c.requires.role_begins),
    )

pub returns-then-not-is_of_role-clause-puts : goal.returns-then-not-is_of_role-clause-puts
returns-then-not-is_of_role-clause-puts c =
    let a = c.args in
    let i = c.loop-i.i in
    let B = c.requires.role_begins in
    let E : RoleEnds a.table.now a.first a.here.to a.role i = record {
      from = omega (arith, B.within);
      within = omega (arith, B.within);
      has = c.loop-i.invariant.2;
      stops = λ m e. both-ft (eq-eqb a.role (atom_in a.table.now i).role (sym e))
          (sym c.is_of_role.ensures ∙ c.if-not-is_of_role.true);
    } in
    puts-is c.loop-i.invariant.3 refl refl _ (old-ended B E)

pub loop-i-preserved : goal.loop-i-preserved
loop-i-preserved c =
    let a = c.args in
    let w = a.table.now in
    let h = c.loop-i in
    let i = h.i in
    let B = c.requires.role_begins in
    let from : a.here.from ≤ i = omega (arith, B.from, B.within) in
    let role = eqb-true a.role (atom_in w i).role (sym c.is_of_role.ensures ∙ c.if-not-is_of_role.false) in
    let part = c.part_of.ensures.result_value in
    let has = run_more (λ (k : ℕ). (atom_in w k).role ≡ a.role) h.invariant.2 (sym role) in
    elim c.if-part_of-here.branch [
      | then-part_of-here y ↦
          let p = puts-is (puts_then h.invariant.3 y.old_atom-next.ensures.puts _
          (old-taken a.here.own a.role a.here.part.0 w a.here.number a.here.from i from
          (same-part _ _ _ _ role (sym (sym part ∙ y.if-part_of-here.true))))) y.out-is y.next-is _ refl in
          (omega (arith, y.old_atom-next.ensures.value), puts-length p, has, p)
      | else-part_of-here y ↦
          let p = puts-is h.invariant.3 y.out-is y.next-is _
          (old-left a.here.own a.role a.here.part.0 w a.here.number a.here.from i from
          (other-part _ _ _ _ role (λ q. y.if-part_of-here.false (part ∙ sym q)))) in
          (omega arith, puts-length p, has, p)
    ]
