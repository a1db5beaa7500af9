-- `arcs::atoms::gives_arc` meets its contract: atoms of different predicates give no arc (`by-predicate`), nor do roles
-- that are in no order (`by-role`); else the pairs decide (`by-pair`), and none is held where there is none.
use mathlib.Core.Path.{◌≡◌, refl, sym, ◌∙◌, ap}
use mathlib.Core.Bool.{true, false, not}
use mathlib.Core.List.{List}
use borrow.Author.Rules.{rules}
use borrow.Author.Tests.{eq-eqb, ne_eqb}
use Rattle.task.specs.Task.{Atom, Pair}
use Rattle.task.specs.Table.{atom_in}
use Rattle.arcs.specs.Order.{role_before, hold_pair, gives_arc}
use Rattle.arcs.proofs.Arcs.{none-held}
use Rattle.arcs.proofs.ArcSets.{no-arc}
use Rattle.arcs.proofs.Stretches.{atom-row}
use Rattle.arcs.proofs.atoms.gives_arc.Statement.{statement}
use Rattle.arcs.proofs.atoms.gives_arc.Tie as tie

by-predicate : (pairs : List Pair) (a b : Atom) → (a.pred ≡ b.pred → ⊥) → false ≡ gives_arc pairs a b
unfolding gives_arc
by-predicate pairs a b e = rw (ne_eqb a.pred b.pred e) refl

by-pair : (pairs : List Pair) (a b : Atom) → a.pred ≡ b.pred → role_before a.role b.role ≡ true →
    not (hold_pair pairs a.args b.args) ≡ gives_arc pairs a b
unfolding gives_arc
by-pair pairs a b e r = rw (eq-eqb a.pred b.pred e, r) refl

-- the two atoms
abbrev first : tie.Start → Atom
first s = atom_in s.args.table.now s.args.i

abbrev second : tie.Start → Atom
second s = atom_in s.args.table.now s.args.j

predicate-requires : tie.Need-predicate-requires
predicate-requires c κs = atom-row c.requires.0

predicate-requires-2 : tie.Need-predicate-requires-2
predicate-requires-2 c κs = atom-row c.requires.1.0

returns : tie.Need-returns-then-predicate
returns c = λ pairs h.
    let read = c in
    let s = read in
    by-predicate pairs (first s.before.before.before.before) (second s.before.before.before.before)
    (λ e. c.if-predicate.true (read.predicate.ensures ∙ (e ∙ sym read.predicate-2.ensures)))

returns-2 : tie.Need-returns-then-not-has_role
returns-2 c = λ pairs h.
    let s = c in
    sym (no-arc pairs (first s.before.before.before.before.before.before) (second s.before.before.before.before.before.before)
    (sym (s.requires.1.1 (second s.before.before.before.before.before.before).role) ∙ (sym c.has_role.ensures ∙ c.if-not-has_role.true)))

-- ---- one predicate, and roles in order
abbrev start : tie.Else-not-has_role → tie.Start
start c = c.before.before.before.before.before.before

same : (c : tie.Else-not-has_role) → (first (start c)).pred ≡ (second (start c)).pred
same c =
    let read = c in
    sym read.predicate.ensures ∙ (c.if-predicate.false ∙ read.predicate-2.ensures)

in-order : (c : tie.Else-not-has_role) → role_before (first (start c)).role (second (start c)).role ≡ true
in-order c =
    sym ((start c).requires.1.1 (second (start c)).role)
    ∙ (sym c.has_role.ensures ∙ c.if-not-has_role.false)

hold-pair-requires : tie.Need-hold_pair-requires
hold-pair-requires c κs =
    let s = start c.before in
    (s.requires.0, (s.requires.1.0, same c.before))

returns-3 : tie.Need-returns-then-paired
returns-3 c = λ pairs h.
    let d = c in
    ap not (c.hold_pair.ensures pairs h.partners)
    ∙ by-pair pairs (first (start d.before.before)) (second (start d.before.before)) (same d.before.before) (in-order d.before.before)

returns-4 : tie.Need-returns
returns-4 c = λ pairs h.
    let d = c in
    let xs = (first (start d.before)).args in
    let ys = (second (start d.before)).args in
    let none = ap (λ (ps : List Pair). hold_pair ps xs ys) (h.unpaired c.if-paired.false) ∙ none-held xs ys in
    sym (ap not none) ∙ by-pair pairs (first (start d.before)) (second (start d.before)) (same d.before) (in-order d.before)

pub gives_arc_spec : {M : Type 1} → statement M
gives_arc_spec =
    tie.close
    (tie.spec predicate-requires predicate-requires-2 returns (λ c κs. search rules) returns-2 hold-pair-requires
    returns-3 returns-4)
