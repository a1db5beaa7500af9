-- Runs of atoms of one schema and role, as `put_run` puts them. In a turn of its loop, what it put and what is still to
-- come make the run: an atom that has schema and role is the run's next, and at any other, or behind the last atom, the
-- run has ended. Its callers know the run by other numbers: the schema as code holds it, and the place where the run
-- before it ended.
use Prim.Native.Nat.{ℕ, ◌+◌, ◌≤◌, ◌<◌}
use mathlib.Core.Path.{◌≡◌, sym, ◌∙◌, ap, subst}
use mathlib.Core.List.{List, ◌++◌}
use native.Mathlib.Omega.{arith}
use native.Mathlib.Decide.{dec_lt}
use lib.ListN.{length}
use Rattle.words.specs.Putting.{Puts}
use Rattle.words.proofs.Puts.{puts-same, Going, going_start, going-left, going-room, going_on, going_end}
use Rattle.task.specs.Layout.{atom_total}
use Rattle.task.specs.Table.{atom_in, schema_number_in}
use Rattle.text.proofs.Onwards.{onwards, onwards-next, onwards-none}
use Rattle.defines.specs.ByWords.{item_in, items_in, RoleRun}
use Rattle.defines.proofs.TableItems.{items-onwards}

-- ---- the end of a run
-- an atom of the table that has schema and role
pub record Belongs (w : List ℕ) (schema role i : ℕ) : Type 0 where
  pub inside : i < atom_total w
  pub named : schema_number_in w i ≡ schema
  pub plays : (atom_in w i).role ≡ role

module _ (w : List ℕ) (schema role from : ℕ) where
  -- a run that reaches it goes on
  run_on : {to i : ℕ} → RoleRun w schema role from to → i ≤ to → Belongs w schema role i → i < to
  run_on {to} {i} run l b = elim (dec_lt i to) [
    | yes m ↦ m
    | no m ↦
        let e : to ≡ i = omega arith in
        absurd (run.stops (let h = b.inside in omega arith) (ap (schema_number_in w) e ∙ b.named)
        (ap (λ (k : ℕ). (atom_in w k).role) e ∙ b.plays))
  ]

  -- each of the run is one
  run-has : {to i : ℕ} → RoleRun w schema role from to → from ≤ i → i < to → Belongs w schema role i
  run-has {i = i} run l m = record {
    inside = let h = run.within in omega arith;
    named = (run.has i l m).0;
    plays = (run.has i l m).1;
  }

  -- so one end is no later than another
  run-least : {to end : ℕ} → RoleRun w schema role from to → RoleRun w schema role from end → to ≤ end
  run-least {to} {end} a b = elim (dec_lt end to) [
    | yes l ↦ let m = run_on b (omega arith) (run-has a b.ordered l) in omega arith
    | no l ↦ omega arith
  ]

  -- ---- turns of the loop
  pub record Turn (lent : List ℕ) (at atom : ℕ) (text : List ℕ) (next : ℕ) : Type 0 where
    pub to : ℕ
    pub run : RoleRun w schema role from to
    pub begun : from ≤ atom
    pub within : atom ≤ to
    pub going : Going lent at (items_in w from to) (onwards (item_in w) atom to) text next

  pub turn-first : {lent : List ℕ} {at : ℕ} (to : ℕ) → RoleRun w schema role from to →
      at + length (items_in w from to) ≤ length lent → Turn lent at from lent at
  turn-first to run room = record {
    to = to;
    run = run;
    begun = omega arith;
    within = run.ordered;
    going = going-left (items-onwards w from to) (going_start room);
  }

  module _ {lent : List ℕ} {at atom : ℕ} {text : List ℕ} {next : ℕ} (turn : Turn lent at atom text next) where
    -- what is to come is the atom, and then those behind it
    to-come : Belongs w schema role atom →
        Going lent at (items_in w from turn.to) (item_in w atom ++ onwards (item_in w) (atom + 1) turn.to) text next
    to-come b =
        going-left (onwards-next (item_in w) atom turn.to (run_on turn.run turn.within b)) turn.going

    pub turn-room : Belongs w schema role atom → next + length (item_in w atom) ≤ length text
    turn-room b = going-room (item_in w atom) (onwards (item_in w) (atom + 1) turn.to) (to-come b)

    pub turn-next : Belongs w schema role atom → {out : List ℕ} {end : ℕ} → Puts text next (item_in w atom) out end →
        Turn lent at (atom + 1) out end
    turn-next b p =
        let l = run_on turn.run turn.within b in
        let m = turn.begun in
        record {
          to = turn.to;
          run = turn.run;
          begun = omega arith;
          within = omega arith;
          going = going_on (to-come b) p;
        }

    pub turn_end : (Belongs w schema role atom → ⊥) → (to : ℕ) → RoleRun w schema role from to → (atom ≡ to) ×
        Puts lent at (items_in w from to) text next
    turn_end none to run =
        let a = run-least run turn.run in
        let b = run-least turn.run run in
        let same : turn.to ≡ to = omega arith in
        let begun = turn.begun in
        let within = turn.within in
        let over : atom ≡ turn.to = elim (dec_lt atom turn.to) [
          | yes l ↦ absurd (none (run-has turn.run begun l))
          | no l ↦ omega arith
        ] in (
          over ∙ same,
          puts-same (ap (items_in w from) same)
              (going_end (going-left (onwards-none (item_in w) atom turn.to (omega arith)) turn.going)),
        )

-- ---- what callers ask for, and what they get
module _ {w : List ℕ} {schema role from to n i : ℕ} (run : RoleRun w schema role from to) (named : n ≡ schema)
    (begins : i ≡ from) where
  run-there : RoleRun w n role i to
  run-there =
      subst (λ (x : ℕ). RoleRun w x role i to) (sym named)
      (subst (λ (x : ℕ). RoleRun w schema role x to) (sym begins) run)

  same-items : items_in w i to ≡ items_in w from to
  same-items = ap (λ (x : ℕ). items_in w x to) begins

  pub run-asked : (at : ℕ) {room : ℕ} → at + length (items_in w from to) ≤ room →
      (x : ℕ) × RoleRun w n role i x × (at + length (items_in w i x) ≤ room)
  run-asked at h = (to, run-there, let e = ap length same-items in omega arith)

  module _ {v u : List ℕ} {at next atom : ℕ}
      (given : (x : ℕ) → RoleRun w n role i x → (atom ≡ x) × Puts v at (items_in w i x) u next) where
    pub run_ends : atom ≡ to
    run_ends = (given to run-there).0

    pub run-puts : Puts v at (items_in w from to) u next
    run-puts = puts-same same-items (given to run-there).1
