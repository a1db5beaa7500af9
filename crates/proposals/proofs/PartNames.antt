-- A part has a parameter exactly where one of its atoms names it.
use Prim.Native.Nat.{ℕ}
use mathlib.Core.Path.{◌≡◌, sym}
use mathlib.Core.Bool.{true, ◌&&◌}
use mathlib.Core.List.{List}
use lib.Dec.{eqb}
use borrow.Author.Tests.{eqb-true, eq-eqb}
use Rattle.words.proofs.Lists.{and_left, and_right, and_both, In, any-in, in-any}
use Rattle.task.specs.Task.{Atom, names}
use Rattle.arcs.specs.Order.{in_part}

-- an atom of part p that names x
pub record Naming (atoms : List Atom) (x p : ℕ) : Type 0 where
  pub atom : Atom
  pub one : In atom atoms
  pub part : atom.part ≡ p
  pub names-it : names x atom ≡ true

pub part-names : (atoms : List Atom) (x p : ℕ) → in_part atoms x p ≡ true → Naming atoms x p
unfolding in_part
part-names atoms x p h =
    let (a, i, e) = any-in (λ a. eqb p a.part && names x a) atoms h in
    record {
      atom = a;
      one = i;
      part = sym (eqb-true p a.part (and_left (eqb p a.part) _ e));
      names-it = and_right (eqb p a.part) _ e;
    }

pub names-part : (atoms : List Atom) (x p : ℕ) → Naming atoms x p → in_part atoms x p ≡ true
unfolding in_part
names-part atoms x p n =
    in-any (λ a. eqb p a.part && names x a) n.one
    (and_both _ _ (eq-eqb p n.atom.part (sym n.part)) n.names-it)
