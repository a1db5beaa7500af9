-- What is gathered of a stretch of atoms, atom by atom: how many parts they have, and what is known of each part.
use Prim.Native.Nat.{ℕ}
use mathlib.Core.Path.{◌≡◌, sym, ◌∙◌}
use mathlib.Core.List.{List, []}
use lib.ListN.{replicate}
use Rattle.task.specs.Limits.{most_parts}
use Rattle.task.specs.Task.{Atom, part_count}
use Rattle.arcs.specs.Order.{in_part, tests}
use Rattle.arcs.specs.Stretches.{AreTests, IsStretch, stretch_in}
use Rattle.arcs.proofs.Counting.{part-count-none, Counted, counted_none}
use Rattle.arcs.proofs.PartParameters.{Kept, kept-none, in-part-none, part_small, tests-none, tests-in-part}

pub record Gathered (atoms : List Atom) (preconditions tested named : List ℕ) (count : ℕ) : Type 0 where
  pub parts : count ≡ part_count atoms
  pub counts : Counted atoms preconditions
  pub tests : Kept (tests atoms) tested
  pub names : Kept (in_part atoms) named

pub gathered_none : Gathered [] (replicate most_parts 0) (replicate most_parts 0) (replicate most_parts 0) 0
gathered_none = record {
  parts = sym part-count-none;
  counts = counted_none;
  tests = kept-none (tests []) tests-none;
  names = kept-none (in_part []) in-part-none;
}

-- once they are all passed, it is what the contract promises
module _ {w : List ℕ} {from to : ℕ} {preconditions tested named : List ℕ} {count : ℕ} (s : IsStretch w from to)
    (g : Gathered (stretch_in w from to) preconditions tested named count) where
  pub are-tests : AreTests (stretch_in w from to) preconditions tested
  are-tests = record {
    counted = g.counts.at;
    named = λ x p. g.tests.at p x;
    below = λ p x m.
        part_small w from to p x s (tests-in-part (stretch_in w from to) x p (sym (g.tests.at p x) ∙ m));
  }
