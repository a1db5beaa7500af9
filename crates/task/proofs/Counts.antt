-- The seven counts of a table within their limits, by name, and what follows with the arities: every word of a pair and
-- of an atom lies in the table.
use Prim.Native.Nat.{ℕ, ◌≤◌}
use mathlib.Core.Path.{◌≡◌, sym}
use mathlib.Core.Bool.{true, false}
use mathlib.Core.List.{List}
use native.Mathlib.Omega.{arith}
use lib.ListN.{length}
use lib.Dec.{leb}
use borrow.Author.Tests.{leb-true, le-leb}
use Rattle.words.specs.Lists.{every}
use Rattle.task.specs.Layout.{head_in, arity_in}
use Rattle.task.specs.Limits.{table_words, most_pairs}
use Rattle.task.specs.WordTests.{count_tests, arities_fit, Roomy}
use Rattle.words.proofs.Lists.{false-if, every-at, met-none, met-more, met_every}
use Rattle.words.proofs.Ranges.{all-below}

pub record Counted (w : List ℕ) : Type 0 where
  pub some-object : 1 ≤ (head_in w).objects
  pub objects : (head_in w).objects ≤ 1000
  pub some-pred : 1 ≤ (head_in w).predicates
  pub preds : (head_in w).predicates ≤ 400
  pub schemas : (head_in w).schemas ≤ 200
  pub atoms : (head_in w).schema_atoms ≤ 1000
  pub inits : (head_in w).initial_atoms ≤ 500
  pub goals : (head_in w).goal_atoms ≤ 100
  pub pairs : (head_in w).pairs ≤ most_pairs

pub counted : (w : List ℕ) → every (count_tests w) ≡ true → Counted w
unfolding count_tests
counted w h =
    let at = every-at (count_tests w) h in
    record {
      some-object = leb-true _ _ (at 0);
      objects = leb-true _ _ (at 1);
      some-pred = leb-true _ _ (at 2);
      preds = leb-true _ _ (at 3);
      schemas = leb-true _ _ (at 4);
      atoms = leb-true _ _ (at 5);
      inits = leb-true _ _ (at 6);
      goals = leb-true _ _ (at 7);
      pairs = leb-true _ _ (at 8);
    }

pub all-counted : (w : List ℕ) → Counted w → true ≡ every (count_tests w)
unfolding count_tests
all-counted w c =
    sym (met_every {bs = count_tests w}
    (met-more (le-leb _ _ c.some-object) (met-more (le-leb _ _ c.objects) (met-more (le-leb _ _ c.some-pred)
    (met-more (le-leb _ _ c.preds) (met-more (le-leb _ _ c.schemas) (met-more (le-leb _ _ c.atoms)
    (met-more (le-leb _ _ c.inits) (met-more (le-leb _ _ c.goals) (met-more (le-leb _ _ c.pairs)
    met-none))))))))))

pub not-counted : (w : List ℕ) → (Counted w → ⊥) → false ≡ every (count_tests w)
not-counted w bad = sym (false-if (every (count_tests w)) (λ h. bad (counted w h)))

pub roomy : (w : List ℕ) → table_words ≤ length w → every (count_tests w) ≡ true → arities_fit w ≡ true → Roomy w
unfolding table_words arities_fit
roomy w long h a =
    let c = counted w h in
    record {
      inside = omega arith;
      few = omega arith;
      arities = λ p l. leb-true (arity_in w p) 4 (all-below (λ p. leb (arity_in w p) 4) (head_in w).predicates a p l);
    }
