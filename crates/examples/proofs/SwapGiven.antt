-- The definitions give each result of the swap, computed: those of the list; and of its steps, where the link comes
-- last and its part alone carries the pair.
use Rattle.task.specs.declared.Place.TheVariants as place
use mathlib.Core.Path.{◌≡◌, refl}
use mathlib.Core.List.{[], ◌∷◌, ◌++◌}
use Rattle.task.specs.Answers.{result, refused}
use Rattle.text.specs.Lines.{bytes}
use Rattle.examples.specs.Examples.{Given, steps, records, lent}
use Rattle.examples.specs.PddlExamples.{written_into}
use Rattle.examples.specs.SwapExamples.{swap_examples, unfolded_swap, folded_swap, ran_swap, unlinked, apart}
use Rattle.examples.specs.SwapExamples.{pddl_of_unlinked}

pub swap-given : Given swap_examples
unfolding swap_examples Given
swap-given = (refl, (refl, (refl, (refl, (refl, (refl, (refl, (refl, (refl, (refl, (refl, tt)))))))))))

-- ---- steps that keep the piers apart
pub swap_runs : ran_swap ((0 ∷ 0 ∷ 1 ∷ 2 ∷ 3 ∷ []) ∷ []) ≡
    record {
      told = result (3 ∷ 1 ∷ []);
      buffer = records ((0 ∷ 0 ∷ 3 ∷ []) ∷ (0 ∷ 1 ∷ 2 ∷ []) ∷ (1 ∷ 0 ∷ 1 ∷ []) ∷ []);
    }
unfolding ran_swap records
swap_runs = refl

pub swap-unfolds : unfolded_swap ((0 ∷ 0 ∷ 1 ∷ 2 ∷ 3 ∷ []) ∷ []) 40 ≡
    record {
      told = result (3 ∷ []);
      buffer = steps ((0 ∷ 0 ∷ 2 ∷ 3 ∷ []) ∷ (1 ∷ 1 ∷ 2 ∷ 3 ∷ []) ∷ (2 ∷ 0 ∷ 1 ∷ []) ∷ []) ++ lent 1;
    }
unfolding unfolded_swap steps lent
swap-unfolds = refl

-- ---- "A step with equal objects there isn't a step of the task (12)": running, unfolding, and folding its parts
pub equal-not-run : (ran_swap ((0 ∷ 1 ∷ 1 ∷ 2 ∷ 3 ∷ []) ∷ [])).told ≡ refused 12 (place.Step 0) []
unfolding ran_swap
equal-not-run = refl

pub equal-not-unfolded : unfolded_swap ((0 ∷ 1 ∷ 1 ∷ 2 ∷ 3 ∷ []) ∷ []) 40 ≡
    record { told = refused 12 (place.Step 0) []; buffer = lent 40 }
unfolding unfolded_swap lent
equal-not-unfolded = refl

pub equal-part : folded_swap ((0 ∷ 1 ∷ 2 ∷ 3 ∷ []) ∷ (1 ∷ 1 ∷ 2 ∷ 3 ∷ []) ∷ (2 ∷ 1 ∷ 1 ∷ []) ∷ []) 14 ≡
    record { told = refused 12 (place.Step 2) []; buffer = lent 14 }
unfolding folded_swap lent
equal-part = refl

-- "An unfinished beginning needs to fit the block of some choice of objects, and only the pairs that its own parts
-- carry must differ in it": of equal piers, so that no step completes it
pub equal-unfinished : folded_swap ((0 ∷ 1 ∷ 2 ∷ 3 ∷ []) ∷ (1 ∷ 1 ∷ 2 ∷ 3 ∷ []) ∷ []) 14 ≡
    record { told = refused 14 (place.Step 2) []; buffer = lent 14 }
unfolding folded_swap lent
equal-unfinished = refl

-- ---- PDDL
pub unlinked-written : written_into 369 (unlinked apart) ≡
    record { told = result (368 ∷ []); buffer = bytes pddl_of_unlinked ++ (7 ∷ []) }
unfolding written_into unlinked apart pddl_of_unlinked bytes
unlinked-written = refl
