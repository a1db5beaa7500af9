-- The definitions give the PDDL text of M, computed, and those of tasks with empty lists; lent one byte less than M's
-- text takes, 18 leaves all as found.
use Rattle.task.specs.declared.Place.TheVariants as place
use mathlib.Core.Path.{◌≡◌, refl}
use mathlib.Core.List.{[], ◌∷◌, ◌++◌}
use Rattle.task.specs.Answers.{result, refused}
use Rattle.text.specs.Lines.{bytes}
use Rattle.examples.specs.Examples.{m, lent}
use Rattle.examples.specs.PddlExamples.{written_into, pddl_of_m, bare, pddl_of_bare, lone, pddl_of_lone}

pub M-written : written_into 330 m ≡ record { told = result (329 ∷ []); buffer = bytes pddl_of_m ++ (7 ∷ []) }
unfolding written_into m pddl_of_m bytes
M-written = refl

pub M-too-long : written_into 328 m ≡ record { told = refused 18 place.Nowhere []; buffer = lent 328 }
unfolding written_into m lent
M-too-long = refl

pub bare-written : written_into 109 bare ≡ record { told = result (108 ∷ []); buffer = bytes pddl_of_bare ++ (7 ∷ []) }
unfolding written_into bare pddl_of_bare bytes
bare-written = refl

pub lone-written : written_into 182 lone ≡ record { told = result (181 ∷ []); buffer = bytes pddl_of_lone ++ (7 ∷ []) }
unfolding written_into lone pddl_of_lone bytes
lone-written = refl
