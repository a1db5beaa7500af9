-- Note 6 on small tasks, computed: document 01's M, a swap whose first part carries its `differ` line, and tasks on
-- both sides of 2 to the power 63, before the split or after it alone. Bytes are counted on the split as written.
use Rattle.task.specs.declared.Place.TheVariants as place
use Prim.Native.Nat.{ℕ, ◌+◌, ◌^◌}
use mathlib.Core.Path.{◌≡◌, refl}
use mathlib.Core.List.{List, [], ◌∷◌, ◌++◌}
use Rattle.task.specs.Answers.{Told, result, refused}
use Rattle.task.specs.Task.{Atom, Fact, Task, precondition, addition, deletion}
use Rattle.task.specs.Table.{words_of}
use Rattle.forecast.specs.Forecast.{sizes_outcome}

-- an atom of role r in part p
abbrev atom : ℕ → ℕ → ℕ → List ℕ → Atom
atom r p k args = record { role = r; pred = k; part = p; args = args }

abbrev fact : ℕ → List ℕ → Fact
fact k args = record { pred = k; args = args }

abbrev sizes_for : Task → Told
sizes_for t = (sizes_outcome (words_of t)).told

-- ---- M
-- "a logger's move x, y, z", in three parts
unfoldable pub move : Task
move = record {
  objects = 3;
  arities = 2 ∷ 1 ∷ [];
  schemas = record {
    params = 3;
    pairs = [];
    atoms =
        atom precondition 0 0 (0 ∷ 1 ∷ []) ∷
        atom precondition 0 1 (0 ∷ []) ∷
        atom precondition 1 1 (2 ∷ []) ∷
        atom addition 1 0 (0 ∷ 2 ∷ []) ∷
        atom addition 2 1 (1 ∷ []) ∷
        atom deletion 0 0 (0 ∷ 1 ∷ []) ∷
        atom deletion 1 1 (2 ∷ []) ∷ [];
  } ∷ [];
  init = fact 0 (0 ∷ 1 ∷ []) ∷ fact 1 (0 ∷ []) ∷ fact 1 (2 ∷ []) ∷ [];
  goal = fact 0 (0 ∷ 2 ∷ []) ∷ [];
}

-- three objects: 3 ^ 3 instances before, 3 ^ 2 + 3 ^ 2 + 3 ^ 1 after
pub move-sizes : sizes_for move ≡ result (7 ∷ 3 ∷ 22 ∷ 358 ∷ 27 ∷ 21 ∷ [])
unfolding move sizes_outcome words_of
move-sizes = refl

-- ---- a `differ` line
-- two piers, 0 and 1, swap what lies there, 2 and 3, where they are linked; a part for each pier, the link in the first
unfoldable pub swap : Task
swap = record {
  objects = 4;
  arities = 2 ∷ 2 ∷ [];
  schemas = record {
    params = 4;
    pairs = record { lower = 0; higher = 1 } ∷ [];
    atoms =
        atom precondition 0 0 (0 ∷ 2 ∷ []) ∷
        atom precondition 1 0 (1 ∷ 3 ∷ []) ∷
        atom precondition 0 1 (0 ∷ 1 ∷ []) ∷
        atom addition 0 0 (0 ∷ 3 ∷ []) ∷
        atom addition 1 0 (1 ∷ 2 ∷ []) ∷
        atom deletion 0 0 (0 ∷ 2 ∷ []) ∷
        atom deletion 1 0 (1 ∷ 3 ∷ []) ∷ [];
  } ∷ [];
  init = fact 0 (0 ∷ 2 ∷ []) ∷ fact 0 (1 ∷ 3 ∷ []) ∷ fact 1 (0 ∷ 1 ∷ []) ∷ [];
  goal = fact 0 (0 ∷ 3 ∷ []) ∷ [];
}

-- the first part has both piers, and its line is counted
pub swap-sizes : sizes_for swap ≡ result (8 ∷ 2 ∷ 22 ∷ 372 ∷ 4 ^ 4 ∷ (4 ^ 4 + 4 ^ 3) ∷ [])
unfolding swap sizes_outcome words_of
swap-sizes = refl

-- ---- 2 to the power 63
-- three tests of nine parameters by predicate k, in parts p, q and r
abbrev tests : ℕ → ℕ → ℕ → ℕ → List Atom
tests k p q r =
    atom precondition p k (0 ∷ 1 ∷ 2 ∷ 3 ∷ []) ∷
    atom precondition q k (4 ∷ 5 ∷ 6 ∷ 7 ∷ []) ∷
    atom precondition r k (8 ∷ 0 ∷ 0 ∷ 0 ∷ []) ∷ []

-- so many objects, and a schema of nine parameters
unfoldable pub nine : ℕ → List Atom → Task
nine objects atoms = record {
  objects = objects;
  arities = 4 ∷ 4 ∷ [];
  schemas = record { params = 9; pairs = []; atoms = atoms } ∷ [];
  init = [];
  goal = [];
}

-- 127 objects stay below it
pub nine-below : sizes_for (nine 127 (tests 0 0 0 0)) ≡
    result (3 ∷ 1 ∷ 4 ∷ 124 ∷ 127 ^ 9 ∷ 127 ^ 9 ∷ [])
unfolding nine sizes_outcome words_of
nine-below = refl

-- 128 reach it
pub nine-reached : sizes_for (nine 128 (tests 0 0 0 0)) ≡ refused 24 place.Nowhere []
unfolding nine sizes_outcome words_of
nine-reached = refl

-- before the split alone: no part has more than four parameters
pub reached-before : sizes_for (nine 128 (tests 0 0 1 2)) ≡ refused 24 place.Nowhere []
unfolding nine sizes_outcome words_of
reached-before = refl

-- after it alone: two parts have all nine
pub reached-after : sizes_for (nine 127 (tests 0 0 0 0 ++ tests 1 1 1 1)) ≡
    refused 24 place.Nowhere []
unfolding nine sizes_outcome words_of
reached-after = refl

-- "Refused as splitting would, then 24": two parts that test each other's additions
pub circular-first : sizes_for (nine 128 (
    atom precondition 0 0 (0 ∷ 1 ∷ 2 ∷ 3 ∷ []) ∷
    atom precondition 1 1 (4 ∷ 5 ∷ 6 ∷ 7 ∷ []) ∷
    atom addition 1 0 (8 ∷ 0 ∷ 0 ∷ 0 ∷ []) ∷
    atom addition 0 1 (8 ∷ 0 ∷ 0 ∷ 0 ∷ []) ∷ [])) ≡ refused 9 (place.Schema 0) []
unfolding nine sizes_outcome words_of
circular-first = refl
