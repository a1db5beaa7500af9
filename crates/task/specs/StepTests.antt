-- A step's words behind its schema, as the inner functions test them: all at once, each against its limit; then those
-- of each pair that must differ, by rows of pairs as a table has them.
-- No promise of an entry point cites these.
use Rattle.std.specs.Prelude.{ℕ, ◌+◌, ◌-◌, ◌*◌, ◌<◌, Bool, not, ◌&&◌, ◌||◌, List, ◌++◌, get_or, replicate, eqb, ltb}
use Rattle.words.specs.Lists.{all, up_to}
use Rattle.words.specs.Words.{words_at}
use Rattle.task.specs.Limits.{most_parameters, pair_size, step_size}
use Rattle.task.specs.Layout.{head_in, pairs_base}
use Rattle.task.specs.Task.{Pair}

-- what an object is below, twelve times, then what 0 is below: those of a step with n parameters begin at 12 - n
unfoldable pub limits_for : ℕ → List ℕ
limits_for objects = replicate most_parameters objects ++ replicate most_parameters 1

-- word k behind the schema of a step with n parameters is below its limit
abbrev pub is_within : List ℕ → ℕ → ℕ → List ℕ → ℕ → Bool
is_within w i n limits k = ltb (get_or w (i + k) 0) (get_or limits (most_parameters - n + k) 0)

-- "one object per parameter, zeros": n words from a place on are below the count of objects, and the words behind them
-- are 0
abbrev pub objects_then_zeros : ℕ → List ℕ → ℕ → ℕ → Bool
objects_then_zeros objects w i n =
    all (λ o. ltb o objects) (words_at w i n) && all (λ a. eqb a 0) (words_at w (i + n) (most_parameters - n))

-- "three words per pair (schema, lower, higher)": row i of pairs whose words begin at a place
abbrev pub row_schema : List ℕ → ℕ → ℕ → ℕ
row_schema rows base i = get_or rows (base + pair_size * i) 0

abbrev pub row_pair : List ℕ → ℕ → ℕ → Pair
row_pair rows base i = record {
  lower = get_or rows (base + pair_size * i + 1) 0;
  higher = get_or rows (base + pair_size * i + 2) 0;
}

-- the words of a pair's objects differ, of the words from a place on
abbrev pub words_differ : List ℕ → ℕ → Pair → Bool
words_differ steps at q = not (eqb (get_or steps (at + q.lower) 0) (get_or steps (at + q.higher) 0))

-- and so do those of row i, where it is one of schema s
abbrev pub apart_at : List ℕ → ℕ → List ℕ → ℕ → ℕ → ℕ → Bool
apart_at rows base steps at s i = not (eqb s (row_schema rows base i)) || words_differ steps at (row_pair rows base i)

-- the first n rows name parameters that a step has words for
abbrev pub PairsFew : List ℕ → ℕ → ℕ → Type 0
PairsFew rows base n = (i : ℕ) → i < n →
    ((row_pair rows base i).lower < most_parameters) × ((row_pair rows base i).higher < most_parameters)

-- the step at index i of a list has different objects at each pair of a table that names its schema
abbrev pub rows_apart : List ℕ → List ℕ → ℕ → Bool
rows_apart w steps i =
    let at = step_size * i in all (apart_at w (pairs_base w) steps (at + 1) (get_or steps at 0)) (up_to (head_in w).pairs)
