-- What the first look over a list of steps tells, at schemas and objects and not yet at pairs; and the second, at these.
-- No promise of an entry point cites these.
use Rattle.std.specs.Prelude.{ℕ, ◌+◌, ◌*◌, ◌≤◌, ◌<◌, ◌≡◌, true, false, List, length, Option, None, Some}
use Rattle.task.specs.Limits.{step_size}
use Rattle.task.specs.Table.{task_of}
use Rattle.task.specs.Run.{is_step_at}
use Rattle.task.specs.StepTests.{rows_apart}

-- step k is whole, and a step where its pairs are apart
abbrev pub ChoiceAt : List ℕ → List ℕ → ℕ → Type 0
ChoiceAt w steps k =
    (step_size * k + step_size ≤ length steps) × (is_step_at (task_of w) steps k ≡ rows_apart w steps k)

-- the first n steps are so
abbrev pub ChoicesBefore : List ℕ → List ℕ → ℕ → Type 0
ChoicesBefore w steps n = (k : ℕ) → k < n → ChoiceAt w steps k

-- of the steps begun the first that is none whatever its pairs, if any
unfoldable pub ChoiceTold : List ℕ → List ℕ → ℕ → Option ℕ → Type 0
ChoiceTold w steps begun (Some i) =
    (i < begun) × (is_step_at (task_of w) steps i ≡ false) × ChoicesBefore w steps i
ChoiceTold w steps begun None = ChoicesBefore w steps begun

-- the first n steps keep the pairs of their schemas apart
abbrev pub ApartBefore : List ℕ → List ℕ → ℕ → Type 0
ApartBefore w steps n = (k : ℕ) → k < n → rows_apart w steps k ≡ true

-- of so many steps the first that doesn't, if any
unfoldable pub EqualTold : List ℕ → List ℕ → ℕ → Option ℕ → Type 0
EqualTold w steps end (Some i) = (i < end) × (rows_apart w steps i ≡ false) × ApartBefore w steps i
EqualTold w steps end None = ApartBefore w steps end
