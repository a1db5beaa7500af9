-- What an entry point tells a C host, which takes numbers alone.
use Rattle.std.specs.Prelude.{ℕ, ◌≡◌}
use Rattle.task.specs.Answers.{Told, told_number, told_place}

-- the answer is 0 for a result, else the refusal's number; the number lent for the place is the place's, or 0
abbrev pub Tells : Told → ℕ → ℕ → Type 0
Tells told number place = (number ≡ told_number told) × (place ≡ told_place told)
