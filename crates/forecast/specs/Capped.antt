-- Numbers that stop at a limit, as code counts instances. No promise of an entry point cites these.
use Rattle.std.specs.Prelude.{ℕ, ◌+◌, ◌^◌, ◌≤◌, min, ◌≡◌, List, length, get_or}
use Rattle.task.specs.Limits.{most_parameters}

-- what reaches the limit stays there
abbrev pub capped : ℕ → ℕ → ℕ
capped limit n = min limit n

-- the powers of a number, up to one of m factors
pub record PowersUpTo (limit n m : ℕ) (powers : List ℕ) : Type 0 where
  pub long : length powers ≡ most_parameters + 1
  pub power : (k : ℕ) → k ≤ m → get_or powers k 0 ≡ capped limit (n ^ k)

-- for each number of parameters
abbrev pub ArePowers : ℕ → ℕ → List ℕ → Type 0
ArePowers limit n powers = PowersUpTo limit n most_parameters powers
