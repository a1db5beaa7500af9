-- Sets of numbers, kept in a word as bits.
use Rattle.std.specs.Prelude.{ℕ, ◌/◌, ◌%◌, ◌^◌, ◌<◌, ◌≡◌, Bool, true, false, not, ◌&&◌, List, eqb}
use Rattle.words.specs.Lists.{filter, up_to}

-- a word of a table holds a set of numbers below its count of bits
abbrev pub word_bits : ℕ
word_bits = 16

-- and a set on its own may have all numbers below this
abbrev pub set_bits : ℕ
set_bits = 64

-- whether k is in the set
unfoldable pub member : ℕ → ℕ → Bool
member set k = eqb (set / 2 ^ k % 2) 1

-- the numbers below n that are in the set, ascending
unfoldable pub members : ℕ → ℕ → List ℕ
unfolding member filter up_to
members set n = filter (member set) (up_to n)

-- all in a set are below n
abbrev pub SetBelow : ℕ → ℕ → Type 0
SetBelow n set = (k : ℕ) → member set k ≡ true → k < n

-- "its lowest set bit": a number below 64 that is in the set, and none lower is
pub record Lowest (set p : ℕ) : Type 0 where
  pub below : p < set_bits
  pub is-in : member set p ≡ true
  pub least : (k : ℕ) → k < p → member set k ≡ false

-- the set without k
abbrev pub Loses : ℕ → ℕ → ℕ → Type 0
Loses set k rest = (j : ℕ) → member rest j ≡ member set j && not (eqb k j)
