-- Words in a row, by their place.
use Rattle.std.specs.Prelude.{ℕ, Bool, List, map, get_or, eqb}
use Rattle.words.specs.Lists.{all, up_from}

-- a word holds a number below this
abbrev pub word_bound : ℕ
word_bound = 65536

-- n words from i on; words that are not there count as 0
unfoldable pub words_at : List ℕ → ℕ → ℕ → List ℕ
unfolding up_from
words_at w i n = map (λ k. get_or w k 0) (up_from i n)

-- n words from i on are 0
unfoldable pub zeros_at : List ℕ → ℕ → ℕ → Bool
unfolding all up_from
zeros_at w i n = all (λ k. eqb (get_or w k 0) 0) (up_from i n)
