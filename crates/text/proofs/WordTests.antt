-- Tests of words in a row, turn by turn: a search finds a word or passes it, and a comparison of two runs of words is
-- that of what is left of them. A list's first numbers are its words from 0 on.
use Prim.Native.Nat.{ℕ, suc, ◌+◌, ◌<◌, max}
use mathlib.Core.Path.{◌≡◌, ◌∙◌}
use mathlib.Core.List.{List, [], ◌∷◌, ◌++◌}
use native.Mathlib.Omega.{arith}
use native.Mathlib.Numerals.{add-one}
use lib.ListN.{length, get_or, take}
use lib.Seq.{take-suc}
use lib.Dec.{eqb}
use Rattle.std.specs.List.{list_any}
use Rattle.words.specs.Lists.{any}
use Rattle.words.proofs.Chains.{list_any-any}
use Rattle.words.proofs.Lists.{any_same}
use Rattle.words.proofs.Sums.{eqb-turn}
use Rattle.text.specs.ReadCode.{one_above}

-- ---- one more than the highest
pub above-last : (xs : List ℕ) (x : ℕ) → one_above (xs ++ (x ∷ [])) ≡ max (one_above xs) (suc x)
unfolding one_above
above-last [] x = omega arith
above-last (y ∷ xs) x = let i = above-last xs x in omega arith

pub above_more : (xs : List ℕ) (k : ℕ) → k < length xs →
    one_above (take (k + 1) xs) ≡ max (one_above (take k xs)) (suc (get_or xs k 0))
above_more xs k l = rw (add-one, take-suc xs k 0 l) (above-last (take k xs) (get_or xs k 0))

-- ---- a number stands in a list
pub has-number : (x : ℕ) (ns : List ℕ) → list_any (λ y. eqb y x) ns ≡ any (λ y. eqb x y) ns
has-number x ns =
    list_any-any (λ (y : ℕ). eqb y x) ns ∙
    any_same (λ (y : ℕ). eqb y x) (λ (y : ℕ). eqb x y) ns (λ y k. eqb-turn y x)
