-- How long pieces are, one for each number below n, added up by a chain over the numbers.
use Prim.Native.Nat.{ℕ, ◌-◌}
use mathlib.Core.Path.{◌≡◌, sym, ◌∙◌, ap}
use mathlib.Core.List.{List, map}
use native.Mathlib.Omega.{arith}
use lib.ListN.{length}
use Rattle.words.specs.Lists.{up_to, up_from, concat_map, sum}
use Rattle.words.proofs.Lists.{length-concat_map}

pub pieces-sum : (piece : ℕ → List ℕ) {n : ℕ} (m : ℕ) → m ≡ n →
    sum (map (λ k. length (piece k)) (up_from 0 (m - 0))) ≡ length (concat_map piece (up_to n))
unfolding up_to
pieces-sum piece {n} m h =
    let e : m - 0 ≡ n = omega arith in
    ap (λ (k : ℕ). sum (map (λ k. length (piece k)) (up_from 0 k))) e ∙ sym (length-concat_map piece (up_from 0 n))
