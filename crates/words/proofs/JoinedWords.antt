-- Blocks of words, one behind another: where each of them stands, when all of them do, and how long they are together.
use Prim.Native.Nat.{ℕ, zero, suc, ◌+◌, ◌<◌}
use mathlib.Core.Path.{◌≡◌, refl}
use mathlib.Core.List.{List, [], ◌∷◌, map}
use native.Mathlib.Omega.{arith}
use lib.ListN.{length, get_or, take, length-append}
use Rattle.words.specs.Lists.{joined, sum}
use Rattle.words.proofs.Words.{At, at_left, at_right, at-move, at_join}

pub length-joined : (bs : List (List ℕ)) → length (joined bs) ≡ sum (map length bs)
unfolding joined sum
length-joined [] = refl
length-joined (xs ∷ bs) = let e = length-joined bs in omega (arith, length-append xs (joined bs))

-- block k stands behind the blocks before it
pub concat-stands : (w : List ℕ) (b : ℕ) (bs : List (List ℕ)) → At w b (joined bs) → (k place : ℕ) → k < length bs →
    b + sum (take k (map length bs)) ≡ place → At w place (get_or bs k [])
unfolding joined sum
concat-stands w b [] h k place l e = absurd (omega arith)
concat-stands w b (xs ∷ bs) h zero place l e = at-move w b place xs (omega arith) (at_left w b xs (joined bs) h)
concat-stands w b (xs ∷ bs) h (suc k) place l e =
    concat-stands w (b + length xs) bs (at_right w b xs (joined bs) h) k place (omega arith) (omega arith)

-- ---- blocks in a row: each stands at a place that has a name of its own, which is where the one before it ends
pub data InRow (w : List ℕ) : ℕ → List (List ℕ) → Type 0 where
  row-end : {b : ℕ} → InRow w b []
  at_place : {b : ℕ} {xs : List ℕ} {bs : List (List ℕ)} (place : ℕ) → place ≡ b → At w place xs →
      InRow w (place + length xs) bs → InRow w b (xs ∷ bs)

pub stands-concat : (w : List ℕ) (b : ℕ) (bs : List (List ℕ)) → InRow w b bs → At w b (joined bs)
unfolding joined
stands-concat w b [] row-end = λ k l. absurd (omega arith)
stands-concat w b (xs ∷ bs) (at_place place e h r) =
    at-move w place b (joined (xs ∷ bs)) e
    (at_join w place xs (joined bs) h (stands-concat w (place + length xs) bs r))

pub concat-row : (w : List ℕ) (b : ℕ) (bs : List (List ℕ)) → At w b (joined bs) → InRow w b bs
unfolding joined
concat-row w b [] h = row-end
concat-row w b (xs ∷ bs) h =
    at_place b refl (at_left w b xs (joined bs) h) (concat-row w (b + length xs) bs (at_right w b xs (joined bs) h))
