-- A buffer into which words are put: each place of it, the words read back, and others put over them.
use Prim.Native.Nat.{ℕ, zero, suc, ◌+◌, ◌≤◌, ◌<◌}
use mathlib.Core.Path.{◌≡◌, refl, sym, ◌∙◌, ap}
use mathlib.Core.List.{List, [], ◌∷◌}
use native.Mathlib.Omega.{arith}
use lib.ListN.{length, get_or, set, length-set}
use lib.Seq.{get_or-set_same, get_or-set_other, set-set, set-get_or}
use Rattle.words.specs.Lists.{put}
use Rattle.words.specs.Words.{words_at}
use Rattle.words.proofs.Puts.{put-before}
use Rattle.words.proofs.Words.{At, get_or-words_at, length-words_at, words_at-is, words_at-next}

-- ---- each place
before-put : (w : List ℕ) (at : ℕ) (xs : List ℕ) (k : ℕ) → k < at → get_or (put w at xs) k 0 ≡ get_or w k 0
before-put w at [] k l = refl
before-put w at (x ∷ xs) k l =
    before-put (set w at x) (suc at) xs k (omega arith) ∙ get_or-set_other w at k x 0 (λ e. let q = e in omega arith)

pub behind-put : (w : List ℕ) (at : ℕ) (xs : List ℕ) (k : ℕ) → at + length xs ≤ k →
    get_or (put w at xs) k 0 ≡ get_or w k 0
behind-put w at [] k l = refl
behind-put w at (x ∷ xs) k l =
    behind-put (set w at x) (suc at) xs k (omega arith) ∙ get_or-set_other w at k x 0 (λ e. let q = e in omega arith)

at-put : (w : List ℕ) (at : ℕ) (xs : List ℕ) → at + length xs ≤ length w → At (put w at xs) at xs
at-put w at [] r k l = absurd (omega arith)
at-put w at (x ∷ xs) r zero l =
    let e : at + 0 ≡ at = omega arith in
    ap (λ (i : ℕ). get_or (put (set w at x) (suc at) xs) i 0) e
    ∙ (before-put (set w at x) (suc at) xs at (omega arith) ∙ get_or-set_same w at x 0 (omega arith))
at-put w at (x ∷ xs) r (suc k) l =
    let e : at + suc k ≡ suc at + k = omega arith in
    let n = length-set w at x in
    ap (λ (i : ℕ). get_or (put (set w at x) (suc at) xs) i 0) e
    ∙ at-put (set w at x) (suc at) xs (omega arith) k (omega arith)

-- ---- what is put is read back, and so is what stands before it
pub words-before : (w : List ℕ) (at : ℕ) (xs : List ℕ) (i n : ℕ) → i + n ≤ at →
    words_at (put w at xs) i n ≡ words_at w i n
words-before w at xs i n l =
    words_at-is (put w at xs) i n (words_at w i n) (length-words_at w i n) (λ k m.
    let e = length-words_at w i n in
    before-put w at xs (i + k) (omega arith) ∙ sym (get_or-words_at w i n k (omega arith)))

pub words-put : (w : List ℕ) (at n : ℕ) (xs : List ℕ) → length xs ≡ n → at + n ≤ length w →
    words_at (put w at xs) at n ≡ xs
words-put w at n xs e r = words_at-is (put w at xs) at n xs e (at-put w at xs (omega arith))

-- ---- as many others put over them
pub put-again : (w : List ℕ) (at : ℕ) (xs ys : List ℕ) → length xs ≡ length ys → put (put w at xs) at ys ≡ put w at ys
put-again w at [] [] e = refl
put-again w at [] (y ∷ ys) e = absurd (omega arith)
put-again w at (x ∷ xs) [] e = absurd (omega arith)
put-again w at (x ∷ xs) (y ∷ ys) e =
    ap (λ (v : List ℕ). put v (suc at) ys)
    (put-before (set w at x) at y (suc at) xs (omega arith) ∙ ap (λ (v : List ℕ). put v (suc at) xs) (set-set w at x y))
    ∙ put-again (set w at y) (suc at) xs ys (omega arith)

-- ---- its own words put into it
pub put-own : (w : List ℕ) (at n : ℕ) → put w at (words_at w at n) ≡ w
unfolding words_at
put-own w at zero = refl
put-own w at (suc n) =
    let e : at + 1 ≡ suc at = omega arith in
    ap (put w at) (words_at-next w at n)
    ∙ (ap (λ (v : List ℕ). put v (suc at) (words_at w (at + 1) n)) (set-get_or w at 0)
    ∙ (ap (λ (i : ℕ). put w (suc at) (words_at w i n)) e ∙ put-own w (suc at) n))
