-- A step's words against their limits: all are below them where the first are objects and the words behind them 0.
use Prim.Native.Nat.{ℕ, zero, suc, ◌+◌, ◌-◌, ◌≤◌, ◌<◌}
use mathlib.Core.Path.{◌≡◌, refl, sym, ◌∙◌, ap, ap₂}
use mathlib.Core.Bool.{Bool, ◌&&◌, and-true}
use mathlib.Core.List.{List, ◌++◌}
use native.Mathlib.Omega.{arith}
use native.Mathlib.Decide.{dec_lt}
use lib.ListN.{get_or, replicate, get_or-replicate, length-replicate, get_or-append}
use lib.Seq.{get_or-append-add}
use lib.Dec.{eqb, ltb}
use lib.Bits.{bit_or}
use borrow.Author.Tests.{lt-ltb, le-ltb, eq-eqb, ne_eqb}
use Rattle.words.specs.Lists.{all, up_from}
use Rattle.words.specs.Words.{words_at}
use Rattle.words.proofs.Lists.{and_left, and_right, and_both, bool-ext, up_from-append}
use Rattle.words.proofs.Words.{and-false}
use Rattle.words.proofs.Ranges.{all_append, all_from, all_map, from_all}
use Rattle.words.proofs.BitSets.{or-zero}
use Rattle.task.specs.Limits.{most_parameters}
use Rattle.task.specs.StepTests.{limits_for, is_within, objects_then_zeros}

-- one more word is compared, and joins those that were
pub beyond-joins : (beyond word limit : ℕ) → limit ≤ word → eqb 1 0 ≡ eqb beyond 0 && ltb word limit
beyond-joins beyond word limit h =
    sym (ap (λ (b : Bool). eqb beyond 0 && b) (le-ltb word limit h) ∙ and-false (eqb beyond 0))

pub within-joins : (beyond word limit : ℕ) → word < limit → eqb beyond 0 ≡ eqb beyond 0 && ltb word limit
within-joins beyond word limit h =
    sym (ap (λ (b : Bool). eqb beyond 0 && b) (lt-ltb word limit h) ∙ and-true (eqb beyond 0))

-- below 1 is 0
below_one : (a : ℕ) → ltb a 1 ≡ eqb a 0
below_one zero = lt-ltb 0 1 (omega arith) ∙ sym (eq-eqb 0 0 refl)
below_one (suc a) = le-ltb (suc a) 1 (omega arith) ∙ sym (ne_eqb (suc a) 0 (λ e. let q = e in omega arith))

-- a test of indices is one of the words that it looks at
all-looked : (p q : ℕ → Bool) (w : List ℕ) (s i n : ℕ) → ((k : ℕ) → k < n → p (s + k) ≡ q (get_or w (i + k) 0)) →
    all p (up_from s n) ≡ all q (words_at w i n)
unfolding all up_from words_at
all-looked p q w s i n h = go s i n h ∙ sym (all_map q (λ k. get_or w k 0) (up_from i n))
  where
    moved : (x s i y k : ℕ) → x ≡ s + k → y ≡ i + k → p (s + k) ≡ q (get_or w (i + k) 0) → p x ≡ q (get_or w y 0)
    moved x s i y k a b e = ap p a ∙ (e ∙ ap (λ (z : ℕ). q (get_or w z 0)) (sym b))

    go : (s i n : ℕ) → ((k : ℕ) → k < n → p (s + k) ≡ q (get_or w (i + k) 0)) →
        all p (up_from s n) ≡ all (λ k. q (get_or w k 0)) (up_from i n)
    go s i zero h = refl
    go s i (suc n) h = ap₂ ◌&&◌ (moved s s i i 0 (omega arith) (omega arith) (h 0 (omega arith)))
        (go (suc s) (suc i) n (λ k l.
        moved (suc s + k) s i (suc i + k) (suc k) (omega arith) (omega arith) (h (suc k) (omega arith))))

-- n times one number, then n times another
module _ (n a b k : ℕ) (l : k < n) where
  first-same : get_or (replicate n a ++ replicate n b) k 0 ≡ a
  first-same =
      let e = length-replicate n a in
      get_or-append (replicate n a) (replicate n b) 0 k (omega arith) ∙ get_or-replicate n k a 0 l

  then_same : get_or (replicate n a ++ replicate n b) (n + k) 0 ≡ b
  then_same =
      let e = length-replicate n a in
      ap (λ (x : ℕ). get_or (replicate n a ++ replicate n b) (x + k) 0) (sym e) ∙
      (get_or-append-add (replicate n a) (replicate n b) k 0 ∙ get_or-replicate n k b 0 l)

-- Twelve words are within their limits where they are n objects and zeros. Their limits begin at 12 - n, so the first n
-- have the limit of an object (`first`), and those behind them have 1, below which is only 0 (`behind`).
within-limits : (objects : ℕ) (w : List ℕ) (i n : ℕ) → n ≤ most_parameters →
    all (is_within w i n (limits_for objects)) (up_from 0 most_parameters) ≡ objects_then_zeros objects w i n
unfolding limits_for
within-limits objects w i n few =
    let p : ℕ → Bool = is_within w i n (limits_for objects) in
    let m : ℕ = most_parameters - n in
    let e : most_parameters ≡ n + m = omega arith in
    ap (λ (x : ℕ). all p (up_from 0 x)) e ∙ (ap (all p) (up_from-append 0 n m) ∙
    (all_append p (up_from 0 n) (up_from (0 + n) m) ∙
    ap₂ ◌&&◌ (all-looked p (λ o. ltb o objects) w 0 i n first)
    (all-looked p (λ a. eqb a 0) w (0 + n) (i + n) m behind)))
  where
    first : (k : ℕ) → k < n → is_within w i n (limits_for objects) (0 + k) ≡ ltb (get_or w (i + k) 0) objects
    first k l =
        let z : i + (0 + k) ≡ i + k = omega arith in
        ap₂ ltb (ap (λ (x : ℕ). get_or w x 0) z)
        (first-same most_parameters objects 1 (most_parameters - n + (0 + k)) (omega arith))

    behind : (k : ℕ) → k < most_parameters - n →
        is_within w i n (limits_for objects) (0 + n + k) ≡ eqb (get_or w (i + n + k) 0) 0
    behind k l =
        let z : i + (0 + n + k) ≡ i + n + k = omega arith in
        let y : most_parameters - n + (0 + n + k) ≡ most_parameters + k = omega arith in
        ap₂ ltb (ap (λ (x : ℕ). get_or w x 0) z)
        (ap (λ (x : ℕ). get_or (limits_for objects) x 0) y ∙
        then_same most_parameters objects 1 k (omega arith)) ∙
        below_one (get_or w (i + n + k) 0)

-- the first eight of twelve words and the last eight are tested
pub two_runs : (objects : ℕ) (w : List ℕ) (i n : ℕ) (limits : List ℕ) → n ≤ most_parameters →
    limits ≡ limits_for objects → (front back : ℕ) → eqb front 0 ≡ all (is_within w i n limits) (up_from 0 8) →
    eqb back 0 ≡ all (is_within w i n limits) (up_from 4 8) →
    eqb (bit_or front back) 0 ≡ objects_then_zeros objects w i n
two_runs objects w i n limits few e front back f b =
    let p : ℕ → Bool = is_within w i n limits in
    let first : Bool = all p (up_from 0 8) in
    let last : Bool = all p (up_from 4 8) in
    or-zero front back ∙ (ap₂ (λ (x y : Bool). x && y) f b ∙
    (bool-ext (first && last) (all p (up_from 0 12))
    (λ h. from_all p 0 12 (λ k a b. elim (dec_lt k 8) [
      | yes l ↦ all_from p 0 8 (and_left first last h) k a (omega arith)
      | no l ↦ all_from p 4 8 (and_right first last h) k (omega arith) (omega arith)
    ]))
    (λ h. and_both first last (from_all p 0 8 (λ k a b. all_from p 0 12 h k a (omega arith)))
    (from_all p 4 8 (λ k a b. all_from p 0 12 h k (omega arith) (omega arith)))) ∙
    (ap (λ (limits : List ℕ). all (is_within w i n limits) (up_from 0 most_parameters)) e ∙
    within-limits objects w i n few)))
