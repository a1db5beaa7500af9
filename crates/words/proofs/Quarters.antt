-- Four stretches of words, one behind another, tested side by side: all are 0 if at each place the words of all four
-- are.
use Prim.Native.Nat.{ℕ, ◌+◌, ◌-◌, ◌*◌, ◌≤◌}
use mathlib.Core.Path.{◌≡◌, sym, ◌∙◌, ap, ap₂}
use mathlib.Core.Bool.{Bool, true, false, not, ◌&&◌, and_assoc}
use mathlib.Core.List.{List}
use native.Mathlib.Omega.{arith}
use lib.Bits.{bit_or}
use lib.Dec.{eqb}
use lib.ListN.{get_or}
use borrow.Author.Tests.{not-true, not-false}
use Rattle.words.specs.Lists.{all, up_from}
use Rattle.words.specs.Words.{words_at, zeros_at}
use Rattle.words.proofs.Lists.{up_from-append}
use Rattle.words.proofs.Ranges.{all-and, all_append, all_map}
use Rattle.words.proofs.BitSets.{or-zero}
use Rattle.words.proofs.Loops.{all_words}

-- ---- one stretch
-- the word at place k of the stretch that begins at i
abbrev is_zero : List ℕ → ℕ → ℕ → Bool
is_zero w i k = eqb (get_or w (i + k) 0) 0

zeros-placed : (w : List ℕ) (i n : ℕ) → zeros_at w i n ≡ all (is_zero w i) (up_from 0 (n - 0))
unfolding zeros_at words_at
zeros-placed w i n = sym (all_map (λ a. eqb a 0) (λ k. get_or w k 0) (up_from i n)) ∙ (all_words (λ a. eqb a 0) w i n).left

zeros-append : (w : List ℕ) (i a b : ℕ) → zeros_at w i (a + b) ≡ zeros_at w i a && zeros_at w (i + a) b
unfolding zeros_at
zeros-append w i a b =
    ap (all (λ k. eqb (get_or w k 0) 0)) (up_from-append i a b) ∙
    all_append (λ k. eqb (get_or w k 0) 0) (up_from i a) (up_from (i + a) b)

-- the first m of the words from an index to another are tested, then those behind them
module _ (w : List ℕ) (from to m : ℕ) {front : Bool} (l : from + m ≤ to) (t : front ≡ zeros_at w from m) where
  split : zeros_at w from (to - from) ≡ front && zeros_at w (from + m) (to - (from + m))
  split =
      let e : to - from ≡ m + (to - (from + m)) = omega arith in
      ap (zeros_at w from) e ∙
      (zeros-append w from m (to - (from + m)) ∙
      ap (λ (b : Bool). b && zeros_at w (from + m) (to - (from + m))) (sym t))

  pub front-fails : not front ≡ true → false ≡ zeros_at w from (to - from)
  front-fails f = sym (split ∙ ap (λ (b : Bool). b && zeros_at w (from + m) (to - (from + m))) (not-true front f))

  pub rest-tells : {r : Bool} → not front ≡ false → r ≡ zeros_at w (from + m) (to - (from + m)) →
      r ≡ zeros_at w from (to - from)
  rest-tells f e =
      e ∙ sym (split ∙ ap (λ (b : Bool). b && zeros_at w (from + m) (to - (from + m))) (not-false front f))

-- ---- four stretches
-- the words at place k of the four stretches that begin at a, b, c and d
abbrev pub FourZero : List ℕ → ℕ → ℕ → ℕ → ℕ → ℕ → Bool
FourZero w a b c d k = is_zero w a k && (is_zero w b k && (is_zero w c k && is_zero w d k))

-- four words joined to those before
pub four-joined : (m : ℕ) {a b c d a' b' c' d' : ℕ} → a ≡ a' → b ≡ b' → c ≡ c' → d ≡ d' →
    eqb (bit_or m (bit_or (bit_or (bit_or a b) c) d)) 0 ≡ eqb m 0 && (eqb a' 0 && (eqb b' 0 && (eqb c' 0 && eqb d' 0)))
four-joined m {a} {b} {c} {d} p q r s =
    let zero : ℕ → Bool = λ x. eqb x 0 in
    let both : Bool → Bool → Bool = λ x y. x && y in
    or-zero m (bit_or (bit_or (bit_or a b) c) d) ∙
    ap (both (zero m))
    (or-zero (bit_or (bit_or a b) c) d ∙
    (ap (λ (x : Bool). both x (zero d)) (or-zero (bit_or a b) c ∙ ap (λ (x : Bool). both x (zero c)) (or-zero a b)) ∙
    (and_assoc (zero a && zero b) (zero c) (zero d) ∙
    (and_assoc (zero a) (zero b) (zero c && zero d) ∙
    ap₂ both (ap zero p) (ap₂ both (ap zero q) (ap₂ both (ap zero r) (ap zero s)))))))

module _ (w : List ℕ) (from n : ℕ) where
  abbrev second : ℕ
  second = from + n

  abbrev third : ℕ
  third = second + n

  abbrev fourth : ℕ
  fourth = third + n

  pub quarters-zero : all (FourZero w from second third fourth) (up_from 0 (n - 0)) ≡ zeros_at w from (4 * n)
  quarters-zero =
      let places = up_from 0 (n - 0) in
      let e : n + (n + (n + n)) ≡ 4 * n = omega arith in
      all-and (is_zero w from) (λ k. is_zero w second k && (is_zero w third k && is_zero w fourth k)) places ∙
      (ap₂ (λ (x y : Bool). x && y) (sym (zeros-placed w from n))
      (all-and (is_zero w second) (λ k. is_zero w third k && is_zero w fourth k) places ∙
      ap₂ (λ (x y : Bool). x && y) (sym (zeros-placed w second n))
      (all-and (is_zero w third) (is_zero w fourth) places ∙
      ap₂ (λ (x y : Bool). x && y) (sym (zeros-placed w third n)) (sym (zeros-placed w fourth n)) ∙
      sym (zeros-append w third n n)) ∙
      sym (zeros-append w second n (n + n))) ∙
      sym (zeros-append w from n (n + (n + n))) ∙
      ap (zeros_at w from) e)
