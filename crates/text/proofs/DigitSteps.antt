-- Numbers as code finds their digits: the last digit of a number, and those of a tenth of it before; so how many
-- digits a number has is found by comparing.
use Prim.Native.Nat.{ℕ, zero, suc, ◌+◌, ◌*◌, ◌/◌, ◌%◌, ◌^◌, ◌≤◌, ◌<◌}
use mathlib.Core.Path.{◌≡◌, refl, sym, ◌∙◌, ap}
use mathlib.Core.Bool.{Bool, true, false}
use mathlib.Core.List.{List, [], ◌∷◌, ◌++◌}
use native.Mathlib.Nat.{one-le-pow}
use native.Mathlib.Omega.{arith}
use native.Mathlib.Decide.{dec_lt}
use lib.ListN.{length, length-append}
use lib.Dec.{ltb}
use Rattle.text.specs.Lines.{digits_within, digits}
use Rattle.text.proofs.Digits.{digits-one, digits_more}

-- where numbers below p need no more than f digits, those below 10 times p need no more than one more
spare : (f p : ℕ) → ((n : ℕ) → n < p → digits_within f n ≡ digits_within (suc f) n) →
    (n : ℕ) → n < 10 * p → digits_within (suc f) n ≡ digits_within (suc (suc f)) n
spare f p same n h = elim (dec_lt n 10) [
  | yes l ↦ digits-one f n l ∙ sym (digits-one (suc f) n l)
  | no l ↦
      digits_more f n (omega arith) ∙
      (ap (λ (ds : List ℕ). ds ++ ((48 + n % 10) ∷ [])) (same (n / 10) (omega arith)) ∙
      sym (digits_more (suc f) n (omega arith)))
]

one-spare : (n : ℕ) → n < 10 → digits_within 1 n ≡ digits_within 2 n
one-spare n h = digits-one 0 n h ∙ sym (digits-one 1 n h)

pub digits_last : (n : ℕ) → n < 10 → digits n ≡ (48 + n) ∷ []
unfolding digits
digits_last n h = digits-one 4 n h

pub digits_step : (n : ℕ) → 10 ≤ n → n < 100000 → digits n ≡ digits (n / 10) ++ ((48 + n % 10) ∷ [])
unfolding digits
digits_step n l h =
    digits_more 4 n l ∙
    ap (λ (ds : List ℕ). ds ++ ((48 + n % 10) ∷ []))
    (spare 3 1000 (spare 2 100 (spare 1 10 one-spare)) (n / 10) (omega arith))

-- ---- how many digits there are
pub one-digit-long : (n : ℕ) → n < 10 → length (digits n) ≡ 1
one-digit-long n h = ap length (digits_last n h)

pub digits-longer : (n : ℕ) → 10 ≤ n → n < 100000 → length (digits n) ≡ length (digits (n / 10)) + 1
digits-longer n l h =
    ap length (digits_step n l h) ∙ length-append (digits (n / 10)) ((48 + n % 10) ∷ [])

-- a number from 10 ^ d on, and below ten times that, has one digit more than d
pub digits_long : (d n : ℕ) → 10 ^ d ≤ n → n < 10 ^ suc d → n < 100000 → length (digits n) ≡ suc d
digits_long zero n l h small = one-digit-long n (omega arith)
digits_long (suc d) n l h small =
    let p = one-le-pow d 10 (omega arith) in
    let e = digits-longer n (omega arith) small in
    let r = digits_long d (n / 10) (omega arith) (omega arith) (omega arith) in
    omega arith

-- a number has a digit, and one of ten or more has two
pub some-digit : (n : ℕ) → n < 100000 → 1 ≤ length (digits n)
some-digit n h = elim (dec_lt n 10) [
  | yes l ↦ let e = one-digit-long n l in omega arith
  | no l ↦ let e = digits-longer n (omega arith) h in omega arith
]

-- as many digits as there may be, where the number has no fewer
within-full : (most n : ℕ) → 10 ^ most ≤ 10 * n → length (digits_within most n) ≡ most
unfolding digits_within
within-full zero n h = refl
within-full (suc zero) n h = elim (dec_lt n 10) [
  | yes l ↦ ap length (digits-one 0 n l)
  | no l ↦ ap length (digits_more 0 n (omega arith)) ∙ length-append (digits_within 0 (n / 10)) ((48 + n % 10) ∷ [])
]
within-full (suc (suc most)) n h =
    let p = one-le-pow most 10 (omega arith) in
    let r = within-full (suc most) (n / 10) (omega arith) in
    let e = ap length (digits_more (suc most) n (omega arith)) in
    omega (arith, length-append (digits_within (suc most) (n / 10)) ((48 + n % 10) ∷ []))

-- "1 to 5 digits": the fifth is the last
pub five-long : (n : ℕ) → 10000 ≤ n → length (digits n) ≡ 5
unfolding digits
five-long n h = within-full 5 n (omega arith)

-- "1 to 5 digits"
within-long : (f n : ℕ) → length (digits_within f n) ≤ f
unfolding digits_within
within-long zero n = omega arith
within-long (suc f) n = go (ltb n 10) (within-long f (n / 10))
  where
    go : (c : Bool) → length (digits_within f (n / 10)) ≤ f →
        length {A = ℕ} (elim c [ true ↦ (48 + n) ∷ [] | false ↦ digits_within f (n / 10) ++ ((48 + n % 10) ∷ []) ]) ≤
        suc f
    go true h = omega arith
    go false h = omega (arith, length-append (digits_within f (n / 10)) ((48 + n % 10) ∷ []))

pub at-most-five : (n : ℕ) → length (digits n) ≤ 5
unfolding digits
at-most-five n = within-long 5 n

-- a number below 10 ^ d has at most d digits
within-width : (f d n : ℕ) → n < 10 ^ suc d → length (digits_within f n) ≤ suc d
unfolding digits_within
within-width zero d n h = omega arith
within-width (suc f) zero n h = let e = ap length (digits-one f n (omega arith)) in omega arith
within-width (suc f) (suc d) n h = elim (dec_lt n 10) [
  | yes l ↦ let e = ap length (digits-one f n l) in omega arith
  | no l ↦
      let r = within-width f d (n / 10) (omega arith) in
      let e = ap length (digits_more f n (omega arith)) in
      omega (arith, length-append (digits_within f (n / 10)) ((48 + n % 10) ∷ []))
]

pub digits-most : (d : ℕ) → 1 ≤ d → (n : ℕ) → n < 10 ^ d → length (digits n) ≤ d
unfolding digits
digits-most zero some n h = absurd (omega arith)
digits-most (suc d) some n h = within-width 5 d n h
