-- Names, that is numbers one behind another, each behind its mark: as the pieces that a counter goes through, and how
-- long they are. Each takes its mark and its digits; of the numbers below n each has a digit, those from 10 on another,
-- and those from 100 on a third.
use Prim.Native.Nat.{ℕ, zero, suc, ◌+◌, ◌-◌, ◌*◌, ◌≤◌, ◌<◌}
use mathlib.Core.Path.{◌≡◌, refl, sym, ◌∙◌, ap}
use mathlib.Core.List.{List, [], ◌∷◌, ◌++◌, append-nil}
use native.Mathlib.Nat.{mul-suc}
use native.Mathlib.Omega.{arith}
use native.Mathlib.Decide.{dec_lt}
use lib.ListN.{length, get_or, length-append}
use Rattle.words.specs.Lists.{up_to, up_from, concat_map}
use Rattle.words.specs.Words.{words_at}
use Rattle.words.proofs.Lists.{append-concat_map, length-up_to, up_to-suc}
use Rattle.task.specs.Limits.{most_objects}
use Rattle.text.specs.Lines.{digits}
use Rattle.text.proofs.DigitSteps.{one-digit-long, digits_long, at-most-five}
use Rattle.text.proofs.Onwards.{onwards, onwards-all}
use Rattle.text.proofs.Pieces.{pieces-map, pieces-from, pieces-most}
use Rattle.defines.specs.ByWords.{marked}

-- ---- in pieces
-- the name of number n
abbrev pub name_of : List ℕ → ℕ → List ℕ
name_of mark n = mark ++ digits n

pub marked-pieces : (mark ns : List ℕ) → marked mark ns ≡ concat_map (name_of mark) ns
unfolding marked
marked-pieces mark ns = refl

-- pieces of the n words from a place on, one for each, by a counter
pub words-pieces : (piece : ℕ → List ℕ) (w : List ℕ) (from n : ℕ) →
    concat_map piece (words_at w from n) ≡ concat_map (λ k. piece (get_or w (from + k) 0)) (up_to n)
unfolding words_at up_to
words-pieces piece w from n =
    let e : from ≡ from + 0 = omega arith in
    let at : ℕ → List ℕ = λ k. piece (get_or w k 0) in
    pieces-map piece (λ k. get_or w k 0) (up_from from n) ∙
    (ap (λ (i : ℕ). concat_map at (up_from i n)) e ∙
    pieces-from at (λ k. piece (get_or w (from + k) 0)) from 0 n (λ j. refl))

-- the names of n words
pub marked-words : (mark w : List ℕ) (from n : ℕ) →
    marked mark (words_at w from n) ≡ onwards (λ k. name_of mark (get_or w (from + k) 0)) 0 n
marked-words mark w from n =
    marked-pieces mark (words_at w from n) ∙
    (words-pieces (name_of mark) w from n ∙ sym (onwards-all (λ k. name_of mark (get_or w (from + k) 0)) n))

-- ---- how long they are
pub marked-long : (mark ns : List ℕ) →
    length (marked mark ns) ≡ length mark * length ns + length (concat_map digits ns)
unfolding marked concat_map
marked-long mark [] = omega arith
marked-long mark (n ∷ ns) =
    let r = marked-long mark ns in
    let a = length-append (name_of mark n) (marked mark ns) in
    let b = length-append mark (digits n) in
    let d = length-append (digits n) (concat_map digits ns) in
    let m = mul-suc (length mark) (length ns) in
    omega arith

pub names-long : (mark : List ℕ) (n : ℕ) →
    length (marked mark (up_to n)) ≡ length mark * n + length (concat_map digits (up_to n))
names-long mark n =
    marked-long mark (up_to n) ∙
    ap (λ (k : ℕ). length mark * k + length (concat_map digits (up_to n))) (length-up_to n)

-- no number has more than five digits
pub digits-few : (ns : List ℕ) → length (concat_map digits ns) ≤ 5 * length ns
digits-few ns = pieces-most digits 5 ns (λ n i. at-most-five n)

-- one number more
below_more : (n : ℕ) →
    length (concat_map digits (up_to (suc n))) ≡ length (concat_map digits (up_to n)) + length (digits n)
unfolding concat_map
below_more n =
    ap (λ (ns : List ℕ). length (concat_map digits ns)) (up_to-suc n) ∙
    (ap length (append-concat_map digits (up_to n) (n ∷ [])) ∙
    (length-append (concat_map digits (up_to n)) (digits n ++ []) ∙
    ap (λ (ds : List ℕ). length (concat_map digits (up_to n)) + length ds) (append-nil (digits n))))

-- a number below 1000 has one digit, another from 10 on, and a third from 100 on
digits-below : (n : ℕ) → n < most_objects →
    length (digits n) ≡ 1 + ((suc n - 10) - (n - 10)) + ((suc n - 100) - (n - 100))
digits-below n h = elim (dec_lt n 10) [
  | yes l ↦ let e = one-digit-long n l in omega arith
  | no l ↦ elim (dec_lt n 100) [
    | yes m ↦ let e = digits_long 1 n (omega arith) (omega arith) (omega arith) in omega arith
    | no m ↦ let e = digits_long 2 n (omega arith) (omega arith) (omega arith) in omega arith
  ]
]

-- the digits of the numbers below n
pub below-long : (n : ℕ) → n ≤ most_objects → length (concat_map digits (up_to n)) ≡ n + (n - 10) + (n - 100)
unfolding up_to up_from concat_map
below-long zero h = refl
below-long (suc n) h =
    let r = below-long n (omega arith) in
    let m = below_more n in
    let d = digits-below n (omega arith) in
    omega arith
