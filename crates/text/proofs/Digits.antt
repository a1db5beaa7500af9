-- Numbers: the digits of a number are read as that number, and digits in form are those of the number that they say.
-- Digits are written from the last to the first and read from the first to the last; `value_from` passes from one to
-- the other, since it is 10 times what stands in front, and a digit.
use Prim.Native.Nat.{ℕ, suc, ◌+◌, ◌-◌, ◌*◌, ◌/◌, ◌%◌, ◌≤◌, ◌<◌}
use mathlib.Core.Path.{◌≡◌, refl, sym, ◌∙◌, ap, ap₂}
use mathlib.Core.Bool.{Bool, true, false, not, ◌&&◌}
use mathlib.Core.List.{List, [], ◌∷◌, ◌++◌, append_assoc, append-nil}
use Rattle.std.specs.Prelude.{Some}
use native.Mathlib.Omega.{arith}
use native.Mathlib.Decide.{dec_lt}
use lib.ListN.{length, get_or, drop, length-append, get_or-append}
use lib.Seq.{drop-append_seam}
use lib.Dec.{eqb, leb}
use borrow.Author.Tests.{leb-true, eqb-false, not-true, lt-ltb, le-ltb, le-leb, ne_eqb}
use Rattle.words.proofs.Lists.{and_left, and_right, and_both}
use Rattle.text.specs.Lines.{digits_within, digits, Taken, taken, taken_if, is_digit, leading_digits, value_from}
use Rattle.text.specs.Lines.{no_leading_zero, in_form, number}
use Rattle.text.proofs.Taken.{if-true, if-false, no_none, taken-value, taken-rest}

-- ---- digits at the front
pub data Digits : List ℕ → Type 0 where
  no_digit : Digits []
  digit : {b : ℕ} {bs : List ℕ} → 48 ≤ b → b ≤ 57 → Digits bs → Digits (b ∷ bs)

-- what does not go on with a digit
pub data Stops : List ℕ → Type 0 where
  at-end : Stops []
  at_other : {b : ℕ} {bs : List ℕ} → is_digit b ≡ false → Stops (b ∷ bs)

pub is-digit : (b : ℕ) → 48 ≤ b → b ≤ 57 → is_digit b ≡ true
unfolding is_digit
is-digit b h k = and_both _ _ (le-leb 48 b h) (le-leb b 57 k)

-- the two turns of a loop over digits
pub leading_digits-digit : (b : ℕ) (bs : List ℕ) → is_digit b ≡ true → leading_digits (b ∷ bs) ≡ b ∷ leading_digits bs
unfolding leading_digits
leading_digits-digit b bs h = if-true [] h

pub leading_digits-stop : {bs : List ℕ} → Stops bs → leading_digits bs ≡ []
unfolding leading_digits
leading_digits-stop at-end = refl
leading_digits-stop (at_other {b = b} {bs = bs} h) = if-false (b ∷ leading_digits bs) h

pub leading_digits-are : {ds : List ℕ} → Digits ds → {rest : List ℕ} → Stops rest → leading_digits (ds ++ rest) ≡ ds
leading_digits-are no_digit s = leading_digits-stop s
leading_digits-are (digit {b = b} {bs = bs} l m r) {rest} s =
    leading_digits-digit b (bs ++ rest) (is-digit b l m) ∙ ap {B = List ℕ} (λ cs. b ∷ cs) (leading_digits-are r s)

pub record Split (bs : List ℕ) : Type 0 where
  pub front : List ℕ
  pub back : List ℕ
  pub are : Digits front
  pub stops : Stops back
  pub whole : bs ≡ front ++ back

pub split-digits : (bs : List ℕ) → Split bs
unfolding is_digit
split-digits [] = record { front = []; back = []; are = no_digit; stops = at-end; whole = refl }
split-digits (b ∷ bs) = go (is_digit b) refl (split-digits bs)
  where
    go : (c : Bool) → is_digit b ≡ c → Split bs → Split (b ∷ bs)
    go true h s =
        let low = leb-true 48 b (and_left (leb 48 b) (leb b 57) h) in
        let high = leb-true b 57 (and_right (leb 48 b) (leb b 57) h) in
        record {
          front = b ∷ s.front;
          back = s.back;
          are = digit low high s.are;
          stops = s.stops;
          whole = ap {B = List ℕ} (λ cs. b ∷ cs) s.whole;
        }
    go false h s = record { front = []; back = b ∷ bs; are = no_digit; stops = at_other h; whole = refl }

pub number_is : {ds rest : List ℕ} → Digits ds → Stops rest →
    number (ds ++ rest) ≡ taken_if (in_form ds) (value_from 0 ds) rest
unfolding number
number_is {ds} {rest} h s =
    ap (λ (cs : List ℕ). taken_if (in_form cs) (value_from 0 cs) (drop (length cs) (ds ++ rest))) (leading_digits-are h s) ∙
    ap (taken_if (in_form ds) (value_from 0 ds)) (drop-append_seam ds rest)

-- ---- the digits of a number
pub digits-one : (f n : ℕ) → n < 10 → digits_within (suc f) n ≡ (48 + n) ∷ []
unfolding digits_within
digits-one f n h = if-true (digits_within f (n / 10) ++ ((48 + n % 10) ∷ [])) (lt-ltb n 10 h)

pub digits_more : (f n : ℕ) → 10 ≤ n → digits_within (suc f) n ≡ digits_within f (n / 10) ++ ((48 + n % 10) ∷ [])
unfolding digits_within
digits_more f n h = if-false ((48 + n) ∷ []) (le-ltb n 10 h)

pub value-append : (n : ℕ) (bs : List ℕ) (b : ℕ) → value_from n (bs ++ (b ∷ [])) ≡ 10 * value_from n bs + (b - 48)
unfolding value_from
value-append n [] b = refl
value-append n (c ∷ bs) b = value-append (10 * n + (c - 48)) bs b

pub digits_append : {bs : List ℕ} (b : ℕ) → Digits bs → 48 ≤ b → b ≤ 57 → Digits (bs ++ (b ∷ []))
digits_append b no_digit h k = digit h k no_digit
digits_append b (digit l m r) h k = digit l m (digits_append b r h k)

-- ds are the digits of n, f at most
pub record DigitsOf (f n : ℕ) (ds : List ℕ) : Type 0 where
  pub are : Digits ds
  pub worth : value_from 0 ds ≡ n
  pub some-digit : 1 ≤ length ds
  pub at_most : length ds ≤ f
  pub lead : 0 < n → 48 < get_or ds 0 0
  pub lone : n ≡ 0 → length ds ≡ 1

pub one-digit : (f n : ℕ) → n < 10 → DigitsOf (suc f) n (digits_within (suc f) n)
unfolding value_from
one-digit f n h = rw (digits-one f n h) (record {
  are = digit {b = 48 + n} (omega arith) (omega arith) no_digit;
  worth = omega arith;
  some-digit = omega arith;
  at_most = omega arith;
  lead = λ k. omega arith;
  lone = λ k. refl;
})

-- below p numbers have f digits, so below 10 times p they have one more
pub more-digits : (f p : ℕ) → ((n : ℕ) → n < p → DigitsOf f n (digits_within f n)) →
    (n : ℕ) → n < 10 * p → DigitsOf (suc f) n (digits_within (suc f) n)
more-digits f p r n h = elim (dec_lt n 10) [
  | yes l ↦ one-digit f n l
  | no l ↦
      let front : List ℕ = digits_within f (n / 10) in
      let s : DigitsOf f (n / 10) front = r (n / 10) (omega arith) in
      let b = 48 + n % 10 in
      let len = length-append front (b ∷ []) in
      rw (digits_more f n (omega arith)) (record {
        are = digits_append b s.are (omega arith) (omega arith);
        worth = value-append 0 front b ∙ (let e = s.worth in omega arith);
        some-digit = omega arith;
        at_most = let k = s.at_most in omega arith;
        lead = λ k. rw (get_or-append front (b ∷ []) 0 0 s.some-digit) (s.lead (omega arith));
        lone = λ k. absurd (omega arith);
      })
]

pub digits_of : (n : ℕ) → n < 100000 → DigitsOf 5 n (digits n)
unfolding digits
digits_of n h = more-digits 4 10000 (more-digits 3 1000 (more-digits 2 100 (more-digits 1 10 (one-digit 0)))) n h

pub no-leading-zero : {f n : ℕ} (ds : List ℕ) → DigitsOf f n ds → no_leading_zero ds ≡ true
unfolding no_leading_zero
no-leading-zero [] s = refl
no-leading-zero (b ∷ []) s = refl
no-leading-zero {f} {n} (b ∷ c ∷ bs) s = elim (dec_lt 0 n) [
  | yes k ↦ ap not (ne_eqb b 48 (λ e. let l = s.lead k in omega arith))
  | no k ↦ absurd (let l = s.lone (omega arith) in omega arith)
]

pub digits-form : {n : ℕ} (ds : List ℕ) → DigitsOf 5 n ds → in_form ds ≡ true
unfolding in_form
digits-form ds s =
    and_both _ _ (le-leb 1 (length ds) s.some-digit)
    (and_both _ _ (le-leb (length ds) 5 s.at_most) (no-leading-zero ds s))

pub number-written : (n : ℕ) → n < 100000 → {rest : List ℕ} → Stops rest → number (digits n ++ rest) ≡ taken n rest
unfolding taken_if
number-written n h {rest} s =
    let c = digits_of n h in
    number_is c.are s ∙ (rw (digits-form (digits n) c, c.worth) refl)

-- ---- what was read is what the number is written as
pub digits_value : (f n : ℕ) {ds : List ℕ} → Digits ds → 1 ≤ n →
    digits_within (length ds + f) (value_from n ds) ≡ digits_within f n ++ ds
unfolding value_from
digits_value f n no_digit h =
    let e : 0 + f ≡ f = omega arith in
    ap (λ (g : ℕ). digits_within g n) e ∙ sym (append-nil (digits_within f n))
digits_value f n (digit {b = b} {bs = bs} l m r) h =
    let v : ℕ = 10 * n + (b - 48) in
    let turns : suc (length bs) + f ≡ length bs + suc f = omega arith in
    let q : v / 10 ≡ n = omega arith in
    let d : 48 + v % 10 ≡ b = omega arith in
    ap (λ (g : ℕ). digits_within g (value_from v bs)) turns ∙
    (digits_value (suc f) v r (omega arith) ∙
    (ap (λ (xs : List ℕ). xs ++ bs) (digits_more f v (omega arith) ∙
    ap₂ (λ (a c : ℕ). digits_within f a ++ (c ∷ [])) q d) ∙
    append_assoc (digits_within f n) (b ∷ []) bs))

pub record Formed (ds : List ℕ) : Type 0 where
  pub some-digit : 1 ≤ length ds
  pub at_most : length ds ≤ 5
  pub lead : no_leading_zero ds ≡ true

pub formed : (ds : List ℕ) → in_form ds ≡ true → Formed ds
unfolding in_form
formed ds h =
    let k = and_right (leb 1 (length ds)) (leb (length ds) 5 && no_leading_zero ds) h in
    record {
      some-digit = leb-true 1 (length ds) (and_left (leb 1 (length ds)) _ h);
      at_most = leb-true (length ds) 5 (and_left (leb (length ds) 5) _ k);
      lead = and_right (leb (length ds) 5) (no_leading_zero ds) k;
    }

-- digits in form are the digits of their value
pub digits-formed : {ds : List ℕ} → Digits ds → in_form ds ≡ true → digits (value_from 0 ds) ≡ ds
unfolding digits value_from no_leading_zero
digits-formed no_digit h = absurd (let c = (formed [] h).some-digit in omega arith)
digits-formed (digit {b = b} l m no_digit) h =
    digits-one 4 (10 * 0 + (b - 48)) (omega arith) ∙ ap {B = List ℕ} (λ (c : ℕ). c ∷ []) (omega arith)
digits-formed (digit {b = b} l m (digit {b = c} {bs = bs} x y r)) h =
    let s = formed (b ∷ c ∷ bs) h in
    let k : b ≡ 48 → ⊥ = eqb-false b 48 (not-true (eqb b 48) s.lead) in
    let f : ℕ = 3 - length bs in
    let n : ℕ = 10 * 0 + (b - 48) in
    let short = s.at_most in
    let turns : 5 ≡ suc (length bs) + suc f = omega arith in
    ap (λ (g : ℕ). digits_within g (value_from n (c ∷ bs))) turns ∙
    (digits_value (suc f) n (digit x y r) (omega arith) ∙
    (ap (λ (xs : List ℕ). xs ++ (c ∷ bs)) (digits-one f n (omega arith)) ∙
    ap {B = List ℕ} (λ (d : ℕ). d ∷ c ∷ bs) (omega arith)))

pub value-small : {ds : List ℕ} → Digits ds → length ds ≤ 5 → value_from 0 ds < 100000
unfolding value_from
value-small no_digit h = omega arith
value-small (digit a b no_digit) h = omega arith
value-small (digit a b (digit c d no_digit)) h = omega arith
value-small (digit a b (digit c d (digit e f no_digit))) h = omega arith
value-small (digit a b (digit c d (digit e f (digit g i no_digit)))) h = omega arith
value-small (digit a b (digit c d (digit e f (digit g i (digit j k no_digit))))) h = omega arith
value-small (digit a b (digit c d (digit e f (digit g i (digit j k (digit l m n)))))) h = absurd (omega arith)

pub record NumberRead (bs : List ℕ) (r : Taken ℕ) : Type 0 where
  pub whole : bs ≡ digits r.value ++ r.rest
  pub small : r.value < 100000

pub number_read : (bs : List ℕ) (r : Taken ℕ) → number bs ≡ Some r → NumberRead bs r
unfolding taken_if
number_read bs r h = go c (in_form c.front) refl (rw (c.whole, number_is c.are c.stops) at h)
  where
    c : Split bs
    c = split-digits bs

    go : (c : Split bs) (b : Bool) → in_form c.front ≡ b → taken_if b (value_from 0 c.front) c.back ≡ Some r →
        NumberRead bs r
    go c false e h = absurd (no_none h)
    go c true e h =
        let v = taken-value h in
        let front : c.front ≡ digits r.value = sym (digits-formed c.are e) ∙ ap digits v in
        record {
          whole = c.whole ∙ ap₂ (λ (x y : List ℕ). x ++ y) front (taken-rest h);
          small = rw (← v) (value-small c.are (formed c.front e).at_most);
        }
