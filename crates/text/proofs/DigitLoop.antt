-- The turns of the loop that reads a number, digit after digit: those read so far and those that still lead the rest
-- make up the digits at the front, so where the loop stops the number is that of the digits so far, or there is none.
use Prim.Native.Nat.{ℕ, zero, suc, ◌+◌, ◌-◌, ◌*◌, ◌≤◌, ◌<◌}
use mathlib.Core.Path.{◌≡◌, refl, sym, ◌∙◌, ap}
use mathlib.Core.Bool.{Bool, true, false, not, ◌&&◌}
use mathlib.Core.List.{List, [], ◌∷◌, ◌++◌, append_assoc, append-nil}
use Rattle.std.specs.Prelude.{None}
use Rattle.std.specs.Char.{IsNotAsciiDigit}
use mathlib.Core.Logic.{⊎_elim}
use native.Mathlib.Omega.{arith}
use lib.ListN.{length, drop, length-append}
use lib.Dec.{leb}
use borrow.Author.Tests.{le-leb, lt-leb, eq-eqb, ne_eqb}
use Rattle.words.proofs.Lists.{and_both}
use Rattle.words.proofs.Words.{and-false}
use Rattle.text.specs.declared.cursor.Cursor.{Cursor}
use Rattle.text.specs.Lines.{is_digit, leading_digits, value_from, no_leading_zero, in_form, number, taken_if}
use Rattle.text.specs.ReadCode.{rest, DigitHere, NumberHere}
use Rattle.text.proofs.Digits.{Digits, no_digit, digit, value-append, digits_append, value-small}
use Rattle.text.proofs.ReadersAt.{number-here}

pub low-no-digit : (b : ℕ) → b < 48 → is_digit b ≡ false
unfolding is_digit
low-no-digit b h = ap (λ (x : Bool). x && leb b 57) (lt-leb 48 b h)

pub high-no-digit : (b : ℕ) → 57 < b → is_digit b ≡ false
unfolding is_digit
high-no-digit b h = ap (λ (x : Bool). leb 48 b && x) (lt-leb b 57 h) ∙ and-false (leb 48 b)

pub other-no-digit : (b : ℕ) → IsNotAsciiDigit b → is_digit b ≡ false
other-no-digit b h = ⊎_elim (low-no-digit b) (high-no-digit b) h

-- the digits from a cursor up to another, and what they say
pub record SoFar (text : List ℕ) (start behind : Cursor) (value digits : ℕ) : Type 0 where
  pub read : List ℕ
  pub split : leading_digits (rest text start) ≡ read ++ leading_digits (rest text behind)
  pub are : Digits read
  pub count : length read ≡ digits
  pub most : digits ≤ 5
  pub worth : value_from 0 read ≡ value
  pub lead : no_leading_zero read ≡ true
  pub far : behind.at ≡ start.at + digits
  pub inside : 0 < digits → behind.at ≤ length text
  pub line : behind.line ≡ start.line

pub no-digit-yet : (text : List ℕ) (c : Cursor) → SoFar text c c 0 0
unfolding value_from no_leading_zero
no-digit-yet text c = record {
  read = [];
  split = refl;
  are = no_digit;
  count = refl;
  most = omega arith;
  worth = refl;
  lead = refl;
  far = omega arith;
  inside = λ l. absurd (omega arith);
  line = refl;
}

pub sofar-small : {text : List ℕ} {start behind : Cursor} {value digits : ℕ} → SoFar text start behind value digits →
    value < 100000
sofar-small s =
    let c = s.count in
    let m = s.most in
    let w = s.worth in
    let l = value-small s.are (omega arith) in
    omega arith

-- one more digit behind digits that are no lone 0
lead-more : {ds : List ℕ} (b : ℕ) → Digits ds → no_leading_zero ds ≡ true → (length ds ≡ 1 → value_from 0 ds ≡ 0 → ⊥) →
    no_leading_zero (ds ++ (b ∷ [])) ≡ true
unfolding no_leading_zero value_from
lead-more b no_digit h k = refl
lead-more b (digit {b = x} {bs = []} l m r) h k =
    ap not (ne_eqb x 48 (λ e. k refl (omega arith)))
lead-more b (digit {b = x} {bs = y ∷ ys} l m r) h k = h

module _ {text : List ℕ} {start behind : Cursor} {value digits : ℕ} (s : SoFar text start behind value digits) where
  pub one_more : {d : ℕ} {next : Cursor} → digits < 5 → (digits ≡ 1 → value ≡ 0 → ⊥) → DigitHere text behind d next →
      SoFar text start next (10 * value + d) (digits + 1)
  one_more {d} {next} l k h =
      let c = s.count in
      let w = s.worth in
      let f = s.far in
      let small = h.small in
      let o = h.one in
      let e : (48 + d) - 48 ≡ d = omega arith in
      record {
        read = s.read ++ ((48 + d) ∷ []);
        split = s.split ∙ (ap (λ (xs : List ℕ). s.read ++ xs) h.is ∙
            sym (append_assoc s.read ((48 + d) ∷ []) (leading_digits (rest text next))));
        are = digits_append (48 + d) s.are (omega arith) (omega arith);
        count = omega (arith, length-append s.read ((48 + d) ∷ []));
        most = omega arith;
        worth = value-append 0 s.read (48 + d) ∙ (ap (λ (x : ℕ). 10 * x + ((48 + d) - 48)) w ∙
            ap (λ (x : ℕ). 10 * value + x) e);
        lead = lead-more (48 + d) s.are s.lead (λ p q. k (sym c ∙ p) (sym w ∙ q));
        far = omega arith;
        inside = λ z. h.moved.inside;
        line = h.moved.line ∙ s.line;
      }

  -- no digit follows: the digits so far are those at the front
  front : leading_digits (rest text behind) ≡ [] → leading_digits (rest text start) ≡ s.read
  front h = s.split ∙ (ap (λ (xs : List ℕ). s.read ++ xs) h ∙ append-nil s.read)

  no-form : (ds : List ℕ) → leading_digits (rest text start) ≡ ds → in_form ds ≡ false → number (rest text start) ≡ None
  unfolding taken_if
  no-form ds e f =
      number-here text start.at ds e ∙
      ap (λ (b : Bool). taken_if b (value_from 0 ds) (drop (start.at + length ds) text)) f

  pub none_read : leading_digits (rest text behind) ≡ [] → digits ≡ 0 → number (rest text start) ≡ None
  unfolding in_form
  none_read h z =
      no-form s.read (front h)
      (let c = s.count in ap (λ (b : Bool). b && (leb (length s.read) 5 && no_leading_zero s.read))
      (lt-leb 1 (length s.read) (omega arith)))

  pub number-done : leading_digits (rest text behind) ≡ [] → (digits ≡ 0 → ⊥) → NumberHere text start value behind
  unfolding in_form taken_if
  number-done h z =
      let c = s.count in
      let m = s.most in
      let f = s.far in
      let Some : 1 ≤ digits = positive digits z in
      let formed : in_form s.read ≡ true =
      and_both _ _ (le-leb 1 (length s.read) (omega arith))
      (and_both _ _ (le-leb (length s.read) 5 (omega arith)) s.lead) in
      let e : start.at + length s.read ≡ behind.at = omega arith in
      let w = s.worth in
      record {
        is = number-here text start.at s.read (front h) ∙
            (ap (λ (b : Bool). taken_if b (value_from 0 s.read) (drop (start.at + length s.read) text)) formed ∙
            rw (e, w) refl);
        small = sofar-small s;
        moved = record { on = omega arith; inside = s.inside Some; line = s.line };
      }
    where
      positive : (n : ℕ) → (n ≡ 0 → ⊥) → 1 ≤ n
      positive zero z = absurd (z refl)
      positive (suc n) z = omega arith

  -- a sixth digit
  pub too_long : {d : ℕ} {next : Cursor} → digits ≡ 5 → DigitHere text behind d next → number (rest text start) ≡ None
  unfolding in_form
  too_long {d} {next} z h =
      let more = leading_digits (rest text next) in
      let ds : List ℕ = s.read ++ ((48 + d) ∷ more) in
      let c = s.count in
      let long : 5 < length ds = omega (arith, length-append s.read ((48 + d) ∷ more)) in
      no-form ds (s.split ∙ ap (λ (xs : List ℕ). s.read ++ xs) h.is)
      (ap (λ (b : Bool). leb 1 (length ds) && (b && no_leading_zero ds)) (lt-leb (length ds) 5 long) ∙
      and-false (leb 1 (length ds)))

  -- a digit behind a leading 0
  pub leading-zero : {d : ℕ} {next : Cursor} → digits ≡ 1 → value ≡ 0 → DigitHere text behind d next →
      number (rest text start) ≡ None
  unfolding in_form no_leading_zero value_from
  leading-zero {d} {next} z v h =
      let more = leading_digits (rest text next) in
      let ds : List ℕ = s.read ++ ((48 + d) ∷ more) in
      no-form ds (s.split ∙ ap (λ (xs : List ℕ). s.read ++ xs) h.is)
      (ap (λ (b : Bool). leb 1 (length ds) && (leb (length ds) 5 && b))
      (zero-leads s.are (s.count ∙ z) (s.worth ∙ v) (48 + d) more) ∙
      (ap (λ (b : Bool). leb 1 (length ds) && b) (and-false (leb (length ds) 5)) ∙ and-false (leb 1 (length ds))))
    where
      zero-leads : {ds : List ℕ} → Digits ds → length ds ≡ 1 → value_from 0 ds ≡ 0 → (b : ℕ) (more : List ℕ) →
          no_leading_zero (ds ++ (b ∷ more)) ≡ false
      zero-leads no_digit e w b more = absurd (omega arith)
      zero-leads (digit {b = x} {bs = []} l m r) e w b more = ap not (eq-eqb x 48 (omega arith))
      zero-leads (digit {b = x} {bs = y ∷ ys} l m r) e w b more = absurd (omega arith)
