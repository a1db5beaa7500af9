-- The bytes of a refusal's line one behind another, and how many they are at most.
use Prim.Native.Nat.{ℕ, zero, suc, ◌+◌, ◌-◌, ◌/◌, ◌%◌, ◌≤◌, ◌<◌}
use mathlib.Core.Path.{◌≡◌, refl, sym, ◌∙◌, ap, subst}
use mathlib.Core.List.{List, [], ◌∷◌, ◌++◌, append_assoc}
use native.Mathlib.Omega.{arith}
use lib.ListN.{length, drop, length-append}
use Rattle.words.specs.Lists.{over}
use Rattle.words.proofs.Puts.{put-over}
use Rattle.text.specs.Lines.{bytes, colon, newline, digits_within, digits, commaed, entry_bytes, line}
use Rattle.words.specs.Putting.{Puts}
use Rattle.text.specs.TableLines.{longest_text}
use Rattle.text.proofs.Digits.{digits-one, digits_more}
use Rattle.text.proofs.DigitSteps.{at-most-five}
use Rattle.programs.specs.Programs.{refusal}
use Rattle.programs.specs.Printing.{Prints}

-- ---- what is put at the front is printed
pub puts-prints : {lent text after : List ℕ} {n : ℕ} → 0 + length text ≤ length lent → Puts lent 0 text after n →
    Prints lent text after n
puts-prints {lent} {text} h p =
    record { bytes = p.words ∙ put-over text lent (omega arith); count = let e = p.place in omega arith }

pub prints-same : {lent text same after : List ℕ} {n : ℕ} → text ≡ same → Prints lent text after n →
    Prints lent same after n
prints-same {lent} {text} {same} {after} {n} e p = subst (λ (bs : List ℕ). Prints lent bs after n) e p

-- a text lies within the bytes that it was printed over
pub printed-within : (text lent : List ℕ) {after : List ℕ} {n : ℕ} → after ≡ over text lent → n ≡ length text →
    n ≤ length after
unfolding over
printed-within text lent e h =
    let b = ap length e in
    let l = length-append text (drop (length text) lent) in
    omega arith

-- ---- a number's digits, as `put_digits` puts them
pub no-digits : (w : List ℕ) (at most n : ℕ) → most ≡ 0 → Puts w at (digits_within most n) w at
unfolding digits_within
no-digits w at most n e =
    subst (λ (m : ℕ). Puts w at (digits_within m n) w at) (sym e) (record { words = refl; place = omega arith })

pub last-digit : (most n : ℕ) → (most ≡ 0 → ⊥) → n < 10 → digits_within most n ≡ (48 + n) ∷ []
last-digit zero n some h = absurd (some refl)
last-digit (suc m) n some h = digits-one m n h

pub digits-before : (most n : ℕ) → (most ≡ 0 → ⊥) → 10 ≤ n →
    digits_within most n ≡ digits_within (most - 1) (n / 10) ++ ((48 + n % 10) ∷ [])
digits-before zero n some h = absurd (some refl)
digits-before (suc m) n some h =
    let e : m ≡ suc m - 1 = omega arith in
    digits_more m n h ∙ ap (λ (k : ℕ). digits_within k (n / 10) ++ ((48 + n % 10) ∷ [])) e

-- ---- a refusal's line
-- the line's bytes, one behind another
abbrev pub refusal_bytes : ℕ → ℕ → List ℕ
refusal_bytes number place =
    bytes "refused=" ++ (digits_within 5 number ++ (colon ∷ (digits_within 5 place ++ (newline ∷ []))))

pub refusal_is : (number place : ℕ) → refusal_bytes number place ≡ refusal number place
unfolding refusal line entry_bytes commaed digits bytes
refusal_is number place =
    ap (λ (bs : List ℕ). bytes "refused=" ++ bs)
    (sym (append_assoc (digits_within 5 number) (colon ∷ digits_within 5 place) (newline ∷ [])))

-- bytes that hold every text hold a refusal's line
pub refusal-room : (number place : ℕ) {n : ℕ} → longest_text ≤ n → 0 + length (refusal_bytes number place) ≤ n
unfolding bytes digits longest_text
refusal-room number place h =
    let n = length-append (digits_within 5 number) (colon ∷ (digits_within 5 place ++ (newline ∷ []))) in
    let p = length-append (digits_within 5 place) (newline ∷ []) in
    let few = at-most-five number in
    let more = at-most-five place in
    omega arith
