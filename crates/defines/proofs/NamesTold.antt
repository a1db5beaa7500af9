-- Names are items, and tell their numbers: their bytes are letters, marks and digits, all beyond a closing bracket.
use Prim.Native.Nat.{ℕ, zero, suc, ◌+◌, ◌/◌, ◌%◌, ◌≤◌, ◌<◌}
use Prim.Native.String.{String}
use mathlib.Core.Path.{◌≡◌, refl, sym, ◌∙◌, ap}
use mathlib.Core.Bool.{Bool, true, ◌&&◌}
use mathlib.Core.List.{List, [], ◌∷◌, ◌++◌, map, append_cancel_left}
use native.Mathlib.Omega.{arith}
use native.Mathlib.Decide.{dec_lt}
use lib.ListN.{length, length-append}
use lib.Dec.{ltb, leb}
use borrow.Author.Tests.{leb-true, lt-ltb}
use Rattle.words.specs.Lists.{all, up_to}
use Rattle.words.proofs.Lists.{and_left, and_right, and_both}
use Rattle.words.proofs.Ranges.{all_append}
use Rattle.text.specs.Lines.{bytes, digits, value_from, digits_within}
use Rattle.text.proofs.Digits.{digits-one, digits_more, digits_of}
use Rattle.defines.specs.Pddl.{closing, bracket, named, names_up_to}
use Rattle.defines.proofs.Items.{Item, Items, more, plain_bytes, plain-item, bracket-item, bracket-same}
use Rattle.defines.proofs.Items.{items_map}
use Rattle.defines.proofs.Told.{count-told}

-- ---- digits
plain-append : (x y : List ℕ) → plain_bytes x ≡ true → plain_bytes y ≡ true → plain_bytes (x ++ y) ≡ true
plain-append x y h k = all_append (ltb closing) x y ∙ and_both _ _ h k

digit-plain : (d : ℕ) → plain_bytes ((48 + d) ∷ []) ≡ true
unfolding all
digit-plain d = and_both _ _ (lt-ltb closing (48 + d) (omega arith)) refl

within-plain : (f n : ℕ) → plain_bytes (digits_within f n) ≡ true
unfolding digits_within all
within-plain zero n = refl
within-plain (suc f) n = elim (dec_lt n 10) [
  | yes l ↦ rw (digits-one f n l) (digit-plain n)
  | no l ↦
      rw (digits_more f n (omega arith))
      (plain-append (digits_within f (n / 10)) ((48 + n % 10) ∷ []) (within-plain f (n / 10)) (digit-plain (n % 10)))
]

digits-plain : (n : ℕ) → plain_bytes (digits n) ≡ true
unfolding digits
digits-plain n = within-plain 5 n

-- ---- words of the language
unfoldable pub is_word : String → Bool
unfolding bytes all
is_word word = plain_bytes (bytes word) && leb 1 (length (bytes word))

module _ (word : String) (h : is_word word ≡ true) where
  word-plain : plain_bytes (bytes word) ≡ true
  unfolding is_word
  word-plain = and_left (plain_bytes (bytes word)) (leb 1 (length (bytes word))) h

  word-long : 1 ≤ length (bytes word)
  unfolding is_word
  word-long = leb-true 1 (length (bytes word)) (and_right (plain_bytes (bytes word)) (leb 1 (length (bytes word))) h)

  -- items behind a word
  pub behind-word : {xs : List (List ℕ)} → Items xs → Items (bytes word ∷ xs)
  behind-word is = more (plain-item (bytes word) word-plain word-long) is

  -- a bracketed list that begins with a word
  pub headed-item : {xs : List (List ℕ)} → Items xs → Item (bracket (bytes word ∷ xs))
  headed-item is = bracket-item (behind-word is)

  pub headed-same : {xs ys : List (List ℕ)} → Items xs → Items ys →
      bracket (bytes word ∷ xs) ≡ bracket (bytes word ∷ ys) → xs ≡ ys
  headed-same {xs} {ys} is js e = let same = bracket-same (behind-word is) (behind-word js) e in cc

  -- ---- the names of a kind
  pub named-item : (n : ℕ) → Item (named word n)
  unfolding named
  named-item n =
      let long = word-long in
      plain-item (bytes word ++ digits n) (plain-append (bytes word) (digits n) word-plain (digits-plain n))
      (omega (arith, length-append (bytes word) (digits n)))

  pub named-items : (ns : List ℕ) → Items (map (named word) ns)
  named-items ns = items_map (named word) named-item ns

  pub names-items : (n : ℕ) → Items (names_up_to word n)
  unfolding names_up_to
  names-items n = named-items (up_to n)

pub named-same : (kind : String) (m n : ℕ) → m < 100000 → n < 100000 → named kind m ≡ named kind n → m ≡ n
unfolding named
named-same kind m n h k e =
    let same = append_cancel_left (bytes kind) (digits m) (digits n) e in
    sym (digits_of m h).worth ∙ (ap (value_from 0) same ∙ (digits_of n k).worth)

pub names_same : (kind : String) (m n : ℕ) → names_up_to kind m ≡ names_up_to kind n → m ≡ n
unfolding names_up_to
names_same kind m n e = count-told (named kind) m n e
