-- Bytes that must stand at a cursor, tested one by one: what follows all of them is what follows those that are left,
-- behind those that were found.
use Prim.Native.Nat.{ℕ, zero, suc, ◌+◌, ◌-◌, ◌≤◌, ◌<◌}
use mathlib.Core.Path.{◌≡◌, refl, sym, ◌∙◌, ap}
use mathlib.Core.Bool.{Bool, true, false, ◌&&◌}
use mathlib.Core.List.{List, [], ◌∷◌}
use Rattle.std.specs.Prelude.{Option, None, Some}
use native.Mathlib.Omega.{arith}
use native.Mathlib.Numerals.{add-one}
use lib.ListN.{length, get_or, drop, drop_of_length-le}
use lib.Seq.{drop-cons}
use lib.Dec.{eqb}
use borrow.Author.Tests.{eqb-true, eqb-false}
use Rattle.words.specs.Lists.{all, up_from}
use Rattle.words.proofs.Lists.{and_left, and_right, no_ft}
use Rattle.text.specs.Lines.{after}
use Rattle.text.proofs.ReadersAt.{after-here, not-after-here}

-- more bytes than there are
pub after-short : (ks bs : List ℕ) → length bs < length ks → after ks bs ≡ None
unfolding after
after-short [] bs h = absurd (omega arith)
after-short (k ∷ ks) [] h = refl
after-short (k ∷ ks) (b ∷ bs) h = go (eqb k b) (after-short ks bs (omega arith))
  where
    go : (c : Bool) → after ks bs ≡ None →
        ◌≡◌ {A = Option (List ℕ)} (elim c [ true ↦ after ks bs | false ↦ None ]) None
    go true e = e
    go false e = refl

module _ (text word : List ℕ) (at k : ℕ) (l : k < length word) (m : at + k < length text) where
  pub found_here : get_or text (at + k) 0 ≡ get_or word k 0 →
      after (drop k word) (drop (at + k) text) ≡ after (drop (k + 1) word) (drop (at + (k + 1)) text)
  found_here e =
      let z : at + (k + 1) ≡ suc (at + k) = omega arith in
      ap (λ (xs : List ℕ). after xs (drop (at + k) text)) (drop-cons word k 0 l) ∙
      (after-here text (at + k) (get_or word k 0) (drop (suc k) word) m e ∙
      rw (z, add-one) refl)

  pub differs-here : (get_or text (at + k) 0 ≡ get_or word k 0 → ⊥) → after (drop k word) (drop (at + k) text) ≡ None
  differs-here e =
      ap (λ (xs : List ℕ). after xs (drop (at + k) text)) (drop-cons word k 0 l) ∙
      not-after-here text (at + k) (get_or word k 0) (drop (suc k) word) m e

pub all_found : (text word : List ℕ) (at k : ℕ) → length word ≤ k →
    after (drop k word) (drop (at + k) text) ≡ Some (drop (at + k) text)
unfolding after
all_found text word at k l = ap (λ (xs : List ℕ). after xs (drop (at + k) text)) (drop_of_length-le word l)

-- ---- the test of all of them
module _ (text word : List ℕ) (at : ℕ) where
  abbrev pub same_byte : ℕ → Bool
  same_byte k = eqb (get_or text (at + k) 0) (get_or word k 0)

  module _ (fits : at + length word ≤ length text) where
    found_from : (n k : ℕ) → k + n ≡ length word → all same_byte (up_from k n) ≡ true →
        after (drop k word) (drop (at + k) text) ≡ Some (drop (at + length word) text)
    unfolding all up_from
    found_from zero k e h =
        let z : k ≡ length word = omega arith in
        all_found text word at k (omega arith) ∙ ap (λ (i : ℕ). Some (drop (at + i) text)) z
    found_from (suc n) k e h =
        let same = and_left (same_byte k) (all same_byte (up_from (suc k) n)) h in
        let more = and_right (same_byte k) (all same_byte (up_from (suc k) n)) h in
        found_here text word at k (omega arith) (omega arith) (eqb-true _ _ same) ∙
        rw (add-one) (found_from n (suc k) (omega arith) more)

    differs_from : (n k : ℕ) → k + n ≡ length word → all same_byte (up_from k n) ≡ false →
        after (drop k word) (drop (at + k) text) ≡ None
    unfolding all up_from
    differs_from zero k e h = absurd (no_ft (sym h))
    differs_from (suc n) k e h = go (same_byte k) refl h (differs_from n (suc k) (omega arith))
      where
        go : (b : Bool) → same_byte k ≡ b → (b && all same_byte (up_from (suc k) n)) ≡ false →
            (all same_byte (up_from (suc k) n) ≡ false → after (drop (suc k) word) (drop (at + suc k) text) ≡ None) →
            after (drop k word) (drop (at + k) text) ≡ None
        go true q h more =
            found_here text word at k (omega arith) (omega arith) (eqb-true _ _ q) ∙ rw (add-one) (more h)
        go false q h more = differs-here text word at k (omega arith) (omega arith) (eqb-false _ _ q)

    pub word_found : true ≡ all same_byte (up_from 0 (length word - 0)) →
        after word (drop at text) ≡ Some (drop (at + length word) text)
    word_found h =
        let z : at ≡ at + 0 = omega arith in
        ap (λ (i : ℕ). after word (drop i text)) z ∙ found_from (length word - 0) 0 (omega arith) (sym h)

    pub word_differs : false ≡ all same_byte (up_from 0 (length word - 0)) → after word (drop at text) ≡ None
    word_differs h =
        let z : at ≡ at + 0 = omega arith in
        ap (λ (i : ℕ). after word (drop i text)) z ∙ differs_from (length word - 0) 0 (omega arith) (sym h)
