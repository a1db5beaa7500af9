-- What is kept of one schema's parts grows position by position.
use Prim.Native.Nat.{ℕ, ◌+◌, ◌<◌}
use mathlib.Core.Path.{◌≡◌, sym, ◌∙◌, ap, subst}
use mathlib.Core.List.{List}
use native.Mathlib.Omega.{arith}
use native.Mathlib.Decide.{dec_lt}
use lib.ListN.{length, get_or}
use Rattle.task.specs.declared.Part.{Part}
use Rattle.words.proofs.Lists.{get_or-map}
use Rattle.tokens.specs.Acceptance.{part_at, OrderKept}
use Rattle.task.specs.Limits.{most_schema_atoms}
use Rattle.tokens.specs.Kept.{kept_words, order_place, own_place, part_word, own_word, with_part}
use Rattle.tokens.proofs.KeptRows.{part-long, other-stays, part-put, own_put}

pub part-is : (parts : List Part) (j : ℕ) → j < length parts → (get_or parts j (record { 0 = 0 })).0 ≡ part_at parts j
part-is parts j l = sym (get_or-map (λ (p : Part). p.0) parts j (record { 0 = 0 }) 0 l)

module _ (from : ℕ) (parts : List Part) (named kept₀ : List ℕ) where
  module _ (n p r : ℕ) (kept : List ℕ) (inside : from + n < most_schema_atoms)
      (wide : length kept ≡ kept_words) (is-part : p ≡ part_at parts n)
      (is-own : r ≡ get_or named p 0)
      (old : OrderKept from n parts named kept₀ kept) where
    abbrev both : List ℕ
    both = with_part kept (from + n) p r

    -- another word of the array
    stays : (k : ℕ) → (order_place + (from + n) ≡ k → ⊥) → (own_place + (from + n) ≡ k → ⊥) →
        get_or both k 0 ≡ get_or kept k 0
    stays = other-stays kept (from + n) p r

    up-to : (P : ℕ → Type 0) → ((j : ℕ) → j < n → P j) → P n → (j : ℕ) → j < n + 1 → P j
    up-to P a b j k = elim (dec_lt j n) [
      | yes m ↦ a j m
      | no m ↦ let e : n ≡ j = omega arith in subst P e b
    ]

    part-more : (j : ℕ) → j < n + 1 → part_word both (from + j) ≡ part_at parts j
    part-more = up-to (λ j. part_word both (from + j) ≡ part_at parts j)
        (λ j k. stays (order_place + (from + j)) (λ e. omega arith) (λ e. omega arith) ∙ old.part j k)
        (part-put kept (from + n) p r wide inside ∙ is-part)

    own-more : (j : ℕ) → j < n + 1 → own_word both (from + j) ≡ get_or named (part_at parts j) 0
    own-more = up-to (λ j. own_word both (from + j) ≡ get_or named (part_at parts j) 0)
        (λ j k. stays (own_place + (from + j)) (λ e. omega arith) (λ e. omega arith) ∙ old.own j k)
        (own_put kept (from + n) p r wide inside ∙ is-own ∙ ap (λ (q : ℕ). get_or named q 0) is-part)

    pub order-more : OrderKept from (n + 1) parts named kept₀ both
    order-more = record {
      long = part-long kept (from + n) p r ∙ old.long;
      rows = λ k a. stays k (λ e. omega arith) (λ e. omega arith) ∙ old.rows k a;
      parts-before = λ i a. stays (order_place + i) (λ e. omega arith) (λ e. omega arith) ∙ old.parts-before i a;
      owns-before = λ i a. stays (own_place + i) (λ e. omega arith) (λ e. omega arith) ∙ old.owns-before i a;
      part = part-more;
      own = own-more;
    }
