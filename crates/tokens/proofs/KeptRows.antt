-- The words in which parts are kept: no two things stand at one place, so what is written at one place of one row
-- leaves every other thing, of that row, of the others and behind them; and so does what is written of one part.
use Prim.Native.Nat.{ℕ, ◌+◌, ◌*◌, ◌≤◌, ◌<◌}
use mathlib.Core.Path.{◌≡◌, ◌∙◌, ap}
use mathlib.Core.Bool.{Bool, cond}
use mathlib.Core.List.{List}
use native.Mathlib.Omega.{arith}
use lib.ListN.{length, get_or, set, length-set}
use lib.Seq.{get_or-set_same, get_or-set_other}
use borrow.Author.Tests.{lt-ltb}
use Rattle.task.specs.Limits.{most_schemas, most_schema_atoms}
use Rattle.tokens.specs.Kept.{start_place, first_place, pair_place, kept_row, kept_words, order_place, own_place, field}
use Rattle.tokens.specs.Kept.{with_field, part_word, own_word, with_part, word_in, kept_start, kept_first, kept_pair}

-- a word inside the array
pub word-inside : (kept : List ℕ) (i : ℕ) → i < kept_words → word_in kept i ≡ get_or kept i 0
unfolding word_in
word-inside kept i l = ap (λ (b : Bool). cond b (get_or kept i 0) 0) (lt-ltb i kept_words l)

-- a place in all is one place of one row
one_place : (s k r i : ℕ) → k < kept_row → i < kept_row → kept_row * s + k ≡ kept_row * r + i → (s ≡ r) × (k ≡ i)
one_place s k r i a b e = (omega arith, omega arith)

module _ (kept : List ℕ) (s k v : ℕ) where
  pub field-long : length kept ≡ kept_words → length (with_field kept s k v) ≡ kept_words
  field-long l = length-set kept (kept_row * s + k) v ∙ l

  pub field_put : length kept ≡ kept_words → s ≤ most_schemas → k < kept_row → field (with_field kept s k v) s k ≡ v
  field_put l a b = get_or-set_same kept (kept_row * s + k) v 0 (omega arith)

  -- another row, or another place of the row
  pub field-stays : (r i : ℕ) → k < kept_row → i < kept_row → ((s ≡ r) × (k ≡ i) → ⊥) →
      field (with_field kept s k v) r i ≡ field kept r i
  field-stays r i a b n =
      get_or-set_other kept (kept_row * s + k) (kept_row * r + i) v 0 (λ e. n (one_place s k r i a b (omega arith)))

  -- all that stands before it
  pub before-stays : (i : ℕ) → i < kept_row * s + k → get_or (with_field kept s k v) i 0 ≡ get_or kept i 0
  before-stays i a = get_or-set_other kept (kept_row * s + k) i v 0 (λ e. omega arith)

  -- and all that stands behind the rows
  pub behind-stays : (i : ℕ) → s ≤ most_schemas → k < kept_row → order_place ≤ i →
      get_or (with_field kept s k v) i 0 ≡ get_or kept i 0
  behind-stays i a b c = get_or-set_other kept (kept_row * s + k) i v 0 (λ e. omega arith)

-- ---- a row begins: its schema's first atom, the split's number of its first part, and its first pair
module _ (kept : List ℕ) (s start first pair : ℕ) where
  abbrev one : List ℕ
  one = with_field kept s start_place start

  abbrev two : List ℕ
  two = with_field one s first_place first

  abbrev pub row_begun : List ℕ
  row_begun = with_field two s pair_place pair

  -- all that stands before the row still stands, and all that stands behind the rows
  pub begun-before : (i : ℕ) → i < kept_row * s → get_or row_begun i 0 ≡ get_or kept i 0
  begun-before i l =
      before-stays two s pair_place pair i (omega arith) ∙
      (before-stays one s first_place first i (omega arith) ∙ before-stays kept s start_place start i (omega arith))

  pub begun-behind : s ≤ most_schemas → (i : ℕ) → order_place ≤ i → get_or row_begun i 0 ≡ get_or kept i 0
  begun-behind a i l =
      behind-stays two s pair_place pair i a (omega arith) l ∙
      (behind-stays one s first_place first i a (omega arith) l ∙
      behind-stays kept s start_place start i a (omega arith) l)

  module _ (long : length kept ≡ kept_words) where
    one-long : length one ≡ kept_words
    one-long = field-long kept s start_place start long

    two-long : length two ≡ kept_words
    two-long = field-long one s first_place first one-long

    pub begun-long : length row_begun ≡ kept_words
    begun-long = field-long two s pair_place pair two-long

    module _ (inside : s ≤ most_schemas) where
      pub begun-start : kept_start row_begun s ≡ start
      begun-start =
          field-stays two s pair_place pair s start_place (omega arith) (omega arith) (λ z. omega arith) ∙
          (field-stays one s first_place first s start_place (omega arith) (omega arith) (λ z. omega arith) ∙
          field_put kept s start_place start long inside (omega arith))

      pub begun_first : kept_first row_begun s ≡ first
      begun_first =
          field-stays two s pair_place pair s first_place (omega arith) (omega arith) (λ z. omega arith) ∙
          field_put one s first_place first one-long inside (omega arith)

      pub begun-pair : kept_pair row_begun s ≡ pair
      begun-pair = field_put two s pair_place pair two-long inside (omega arith)

-- ---- a part and its parameters, at the place of atom i
module _ (kept : List ℕ) (i p r : ℕ) where
  pub part-long : length (with_part kept i p r) ≡ length kept
  part-long = length-set (set kept (order_place + i) p) (own_place + i) r ∙ length-set kept (order_place + i) p

  pub other-stays : (k : ℕ) → (order_place + i ≡ k → ⊥) → (own_place + i ≡ k → ⊥) →
      get_or (with_part kept i p r) k 0 ≡ get_or kept k 0
  other-stays k a b =
      get_or-set_other (set kept (order_place + i) p) (own_place + i) k r 0 (λ e. b (omega arith)) ∙
      get_or-set_other kept (order_place + i) k p 0 (λ e. a (omega arith))

  pub part-put : length kept ≡ kept_words → i < most_schema_atoms → part_word (with_part kept i p r) i ≡ p
  part-put l a =
      get_or-set_other (set kept (order_place + i) p) (own_place + i) (order_place + i) r 0 (λ e. omega arith) ∙
      get_or-set_same kept (order_place + i) p 0 (omega arith)

  pub own_put : length kept ≡ kept_words → i < most_schema_atoms → own_word (with_part kept i p r) i ≡ r
  own_put l a =
      get_or-set_same (set kept (order_place + i) p) (own_place + i) r 0
      (omega (arith, length-set kept (order_place + i) p))
