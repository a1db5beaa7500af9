-- Rows in file order, by the schema's number in each: each names a schema, and their numbers never fall.
use Prim.Native.Nat.{ℕ, zero, suc, ◌+◌, ◌-◌, ◌*◌, ◌≤◌, ◌<◌}
use mathlib.Core.Path.{◌≡◌, sym, ◌∙◌, ap, subst}
use mathlib.Core.Bool.{Bool, true, false, ◌&&◌}
use mathlib.Core.List.{List}
use native.Mathlib.Omega.{arith}
use native.Mathlib.Nat.{mul-suc, mul-le-mul_left}
use lib.ListN.{length, get_or}
use lib.Dec.{ltb, leb}
use borrow.Author.Tests.{ltb-true, leb-true, lt-ltb, le-ltb, le-leb, lt-leb}
use Rattle.task.specs.Layout.{pairs_base, rows_base, pair_base, atom_base}
use Rattle.task.specs.Limits.{pair_size, atom_size}
use Rattle.task.specs.Table.{pair_number_in, schema_number_in}
use Rattle.std.specs.Prelude.{Option, None, Some}
use Rattle.std.specs.Option.{MatchOption, unwrap_or}
use Rattle.task.specs.WordTests.{in_file_order, RunOf}
use Rattle.words.proofs.Lists.{and_left, and_right, and_both, both-ft, false-if}
use Rattle.words.proofs.Ranges.{all-below, below_all}

-- the schema's number in each pair, and in each atom, read from where the rows of that kind begin
pub pair-numbers : (w : List ℕ) (base : ℕ) → base ≡ pairs_base w →
    (λ (i : ℕ). get_or w (base + pair_size * i) 0) ≡ pair_number_in w
unfolding pair_number_in pair_base
pair-numbers w base e = λ j i. get_or w (e j + pair_size * i) 0

pub atom-numbers : (w : List ℕ) (base : ℕ) → base ≡ rows_base w →
    (λ (i : ℕ). get_or w (base + atom_size * i) 0) ≡ schema_number_in w
unfolding schema_number_in atom_base
atom-numbers w base e = λ j i. get_or w (e j + atom_size * i) 0

pub record Ordered (number : ℕ → ℕ) (schemas n : ℕ) : Type 0 where
  pub known : (i : ℕ) → i < n → number i < schemas
  pub rise : (i : ℕ) → suc i < n → number i ≤ number (suc i)

module _ (number : ℕ → ℕ) (schemas n : ℕ) where
  -- row i names a schema, and none lower than the row before it
  abbrev pub row_fits : ℕ → Bool
  row_fits i = ltb (number i) schemas && leb (number (i - 1)) (number i)

  pub ordered : in_file_order number schemas n ≡ true → Ordered number schemas n
  unfolding in_file_order
  ordered h = record {
    known = λ i l. ltb-true _ _ (and_left (ltb (number i) schemas) _ (all-below row_fits n h i l));
    rise = λ i l.
        let e : suc i - 1 ≡ i = omega arith in
        subst (λ (k : ℕ). number k ≤ number (suc i)) e
        (leb-true _ _ (and_right (ltb (number (suc i)) schemas) _ (all-below row_fits n h (suc i) l)));
  }

  pub in-order : ((i : ℕ) → i < n → number i < schemas) → ((i : ℕ) → suc i < n → number i ≤ number (suc i)) →
      in_file_order number schemas n ≡ true
  unfolding in_file_order
  in-order known rise =
      below_all row_fits n (λ i l. and_both _ _ (lt-ltb _ _ (known i l)) (le-leb _ _ (rises i l)))
    where
      rises : (i : ℕ) → i < n → number (i - 1) ≤ number i
      rises zero l = omega arith
      rises (suc i) l = let e : suc i - 1 ≡ i = omega arith in rw e (rise i l)

  -- numbers that never fall, at any distance
  pub rises-far : Ordered number schemas n → (i j : ℕ) → i ≤ j → j < n → number i ≤ number j
  rises-far o i j l m = let e : i + (j - i) ≡ j = omega arith in
      subst (λ (k : ℕ). number i ≤ number k) e (go (j - i) (omega arith))
    where
      go : (k : ℕ) → i + k < n → number i ≤ number (i + k)
      go zero h = let e : i + 0 ≡ i = omega arith in rw e (omega arith)
      go (suc k) h =
          let e : i + suc k ≡ suc (i + k) = omega arith in
          let a = go k (omega arith) in
          let b = o.rise (i + k) (omega arith) in
          rw e (omega arith)

  -- row i, by a number that compares as that of the row before
  module _ (i before : ℕ) (h : leb before (number i) ≡ leb (number (i - 1)) (number i)) where
    pub number-low : number i < before → row_fits i ≡ false
    number-low l = false-if (row_fits i) (λ k. both-ft (and_right (ltb (number i) schemas) _ k) (sym h ∙ lt-leb _ _ l))

    pub number-high : schemas ≤ number i → row_fits i ≡ false
    number-high l = ap (λ (b : Bool). b && leb (number (i - 1)) (number i)) (le-ltb _ _ l)

    pub number-right : before ≤ number i → number i < schemas → row_fits i ≡ true
    number-right l k = and_both _ _ (lt-ltb _ _ k) (sym h ∙ le-leb _ _ l)

pub number-first : (number : ℕ → ℕ) → leb 0 (number 0) ≡ leb (number (0 - 1)) (number 0)
number-first number =
    le-leb 0 (number 0) (omega arith) ∙ sym (le-leb (number 0) (number 0) (omega arith))

pub number-next : (number : ℕ → ℕ) (i before : ℕ) → before ≡ number i →
    leb before (number (i + 1)) ≡ leb (number (i + 1 - 1)) (number (i + 1))
number-next number i before e =
    let z : i ≡ i + 1 - 1 = omega arith in
    ap (λ (n : ℕ). leb n (number (i + 1))) (e ∙ ap number z)

-- the first word of row i lies in words that hold n rows from a base on
pub row_inside : (w : List ℕ) (base size i n : ℕ) → (1 ≤ size) × (base + size * n ≤ length w) → i < n →
    base + size * i < length w
row_inside w base size i n (some, fits) l =
    let a : size * suc i ≤ size * n = mul-le-mul_left size l in
    let b = mul-suc size i in
    omega arith

-- the rows of a schema end before the first that names another, or with all rows
pub run-found : (number : ℕ → ℕ) (n s start : ℕ) (r : Option ℕ) → start ≤ n →
    MatchOption r ((k : ℕ) → start ≤ k → k < n → number k ≡ s)
    (λ i. (start ≤ i) × (i < n) × (number i ≡ s → ⊥) × ((k : ℕ) → start ≤ k → k < i → number k ≡ s)) →
    RunOf number n s start (unwrap_or r n)
run-found number n s start None l h =
    record { from = l; to = omega arith; inside = h; beyond = λ m. absurd (omega arith) }
run-found number n s start (Some i) l (a, b, other, h) =
    record { from = a; to = omega arith; inside = h; beyond = λ m. other }
