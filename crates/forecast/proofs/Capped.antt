-- Arithmetic that stops at a limit: a sum or a product of capped numbers, capped again, is that of the numbers
-- themselves. A product is tested by a division before it is made. So the powers of a number are kept one after
-- another.
use Prim.Native.Nat.{ℕ, zero, suc, ◌+◌, ◌-◌, ◌*◌, ◌/◌, ◌^◌, ◌≤◌, ◌<◌}
use mathlib.Core.Path.{◌≡◌, refl, sym, ◌∙◌, ap}
use mathlib.Core.List.{List, map}
use native.Mathlib.Nat.{le-div_iff_mul-le, div-lt_iff_lt-mul, le-mul_of_pos_right, pow-zero, pow-suc}
use native.Mathlib.Decide.{dec_le}
use native.Mathlib.Omega.{arith}
use native.Mathlib.Numerals.{add-one}
use lib.ListN.{length, get_or, set, length-set}
use lib.Seq.{get_or-set_same, get_or-set_other}
use lib.Dec.{ltb}
use borrow.Author.Tests.{ltb-true, lt-ltb}
use Rattle.std.specs.List.{fold, range_with_len}
use Rattle.words.specs.Lists.{sum, up_from, up_to}
use Rattle.words.proofs.Lists.{bool-ext}
use Rattle.words.proofs.Sums.{total}
use Rattle.task.specs.Limits.{most_parameters}
use Rattle.forecast.specs.Forecast.{instance_limit}
use Rattle.forecast.specs.Capped.{capped, PowersUpTo}

-- the limit as code writes it
pub limit_is : instance_limit ≡ 9223372036854775808
unfolding instance_limit
limit_is = refl

module _ (limit : ℕ) where
  -- being below the limit is seen
  pub capped-reached : (n : ℕ) → ltb (capped limit n) limit ≡ ltb n limit
  capped-reached n =
      bool-ext (ltb (capped limit n) limit) (ltb n limit)
      (λ e. lt-ltb n limit (omega (arith, ltb-true (capped limit n) limit e)))
      (λ e. lt-ltb (capped limit n) limit (omega (arith, ltb-true n limit e)))

  pub capped-plus : (m n : ℕ) {x y r : ℕ} → x ≡ capped limit m → y ≡ capped limit n → r ≡ capped limit (x + y) →
      r ≡ capped limit (m + n)
  capped-plus m n e f g = omega arith

  pub capped-times : (x n : ℕ) → 1 ≤ n → capped limit (capped limit x * n) ≡ capped limit (x * n)
  capped-times x n h = elim (dec_le limit x) [
    | yes l ↦
        let e : capped limit x ≡ limit = omega arith in
        omega (arith, ap (λ (y : ℕ). y * n) e, le-mul_of_pos_right {m = n} limit h, le-mul_of_pos_right {m = n} x h)
    | no l ↦ let e : capped limit x ≡ x = omega arith in ap (λ (y : ℕ). capped limit (y * n)) e
  ]

  -- a factor that is at most what the division leaves makes a product below the limit, and a larger one reaches it
  module _ (x n : ℕ) (some : 1 ≤ n) where
    pub times-fits : 1 ≤ limit → x ≤ (limit - 1) / n → x * n < limit
    times-fits h l = omega (arith, (le-div_iff_mul-le {k = n} {x = x} {y = limit - 1} some).0 l)

    pub times-reaches : (limit - 1) / n < x → limit ≤ x * n
    times-reaches l = omega (arith, (div-lt_iff_lt-mul {k = n} {x = limit - 1} {y = x} some).0 l)

  -- sums of numbers that are capped themselves, as a chain over a range of numbers makes them
  module _ (f g : ℕ → ℕ) where
    added : (m e a n : ℕ) → m ≡ capped limit e → ((i : ℕ) → a ≤ i → i < a + n → g i ≡ capped limit (f i)) →
        fold (λ x y. capped limit (x + y)) m (map g (range_with_len a n)) ≡ capped limit (e + total f (up_from a n))
    unfolding sum up_from
    added m e a zero h k = omega arith
    added m e a (suc n) h k =
        let one = capped-plus e (f a) h (k a (omega arith) (omega arith)) refl in
        let rest = added (capped limit (m + g a)) (e + f a) (a + 1) n one (λ i l r. k i (omega arith) (omega arith)) in
        let next = ap (λ (i : ℕ). total f (up_from i n)) (add-one a) in
        omega arith

    pub added_capped : (n : ℕ) → ((i : ℕ) → i < n → g i ≡ capped limit (f i)) →
        fold (λ x y. capped limit (x + y)) 0 (map g (range_with_len 0 n)) ≡ capped limit (total f (up_to n))
    unfolding up_to
    added_capped n k = let e = added 0 0 0 n (omega arith) (λ i l r. k i (omega arith)) in omega arith

-- ---- powers
module _ (limit n : ℕ) (powers : List ℕ) where
  pub powers-none : 1 ≤ limit → length powers ≡ most_parameters + 1 → PowersUpTo limit n 0 (set powers 0 1)
  powers-none h l = record {
    long = length-set powers 0 1 ∙ l;
    power = λ k b.
        let e : k ≡ 0 = omega arith in
        omega (
          arith,
          ap (λ (i : ℕ). get_or (set powers 0 1) i 0) e,
          get_or-set_same powers 0 1 0 (omega arith),
          ap (λ (i : ℕ). n ^ i) e,
          pow-zero n,
        );
  }

  pub powers-more : (m p : ℕ) → 1 ≤ n → m < most_parameters → PowersUpTo limit n m powers →
      p ≡ capped limit (get_or powers m 0 * n) → PowersUpTo limit n (m + 1) (set powers (m + 1) p)
  powers-more m p some h old e = record {
    long = length-set powers (m + 1) p ∙ old.long;
    power = λ k b. elim (dec_le k m) [
      | yes l ↦ get_or-set_other powers (m + 1) k p 0 (λ z. omega arith) ∙ old.power k l
      | no l ↦
          let last : k ≡ m + 1 = omega arith in
          ap (λ (i : ℕ). get_or (set powers (m + 1) p) i 0) last ∙
          get_or-set_same powers (m + 1) p 0 (omega (arith, old.long)) ∙ next ∙
          ap (λ (i : ℕ). capped limit (n ^ i)) (sym last)
    ];
  }
    where
      next : p ≡ capped limit (n ^ (m + 1))
      next =
          e ∙ ap (λ (x : ℕ). capped limit (x * n)) (old.power m (omega arith)) ∙
          capped-times limit (n ^ m) n some ∙
          ap (capped limit) (sym (pow-suc n m) ∙ ap (λ (i : ℕ). n ^ i) (sym (add-one m)))
