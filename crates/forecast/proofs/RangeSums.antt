-- Ranges of numbers: what holds of each, and sums that chains over them make, of f of each or of those that a test takes.
use Prim.Native.Nat.{ℕ, zero, suc, ◌+◌, ◌-◌, ◌≤◌, ◌<◌}
use mathlib.Core.Path.{◌≡◌, refl, ap, subst}
use mathlib.Core.Bool.{Bool}
use mathlib.Core.List.{map}
use native.Mathlib.Omega.{arith}
use native.Mathlib.Decide.{dec_le}
use native.Mathlib.Numerals.{add-one}
use denote.Ref.{Bor}
use denote.Param.Members.{Mut}
use Rattle.std.specs.declared.ops.Range.{Range}
use Rattle.std.specs.declared.iter.Map.{Map}
use Rattle.std.specs.declared.iter.Filter.{Filter}
use Rattle.std.specs.Fn.{Called, CalledAt}
use Rattle.std.specs.List.{sum_by, fold, filter, range_with_len}
use Rattle.std.specs.Iterator.Adapters.{map_source, map_callee, filter_source, filter_callee, filter_steps}
use Rattle.std.proofs.iter.Yields.{nat_range_steps}
use Rattle.std.proofs.lemmas.Iterator.{YieldsList, YieldsList-from_range, YieldsList-from_map, maps}
use Rattle.std.proofs.lemmas.Iterator.Consumers.{YieldsList-at, YieldsList-from_filter}
use Rattle.words.specs.Lists.{sum, up_from, up_to}
use Rattle.words.proofs.Sums.{total}

-- ---- downwards: what holds of each number of a range, and of the one before it
pub run-before : (P : ℕ → Type 0) {i to : ℕ} → ((k : ℕ) → i ≤ k → k < to → P k) → P (i - 1) →
    (k : ℕ) → i - 1 ≤ k → k < to → P k
run-before P {i} h here k a l = elim (dec_le i k) [
  | yes b ↦ h k b l
  | no b ↦ let e : i - 1 ≡ k = omega arith in subst P e here
]

-- ---- the sum in our words
module _ (f : ℕ → ℕ) where
  added : (m a n : ℕ) → fold (λ b i. b + f i) m (range_with_len a n) ≡ m + total f (up_from a n)
  unfolding sum up_from
  added m a zero = omega arith
  added m a (suc n) =
      let e = added (m + f a) (a + 1) n in
      let next = ap (λ (i : ℕ). total f (up_from i n)) (add-one a) in
      omega arith

  pub counted_total : (n : ℕ) → sum_by f (range_with_len 0 n) ≡ total f (up_to n)
  unfolding up_to
  counted_total n = let e = added 0 0 n in omega arith

-- ---- what a chain sums up
module _ {F : Type 0} {gf : Mut F (ℕ × Unit {0}) ℕ} where
  pub mapped_road : {f : F} {s : Map (Range ℕ) F} (h : ℕ → ℕ) (n : ℕ) →
      map_source s ≡ record { start = 0; end = n } → map_callee s ≡ f →
      ((x r : ℕ) (q : F) → Called gf f (x, tt) r q → (q ≡ f) × (r ≡ h x)) →
      YieldsList (maps nat_range_steps gf) (λ r. r) s (map h (range_with_len 0 n))
  mapped_road h n numbers calls k =
      YieldsList-from_map gf h (YieldsList-at numbers (YieldsList-from_range 0 n n refl (omega arith))) calls k

  pub taken_road : {P : Type 0} {gp : Mut P (Bor ℕ × Unit {0}) Bool} {p : P} {f : F} {s : Map (Filter (Range ℕ) P) F}
      {t : Filter (Range ℕ) P} (test : ℕ → Bool) (h : ℕ → ℕ) (a b : ℕ) →
      filter_source t ≡ record { start = a; end = b } → filter_callee t ≡ p → map_source s ≡ t → map_callee s ≡ f →
      ((x : ℕ) (b : Bool) (q : P) → CalledAt gp p x b q → (q ≡ p) × (b ≡ test x)) →
      ((x r : ℕ) (q : F) → Called gf f (x, tt) r q → (q ≡ f) × (r ≡ h x)) →
      YieldsList (maps (filter_steps nat_range_steps gp) gf) (λ r. r) s (map h (filter test (range_with_len a (b - a))))
  taken_road {gp = gp} test h a b numbers takes through calls j k =
      let road = YieldsList-from_filter gp test (YieldsList-at numbers (YieldsList-from_range a b (b - a) refl refl)) takes j in
      YieldsList-from_map gf h (YieldsList-at through road) calls k
