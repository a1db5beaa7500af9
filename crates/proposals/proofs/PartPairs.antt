-- The pairs that are tried are all pairs of parts, by lower and then higher part number: a pair that passes a test
-- where none before it does is the first to pass.
use Prim.Native.Nat.{ℕ, zero, suc, ◌+◌, ◌-◌, ◌≤◌, ◌<◌}
use mathlib.Core.Path.{◌≡◌, refl, sym, ◌∙◌, ap, subst}
use mathlib.Core.Bool.{Bool, true, false}
use mathlib.Core.List.{List, [], ◌∷◌, ◌++◌, map}
use mathlib.Core.Logic.{◌⊎◌, inl, inr}
use Rattle.std.specs.Prelude.{Some}
use native.Mathlib.Omega.{arith}
use native.Mathlib.Decide.{dec_lt}
use Rattle.words.specs.Lists.{head, filter, keep_if, first, concat_map, up_from, up_to}
use Rattle.words.proofs.Lists.{In, here, there, in_map, map-in, in-up_from, up_from-in, in-up_to, up_to-in}
use Rattle.words.proofs.Lists.{concat_map-in, in-concat_map}
use Rattle.proposals.specs.Proposal.{PartPair, pairs_with, part_pairs}

abbrev pub pair : ℕ → ℕ → PartPair
pair a b = record { lower = a; higher = b }

pub pair-in : (n a b : ℕ) → a < b → b < n → In (pair a b) (part_pairs n)
unfolding part_pairs pairs_with
pair-in n a b l m =
    in-concat_map (pairs_with n) (in-up_to n a (omega arith))
    (in_map (pair a) (in-up_from (suc a) (n - suc a) b (omega arith) (omega arith)))

pub in_pairs : (n : ℕ) (c : PartPair) → In c (part_pairs n) → (c.lower < c.higher) × (c.higher < n)
unfolding part_pairs pairs_with
in_pairs n c i =
    let (a, j, k) = concat_map-in (pairs_with n) (up_to n) c i in
    let (b, m, e) = map-in (pair a) (up_from (suc a) (n - suc a)) c k in
    let (x, y) = up_from-in (suc a) (n - suc a) b m in
    let u = ap (λ (z : PartPair). z.lower) e in
    let v = ap (λ (z : PartPair). z.higher) e in
    let w = up_to-in n a j in
    (omega arith, omega arith)

-- ---- the first of a list
-- the elements before x don't pass
data Skipped {A : Type 0} (test : A → Bool) (x : A) : List A → Type 0 where
  at : {xs : List A} → Skipped test x (x ∷ xs)
  past : {y : A} {xs : List A} → test y ≡ false → Skipped test x xs → Skipped test x (y ∷ xs)

module _ {A : Type 0} (test : A → Bool) (x : A) where
  skipped-first : {xs : List A} → test x ≡ true → Skipped test x xs → first test xs ≡ Some x
  unfolding first head filter keep_if
  skipped-first h at = rw h refl
  skipped-first h (past e k) = rw e (skipped-first h k)

  skipped-all : (xs ys : List A) → ((y : A) → In y xs → test y ≡ false) → Skipped test x ys → Skipped test x (xs ++ ys)
  skipped-all [] ys h k = k
  skipped-all (y ∷ xs) ys h k = past (h y (here refl)) (skipped-all xs ys (λ z i. h z (there i)) k)

  skipped-on : {xs : List A} (ys : List A) → Skipped test x xs → Skipped test x (xs ++ ys)
  skipped-on ys at = at
  skipped-on ys (past e k) = past e (skipped-on ys k)

-- ---- the first pair
-- pair (c, d) comes before pair (a, b)
abbrev pub Before : ℕ → ℕ → ℕ → ℕ → Type 0
Before c d a b = (c < a) ⊎ ((c ≡ a) × (d < b))

module _ (test : PartPair → Bool) (n a b : ℕ) (l : a < b) (m : b < n)
    (before : (c d : ℕ) → c < d → d < n → Before c d a b → test (pair c d) ≡ false) where
  abbrev Skips : List PartPair → Type 0
  Skips cs = Skipped test (pair a b) cs

  -- of the pairs whose lower part is a those up to b
  row : (from k : ℕ) → a < from → from ≤ b → from + k ≡ n → Skips (map (pair a) (up_from from k))
  unfolding up_from
  row from zero u v e = absurd (omega arith)
  row from (suc k) u v e = elim (dec_lt from b) [
    | yes h ↦ past (before a from u (omega arith) (inr (refl, h))) (row (suc from) k (omega arith) h (omega arith))
    | no h ↦
        let z : b ≡ from = omega arith in
        subst (λ (x : ℕ). Skipped test (pair a x) (pair a from ∷ map (pair a) (up_from (suc from) k))) (sym z) at
  ]

  -- and all whose lower part is less
  rows : (from k : ℕ) → from ≤ a → from + k ≡ n → Skips (concat_map (pairs_with n) (up_from from k))
  unfolding concat_map up_from pairs_with
  rows from zero u e = absurd (omega arith)
  rows from (suc k) u e = elim (dec_lt from a) [
    | yes h ↦ skipped-all test (pair a b) (pairs_with n from) rest (None h) (rows (suc from) k h (omega arith))
    | no h ↦
        let z : a ≡ from = omega arith in
        skipped-on test (pair a b) rest
        (subst (λ (x : ℕ). Skips (pairs_with n x)) z (row (suc a) (n - suc a) (omega arith) l (omega arith)))
  ]
    where
      rest : List PartPair
      rest = concat_map (pairs_with n) (up_from (suc from) k)

      None : from < a → (c : PartPair) → In c (pairs_with n from) → test c ≡ false
      None h c i =
          let (d, j, f) = map-in (pair from) (up_from (suc from) (n - suc from)) c i in
          let (x, y) = up_from-in (suc from) (n - suc from) d j in
          ap test f ∙ before from d (omega arith) (omega arith) (inl h)

  pub first-of-pairs : test (pair a b) ≡ true → first test (part_pairs n) ≡ Some (pair a b)
  unfolding part_pairs up_to
  first-of-pairs h = skipped-first test (pair a b) h (rows 0 n (omega arith) (omega arith))
