-- Places numbered in blocks, as the atoms of a table are by their schemas: which places have a number, and that numbers
-- which never fall lie so.
use Prim.Native.Nat.{ℕ, zero, suc, ◌+◌, ◌-◌, ◌≤◌, ◌<◌}
use mathlib.Core.Path.{◌≡◌, refl, ◌∙◌, ap, ap₂}
use mathlib.Core.Bool.{Bool}
use mathlib.Core.List.{List, [], ◌∷◌, ◌++◌}
use native.Mathlib.Omega.{arith}
use native.Mathlib.Decide.{dec_lt}
use lib.ListN.{length, get_or, take}
use lib.Dec.{eqb}
use borrow.Author.Tests.{eq-eqb, ne_eqb}
use Rattle.words.specs.Lists.{filter, sum, up_from}
use Rattle.words.proofs.Lists.{filter-all, filter-append, filter_none, up_from-append, up_from-in}

-- ---- places i, i + 1, .. numbered in blocks: the first c by n, the next by n + 1, ..
pub data Numbered (num : ℕ → ℕ) : ℕ → ℕ → List ℕ → Type 0 where
  no_block : {n i : ℕ} → Numbered num n i []
  block : {n i c : ℕ} {cs : List ℕ} → ((k : ℕ) → k < c → num (i + k) ≡ n) → Numbered num (suc n) (i + c) cs →
      Numbered num n i (c ∷ cs)

module _ (num : ℕ → ℕ) where
  pub numbered-from : {n i : ℕ} {cs : List ℕ} → Numbered num n i cs → (k : ℕ) → k < sum cs → n ≤ num (i + k)
  unfolding sum
  numbered-from no_block k h = absurd (omega arith)
  numbered-from {n} {i} (block {c = c} {cs = cs} f r) k h = elim (dec_lt k c) [
    | yes l ↦ let e = f k l in omega arith
    | no l ↦
        let j : ℕ = k - c in
        let e : i + k ≡ (i + c) + j = omega arith in
        let m = numbered-from r j (omega arith) in
        rw e (omega arith)
  ]

  pub filter-numbered : {n i : ℕ} {cs : List ℕ} → Numbered num n i cs → (m s : ℕ) → s ≡ n + m → m < length cs →
      filter (λ j. eqb s (num j)) (up_from i (sum cs)) ≡ up_from (i + sum (take m cs)) (get_or cs m 0)
  unfolding sum
  filter-numbered no_block m s e h = absurd (omega arith)
  filter-numbered {n} {i} (block {c = c} {cs = cs} f r) zero s e h =
      let p : ℕ → Bool = λ j. eqb s (num j) in
      let z : i ≡ i + 0 = omega arith in
      ap (filter p) (up_from-append i c (sum cs)) ∙ (filter-append p (up_from i c) (up_from (i + c) (sum cs)) ∙
      (ap₂ (λ (x y : List ℕ). x ++ y)
      (filter-all p (up_from i c) (λ j q. eq-eqb s (num j) (front j (up_from-in i c j q))))
      (filter_none p (up_from (i + c) (sum cs)) (λ j q. ne_eqb s (num j) (behind j (up_from-in (i + c) (sum cs) j q)))) ∙
      (nil (up_from i c) ∙ ap (λ (x : ℕ). up_from x c) z)))
    where
      front : (j : ℕ) → (i ≤ j) × (j < i + c) → s ≡ num j
      front j (a, b) =
          let k : ℕ = j - i in
          let q : j ≡ i + k = omega arith in
          let y = f k (omega arith) in
          rw q (omega arith)

      behind : (j : ℕ) → (i + c ≤ j) × (j < (i + c) + sum cs) → s ≡ num j → ⊥
      behind j (a, b) x =
          let k : ℕ = j - (i + c) in
          let q : j ≡ (i + c) + k = omega arith in
          let y = numbered-from r k (omega arith) in
          let z = ap num q in
          omega arith

      nil : (xs : List ℕ) → xs ++ [] ≡ xs
      nil [] = refl
      nil (x ∷ xs) = ap {B = List ℕ} (λ (ys : List ℕ). x ∷ ys) (nil xs)
  filter-numbered {n} {i} (block {c = c} {cs = cs} f r) (suc m) s e h =
      let p : ℕ → Bool = λ j. eqb s (num j) in
      let z : (i + c) + sum (take m cs) ≡ i + (c + sum (take m cs)) = omega arith in
      ap (filter p) (up_from-append i c (sum cs)) ∙ (filter-append p (up_from i c) (up_from (i + c) (sum cs)) ∙
      (ap₂ (λ (x y : List ℕ). x ++ y)
      (filter_none p (up_from i c) (λ j q. ne_eqb s (num j) (front j (up_from-in i c j q))))
      (filter-numbered r m s (omega arith) (omega arith)) ∙ ap (λ (x : ℕ). up_from x (get_or cs m 0)) z))
    where
      front : (j : ℕ) → (i ≤ j) × (j < i + c) → s ≡ num j → ⊥
      front j (a, b) x =
          let k : ℕ = j - i in
          let q : j ≡ i + k = omega arith in
          let y = f k (omega arith) in
          let z = ap num q in
          omega arith

pub numbered-make : (num : ℕ → ℕ) (n i : ℕ) (cs : List ℕ) →
    ((m k : ℕ) → m < length cs → k < get_or cs m 0 → num (i + (sum (take m cs) + k)) ≡ n + m) → Numbered num n i cs
unfolding sum
numbered-make num n i [] h = no_block
numbered-make num n i (c ∷ cs) h =
    block {n = n} {i = i} {c = c} {cs = cs}
    (λ k l. let e : i + k ≡ i + (0 + k) = omega arith in let z = h 0 k (omega arith) l in ap num e ∙ (omega arith))
    (numbered-make num (suc n) (i + c) cs (λ m k l x.
    let e : (i + c) + (sum (take m cs) + k) ≡ i + ((c + sum (take m cs)) + k) = omega arith in
    let z = h (suc m) k (omega arith) x in
    ap num e ∙ (omega arith)))

-- ---- ascending numbers lie in blocks
pub record Blocks (num : ℕ → ℕ) (n i many whole : ℕ) : Type 0 where
  pub sizes : List ℕ
  pub are : Numbered num n i sizes
  pub count : length sizes ≡ many
  pub total : sum sizes ≡ whole

pub record Lead (num : ℕ → ℕ) (n i whole : ℕ) : Type 0 where
  pub size : ℕ
  pub within : size ≤ whole
  pub same : (k : ℕ) → k < size → num (i + k) ≡ n
  pub above : (k : ℕ) → size ≤ k → k < whole → n < num (i + k)

abbrev pub Rising : (ℕ → ℕ) → ℕ → ℕ → Type 0
Rising num i whole = (k : ℕ) → suc k < whole → num (i + k) ≤ num (i + suc k)

pub rising : (num : ℕ → ℕ) (i whole : ℕ) → Rising num i whole → (k : ℕ) → k < whole → num (i + 0) ≤ num (i + k)
rising num i whole h zero l = omega arith
rising num i whole h (suc k) l = let a = rising num i whole h k (omega arith) in let b = h k l in omega arith

pub lead : (num : ℕ → ℕ) (n i whole : ℕ) → ((k : ℕ) → k < whole → n ≤ num (i + k)) → Rising num i whole →
    Lead num n i whole
lead num n i zero low up = record
    { size = 0; within = omega arith; same = λ k l. absurd (omega arith); above = λ k l m. absurd (omega arith) }
lead num n i (suc whole) low up = elim (dec_lt n (num (i + 0))) [
  | yes l ↦ record {
    size = 0;
    within = omega arith;
    same = λ k l. absurd (omega arith);
    above = λ k _ m. let a =
        rising num i (suc whole) up k m in omega arith;
  }
  | no l ↦
      let a = low 0 (omega arith) in
      more (omega arith)
      (lead num n (suc i) whole (λ k m. rw (shift k) (low (suc k) (omega arith)))
      (λ k m. rw (shift k, shift (suc k)) (up (suc k) (omega arith))))
]
  where
    shift : (k : ℕ) → suc i + k ≡ i + suc k
    shift k = omega arith

    more : num (i + 0) ≡ n → Lead num n (suc i) whole → Lead num n i (suc whole)
    more e r = record { size = suc r.size; within = let a = r.within in omega arith; same = same; above = above }
      where
        same : (k : ℕ) → k < suc r.size → num (i + k) ≡ n
        same zero l = e
        same (suc k) l = rw (← shift k) (r.same k (omega arith))

        above : (k : ℕ) → suc r.size ≤ k → k < suc whole → n < num (i + k)
        above zero l m = absurd (omega arith)
        above (suc k) l m = rw (← shift k) (r.above k (omega arith) (omega arith))

pub blocks : (num : ℕ → ℕ) (many n i whole : ℕ) → ((k : ℕ) → k < whole → n ≤ num (i + k)) →
    ((k : ℕ) → k < whole → num (i + k) < n + many) → Rising num i whole → Blocks num n i many whole
unfolding sum
blocks num zero n i zero low high up = record { sizes = []; are = no_block; count = refl; total = refl }
blocks num zero n i (suc whole) low high up =
    absurd (let a = low 0 (omega arith) in let b = high 0 (omega arith) in omega arith)
blocks num (suc many) n i whole low high up =
    let c = lead num n i whole low up in
    let s : ℕ = c.size in
    let z = c.within in
    let rest = blocks num many (suc n) (i + s) (whole - s)
    (λ k l. rw (shift s k) (c.above (s + k) (omega arith) (omega arith)))
    (λ k l. rw (shift s k) (let a = high (s + k) (omega arith) in omega arith))
    (λ k l. rw (shift s k, shift' s k) (up (s + k) (omega arith))) in
    let t = rest.total in
    record {
      sizes = s ∷ rest.sizes;
      are = block c.same rest.are;
      count = ap suc rest.count;
      total =
          omega arith;
    }
  where
    shift : (s k : ℕ) → (i + s) + k ≡ i + (s + k)
    shift s k = omega arith

    shift' : (s k : ℕ) → (i + s) + suc k ≡ i + suc (s + k)
    shift' s k = omega arith

-- ---- where in blocks a place is
pub locate : (cs : List ℕ) (i : ℕ) → i < sum cs → (m : ℕ) × (m < length cs) × (sum (take m cs) ≤ i) ×
    (i < sum (take m cs) + get_or cs m 0)
unfolding sum
locate [] i h = absurd (omega arith)
locate (c ∷ cs) i h = go (dec_lt i c) (locate cs (i - c))
  where
    go : Dec (i < c) → ((i - c) < sum cs → (m : ℕ) × (m < length cs) × (sum (take m cs) ≤ i - c) ×
        (i - c < sum (take m cs) + get_or cs m 0)) →
        (m : ℕ) × (m < length (c ∷ cs)) × (sum (take m (c ∷ cs)) ≤ i) × (i < sum (take m (c ∷ cs)) + get_or (c ∷ cs) m 0)
    go (yes l) r = (0, omega arith, omega arith, omega arith)
    go (no l) r = let (m, a, b, d) = r (omega arith) in (suc m, omega arith, omega arith, omega arith)

pub sum-take-suc : (cs : List ℕ) (m : ℕ) → m < length cs → sum (take (suc m) cs) ≡ sum (take m cs) + get_or cs m 0
unfolding sum
sum-take-suc [] m h = absurd (omega arith)
sum-take-suc (c ∷ cs) zero h = omega arith
sum-take-suc (c ∷ cs) (suc m) h = let e = sum-take-suc cs m (omega arith) in omega arith
