-- "its lowest set bit": a count of trailing zeros gives the lowest number of a set. Halving a number takes its lowest
-- digit away, so the rest of its members are those of its half, one lower.
use Prim.Native.Nat.{ℕ, zero, suc, ◌+◌, ◌-◌, ◌/◌, ◌%◌, ◌^◌, ◌<◌}
use mathlib.Core.Path.{◌≡◌, refl, sym, ◌∙◌, ap, ap₂}
use mathlib.Core.Bool.{Bool, true, false, cond, not, ◌&&◌, ◌||◌}
use native.Mathlib.Omega.{arith}
use native.Mathlib.Decide.{dec_lt}
use native.Mathlib.Nat.{div-one, pow-suc}
use lib.Count.{count_trailing_zeros, under}
use lib.Bits.{bit_and, bit_or}
use lib.Dec.{eqb, ltb}
use lib.Pow.{shr-shr}
use borrow.Author.Tests.{eqb-true, eq-eqb, ne_eqb}
use Rattle.words.specs.Sets.{Loses, Lowest, member, set_bits}
use Rattle.words.proofs.Lists.{bool-ext, both-ft}
use Rattle.words.proofs.BitSets.{member-or, member-and}
use Rattle.words.proofs.SetMembers.{member-minus}

-- ---- the lowest digit, and those above it
member-first : (x : ℕ) → member x 0 ≡ eqb (x % 2) 1
unfolding member
member-first x = ap (λ (y : ℕ). eqb (y % 2) 1) (div-one x)

pub member-half : (x k : ℕ) → member (x / 2) k ≡ member x (suc k)
unfolding member
member-half x k =
    let e : 1 + k ≡ suc k = omega arith in
    ap (λ (y : ℕ). eqb (y % 2) 1) (shr-shr x 1 k ∙ ap (λ (y : ℕ). x / 2 ^ y) e)

-- ---- the count of trailing zeros
is_member : (n x : ℕ) → x < 2 ^ n → 0 < x → (count_trailing_zeros n x < n) × (member x (count_trailing_zeros n x) ≡ true)
unfolding count_trailing_zeros
is_member zero x l z = absurd (omega arith)
is_member (suc n) x l z = go (x % 2) refl (is_member n (x / 2))
  where
    go : (d : ℕ) → x % 2 ≡ d →
        (x / 2 < 2 ^ n → 0 < x / 2 →
        (count_trailing_zeros n (x / 2) < n) × (member (x / 2) (count_trailing_zeros n (x / 2)) ≡ true)) →
        (under d (count_trailing_zeros n (x / 2)) < suc n) × (member x (under d (count_trailing_zeros n (x / 2))) ≡ true)
    go zero e rest =
        let p = pow-suc 2 n in
        let (b, m) = rest (omega arith) (omega arith) in
        (omega arith, sym (member-half x (count_trailing_zeros n (x / 2))) ∙ m)
    go (suc d) e rest = (omega arith, member-first x ∙ eq-eqb (x % 2) 1 (omega arith))

none-lower : (n x k : ℕ) → k < count_trailing_zeros n x → member x k ≡ false
unfolding count_trailing_zeros
none-lower zero x k l = absurd (omega arith)
none-lower (suc n) x k l = go (x % 2) refl k l (none-lower n (x / 2))
  where
    go : (d : ℕ) → x % 2 ≡ d → (k : ℕ) → k < under d (count_trailing_zeros n (x / 2)) →
        ((j : ℕ) → j < count_trailing_zeros n (x / 2) → member (x / 2) j ≡ false) → member x k ≡ false
    go zero e zero m rest = member-first x ∙ ne_eqb (x % 2) 1 (λ z. omega arith)
    go zero e (suc j) m rest = sym (member-half x j) ∙ rest j (omega arith)
    go (suc d) e k m rest = absurd (omega arith)

pub lowest-is : (set : ℕ) → set < 2 ^ set_bits → 0 < set → Lowest set (count_trailing_zeros set_bits set)
lowest-is set l z =
    let (b, m) = is_member set_bits set l z in
    record { below = b; is-in = m; least = none-lower set_bits set }

-- ---- the set without it
-- no two numbers are the lowest
lowest-one : {set p q : ℕ} → Lowest set p → Lowest set q → p ≡ q
lowest-one {set} {p} {q} l m = elim (dec_lt p q) [
  | yes h ↦ absurd (both-ft l.is-in (m.least p h))
  | no h ↦ elim (dec_lt q p) [ yes k ↦ absurd (both-ft m.is-in (l.least q k)) | no k ↦ omega arith ]
]

eqb-higher : (p k : ℕ) → eqb p k ≡ eqb (suc p) (suc k)
eqb-higher p k = bool-ext (eqb p k) (eqb (suc p) (suc k))
    (λ h. eq-eqb (suc p) (suc k) (ap suc (eqb-true p k h)))
    (λ h. let e = eqb-true (suc p) (suc k) h in eq-eqb p k (omega arith))

-- one less: a digit that is 0 borrows from those above it
half-less : (x : ℕ) → 0 < x → x % 2 ≡ 0 → (x - 1) / 2 ≡ x / 2 - 1
half-less x z e = omega arith

twice : (b : Bool) → b && b ≡ b && true
twice true = refl
twice false = refl

-- the code's `set & (set - 1)`
loses-lowest : (n x : ℕ) → x < 2 ^ n → 0 < x → (k : ℕ) →
    member (bit_and x (x - 1)) k ≡ member x k && not (eqb (count_trailing_zeros n x) k)
unfolding count_trailing_zeros
loses-lowest zero x l z k = absurd (omega arith)
loses-lowest (suc n) x l z k =
    member-and x (x - 1) k ∙ go (x % 2) refl k (λ s t j.
    sym (member-and (x / 2) (x / 2 - 1) j) ∙ loses-lowest n (x / 2) s t j)
  where
    -- both numbers by their lowest digit and their halves
    go : (d : ℕ) → x % 2 ≡ d → (k : ℕ) →
        (x / 2 < 2 ^ n → 0 < x / 2 → (j : ℕ) →
        member (x / 2) j && member (x / 2 - 1) j ≡ member (x / 2) j && not (eqb (count_trailing_zeros n (x / 2)) j)) →
        member x k && member (x - 1) k ≡ member x k && not (eqb (under d (count_trailing_zeros n (x / 2))) k)
    go zero e zero rest = rw (member-first x ∙ ne_eqb (x % 2) 1 (λ o. omega arith)) refl
    go zero e (suc j) rest =
        let p = pow-suc 2 n in
        ap₂ (λ (b c : Bool). b && c) (sym (member-half x j))
        (sym (member-half (x - 1) j) ∙ ap (λ (y : ℕ). member y j) (half-less x z e))
        ∙ (rest (omega arith) (omega arith) j
        ∙ ap₂ (λ (b c : Bool). b && not c) (member-half x j) (eqb-higher (count_trailing_zeros n (x / 2)) j))
    go (suc d) e zero rest =
        ap (λ (b : Bool). member x 0 && b) (member-first (x - 1) ∙ ne_eqb ((x - 1) % 2) 1 (λ o. omega arith))
    go (suc d) e (suc j) rest =
        let o : (x - 1) / 2 ≡ x / 2 = omega arith in
        let same : member (x - 1) (suc j) ≡ member x (suc j) =
        sym (member-half (x - 1) j) ∙ (ap (λ (y : ℕ). member y j) o ∙ member-half x j) in
        ap (λ (b : Bool). member x (suc j) && b) same
        ∙ (twice (member x (suc j))
        ∙ ap (λ (b : Bool). member x (suc j) && not b) (sym (ne_eqb 0 (suc j) (λ q. omega arith))))

pub lowest-lost : (set : ℕ) → set < 2 ^ set_bits → 0 < set → (p : ℕ) → Lowest set p →
    Loses set p (bit_and set (set - 1))
lowest-lost set l z p h k =
    loses-lowest set_bits set l z k ∙
    ap (λ (q : ℕ). member set k && not (eqb q k)) (lowest-one (lowest-is set l z) h)

-- ---- the numbers above k, closed up
-- the code's `(set & low) | ((set >> 1) & !low)`, where low has the numbers below k
pub member-closed : (set low k j : ℕ) → set < 2 ^ set_bits → low < 2 ^ set_bits → ((j : ℕ) → member low j ≡ ltb j k) →
    member (bit_or (bit_and set low) (bit_and (set / 2) ((2 ^ set_bits - 1) - low))) j ≡
    cond (ltb j k) (member set j) (member set (suc j))
member-closed set low k j f g h =
    member-or (bit_and set low) (bit_and (set / 2) ((2 ^ set_bits - 1) - low)) j
    ∙ (ap₂ (λ (b c : Bool). b || c)
    (member-and set low j ∙ ap (λ (b : Bool). member set j && b) (h j))
    (member-minus (set / 2) low j (omega arith) g
    ∙ ap₂ (λ (b c : Bool). b && not c) (member-half set j) (h j))
    ∙ go (member set j) (member set (suc j)) (ltb j k))
  where
    go : (b c l : Bool) → (b && l) || (c && not l) ≡ cond l b c
    go true c true = refl
    go true true false = refl
    go true false false = refl
    go false true true = refl
    go false false true = refl
    go false true false = refl
    go false false false = refl
