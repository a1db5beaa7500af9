-- The members of sets of bits: what the operations on bits make of them. A bit is a digit in base two, and the laws of
-- `lib.Bits` say each operation digit by digit.
use Prim.Native.Nat.{ℕ, zero, suc, ◌+◌, ◌-◌, ◌*◌, ◌/◌, ◌%◌, ◌^◌, ◌≤◌, ◌<◌}
use mathlib.Core.Path.{◌≡◌, refl, sym, ◌∙◌, ap, subst}
use mathlib.Core.Bool.{Bool, true, false, not, ◌&&◌, ◌||◌}
use native.Mathlib.Omega.{arith}
use native.Mathlib.Decide.{dec_lt}
use native.Mathlib.Nat.{add-mul, div-add-mod', div-eq_of_lt, div-one, mod-lt, one-mul, pow-suc, lt_of_le_of_lt}
use native.Mathlib.Nat.{lt_of_lt_of_le}
use lib.Dec.{eqb, ltb}
use lib.Pow.{pow_pos, pow_mono, pow-lt, pow-add, shl_exact, shr_lt, shr-shr, shl-shr, high, ones_split, ones_lt}
use lib.Bits.{bit_and, bit_or, and_shr, and_mod, or_shr, or_mod, and_le_l, or_add_and, and_le_r}
use borrow.Author.Tests.{eqb-false, eq-eqb, ne_eqb, lt-ltb, le-ltb, not-true, eqb-true}
use Rattle.words.specs.Lists.{any, up_to}
use Rattle.words.proofs.Lists.{bool-ext, false-if, both-ft, any-in, in-any, in-up_to, and_left, and_right}
use Rattle.words.proofs.Lists.{and_both}
use Rattle.words.specs.Sets.{member}

-- ---- two digits
small : (x : ℕ) → x < 2 → (P : ℕ → Type 0) → P 0 → P 1 → P x
small zero h P a b = a
small (suc zero) h P a b = b
small (suc (suc x)) h P a b = absurd (omega arith)

digit_or : (x y : ℕ) → x < 2 → y < 2 → eqb (bit_or x y) 1 ≡ eqb x 1 || eqb y 1
digit_or x y h k =
    small x h (λ (x : ℕ). eqb (bit_or x y) 1 ≡ eqb x 1 || eqb y 1)
    refl
    (small y k (λ (y : ℕ). eqb (bit_or 1 y) 1 ≡ eqb 1 1 || eqb y 1) refl refl)

digit_and : (x y : ℕ) → x < 2 → y < 2 → eqb (bit_and x y) 1 ≡ eqb x 1 && eqb y 1
digit_and x y h k =
    small x h (λ (x : ℕ). eqb (bit_and x y) 1 ≡ eqb x 1 && eqb y 1)
    refl
    (small y k (λ (y : ℕ). eqb (bit_and 1 y) 1 ≡ eqb 1 1 && eqb y 1) refl refl)

-- ---- the operations
pub member-or : (a b k : ℕ) → member (bit_or a b) k ≡ member a k || member b k
unfolding member
member-or a b k =
    ap (λ (x : ℕ). eqb (x % 2) 1) (or_shr a b k)
    ∙ (ap (λ (x : ℕ). eqb x 1) (or_mod (a / 2 ^ k) (b / 2 ^ k) 1)
    ∙ digit_or (a / 2 ^ k % 2) (b / 2 ^ k % 2) (omega arith) (omega arith))

pub member-and : (a b k : ℕ) → member (bit_and a b) k ≡ member a k && member b k
unfolding member
member-and a b k =
    ap (λ (x : ℕ). eqb (x % 2) 1) (and_shr a b k)
    ∙ (ap (λ (x : ℕ). eqb x 1) (and_mod (a / 2 ^ k) (b / 2 ^ k) 1)
    ∙ digit_and (a / 2 ^ k % 2) (b / 2 ^ k % 2) (omega arith) (omega arith))

-- a number has no member from its length on
pub member-beyond : (x n k : ℕ) → x < 2 ^ n → n ≤ k → member x k ≡ false
unfolding member
member-beyond x n k h l = rw (div-eq_of_lt (lt_of_lt_of_le h (pow_mono l))) refl

pub member-zero : (k : ℕ) → member 0 k ≡ false
member-zero k = member-beyond 0 0 k (omega arith) (omega arith)

-- a power of two that is not 1 is even
even-pow : (n k : ℕ) → k < n → (m : ℕ) × (2 ^ (n - k) ≡ m * 2) × (0 < m)
even-pow n k l =
    let e : n - k ≡ suc (n - k - 1) = omega arith in
    (2 ^ (n - k - 1), ap (λ (x : ℕ). 2 ^ x) e ∙ pow-suc 2 (n - k - 1), pow_pos (n - k - 1))

-- 2 ^ j is the set of j alone
member-one : (j k : ℕ) → member (2 ^ j) k ≡ eqb j k
unfolding member
member-one j k = elim (dec_lt j k) [
  | yes l ↦ rw (ne_eqb j k (λ e. omega arith), div-eq_of_lt (lt_of_lt_of_le (pow-less j) (pow_mono l))) refl
  | no l ↦ elim (dec_lt k j) [
    | yes m ↦
        let (h, e, z) = even-pow j k m in
        let q : 2 ^ (j - k) % 2 ≡ 0 = omega arith in
        ap (λ (x : ℕ). eqb (x % 2) 1) (over j k (omega arith))
        ∙ (ap (λ (x : ℕ). eqb x 1) q ∙ sym (ne_eqb j k (λ f. omega arith)))
    | no m ↦
        let e : j ≡ k = omega arith in
        let q : 2 ^ (j - k) ≡ 1 = ap (λ (x : ℕ). 2 ^ x) (let z : j - k ≡ 0 = omega arith in z) in
        ap (λ (x : ℕ). eqb (x % 2) 1) (over j k (omega arith) ∙ q) ∙ sym (eq-eqb j k e)
  ]
]
  where
    pow-less : (j : ℕ) → 2 ^ j < 2 ^ suc j
    pow-less j = let e = pow-suc 2 j in let p = pow_pos j in omega arith

    over : (j k : ℕ) → k ≤ j → 2 ^ j / 2 ^ k ≡ 2 ^ (j - k)
    over j k l =
        let e : j ≡ (j - k) + k = omega arith in
        ap (λ (x : ℕ). 2 ^ x / 2 ^ k) e ∙ (ap (λ (x : ℕ). x / 2 ^ k) (pow-add 2 (j - k) k) ∙ shl-shr (2 ^ (j - k)) k)

-- 2 ^ n - 1 is the set of the numbers below n
pub member-ones : (n k : ℕ) → member (2 ^ n - 1) k ≡ ltb k n
unfolding member
member-ones n k = elim (dec_lt k n) [
  | yes l ↦
      let (h, e, z) = even-pow n k l in
      let s : n ≡ (n - k) + k = omega arith in
      let d : (2 ^ n - 1) / 2 ^ k ≡ 2 ^ (n - k) - 1 =
      ap (λ (x : ℕ). (2 ^ x - 1) / 2 ^ k) s
      ∙ (ap (λ (x : ℕ). x / 2 ^ k) (ones_split (n - k) k) ∙ high (2 ^ (n - k) - 1) k (ones_lt k)) in
      let q : (2 ^ (n - k) - 1) % 2 ≡ 1 = omega arith in
      ap (λ (x : ℕ). eqb (x % 2) 1) d ∙ (ap (λ (x : ℕ). eqb x 1) q ∙ sym (lt-ltb k n l))
  | no l ↦
      let z : n ≤ k = omega arith in
      rw (le-ltb k n z, div-eq_of_lt (lt_of_lt_of_le (ones_lt n) (pow_mono z))) refl
]

-- the digits below n, turned over
pub member-not : (n x k : ℕ) → x < 2 ^ n → k < n → member ((2 ^ n - 1) - x) k ≡ not (member x k)
unfolding member
member-not n x k h l =
    let (m, e, z) = even-pow n k l in
    let s : n ≡ (n - k) + k = omega arith in
    let b : x / 2 ^ k < 2 ^ (n - k) = shr_lt (n - k) k (subst (λ (y : ℕ). x < 2 ^ y) s h) in
    let o = ap (λ (y : ℕ). 2 ^ y - 1) s ∙ ones_split (n - k) k in
    let d : ((2 ^ n - 1) - x) / 2 ^ k ≡ (2 ^ (n - k) - 1) - x / 2 ^ k =
    ap (λ (y : ℕ). y / 2 ^ k) (digits-less (2 ^ (n - k) - 1) (2 ^ k) x (pow_pos k) o (omega arith))
    ∙ high ((2 ^ (n - k) - 1) - x / 2 ^ k) k (let p = pow_pos k in omega arith) in
    ap (λ (y : ℕ). eqb (y % 2) 1) d ∙ turned m (x / 2 ^ k) (2 ^ (n - k)) e b
  where
    -- both numbers by their digits from k on and below
    digits-less : (q p x : ℕ) → 0 < p → 2 ^ n - 1 ≡ q * p + (p - 1) → x / p ≤ q →
        (2 ^ n - 1) - x ≡ (q - x / p) * p + ((p - 1) - x % p)
    digits-less q p x z o b =
        let r = add-mul (q - x / p) (x / p) p in
        let s : (q - x / p + x / p) * p ≡ q * p = ap (λ (y : ℕ). y * p) (omega arith) in
        let d = div-add-mod' x p in
        let m = mod-lt x z in
        omega arith

    turned : (m y q : ℕ) → q ≡ m * 2 → y < q → eqb (((q - 1) - y) % 2) 1 ≡ not (eqb (y % 2) 1)
    turned m y q e b = elim (dec_lt (y % 2) 1) [
      | yes g ↦ rw (ne_eqb (y % 2) 1 (λ f. omega arith), eq-eqb (((q - 1) - y) % 2) 1 (omega arith)) refl
      | no g ↦ rw (eq-eqb (y % 2) 1 (omega arith), ne_eqb (((q - 1) - y) % 2) 1 (λ f. omega arith)) refl
    ]

-- a number with no member is 0
pub member-none : (n x : ℕ) → x < 2 ^ n → ((k : ℕ) → k < n → member x k ≡ false) → x ≡ 0
unfolding member
member-none zero x h f = omega arith
member-none (suc n) x h f =
    let p = pow-suc 2 n in
    let g : (k : ℕ) → k < n → member (x / 2) k ≡ false =
    λ k l. ap (λ (y : ℕ). eqb (y % 2) 1) (halved k) ∙ f (suc k) (omega arith) in
    let e : x / 2 ≡ 0 = member-none n (x / 2) (omega arith) g in
    let o : x % 2 ≡ 0 = even (eqb-false (x / 1 % 2) 1 (f 0 (omega arith))) in
    omega arith
  where
    halved : (k : ℕ) → x / 2 / 2 ^ k ≡ x / 2 ^ suc k
    halved k = shr-shr x 1 k ∙ ap (λ (y : ℕ). x / 2 ^ y) (let z : 1 + k ≡ suc k = omega arith in z)

    even : (x / 1 % 2 ≡ 1 → ⊥) → x % 2 ≡ 0
    even f = elim (dec_lt (x % 2) 1) [ yes l ↦ omega arith | no l ↦ absurd (f (rw div-one (omega arith))) ]

-- ---- what the code makes of sets of 64
-- `1 << k`
pub bit_is : (k : ℕ) → k < 64 → (1 * 2 ^ k) % 2 ^ 64 ≡ 2 ^ k
bit_is k h = shl_exact 1 k 64 (omega arith) (omega arith) ∙ one-mul (2 ^ k)

-- `set | (1 << k)`
pub member-with : (set k j : ℕ) → k < 64 → member (bit_or set ((1 * 2 ^ k) % 2 ^ 64)) j ≡ member set j || eqb k j
member-with set k j h =
    ap (λ (x : ℕ). member (bit_or set x) j) (bit_is k h)
    ∙ (member-or set (2 ^ k) j ∙ ap (λ (b : Bool). member set j || b) (member-one k j))

-- `set & !(1 << k)`
pub member-without : (set k j : ℕ) → set < 2 ^ 64 → k < 64 →
    member (bit_and set ((2 ^ 64 - 1) - (1 * 2 ^ k) % 2 ^ 64)) j ≡ member set j && not (eqb k j)
member-without set k j f h =
    ap (λ (x : ℕ). member (bit_and set ((2 ^ 64 - 1) - x)) j) (bit_is k h)
    ∙ (member-and set ((2 ^ 64 - 1) - 2 ^ k) j ∙ elim (dec_lt j 64) [
      | yes l ↦ ap (λ (b : Bool). member set j && b) (member-not 64 (2 ^ k) j (pow-lt h) l ∙ ap not (member-one k j))
      | no l ↦ rw (member-beyond set 64 j f (omega arith)) refl
    ])

-- `a & b != 0`
pub common-member : (a b : ℕ) → a < 2 ^ 64 → not (eqb (bit_and a b) 0) ≡ any (λ k. member a k && member b k) (up_to 64)
common-member a b f = bool-ext (not (eqb (bit_and a b) 0)) (any both (up_to 64)) to from
  where
    both : ℕ → Bool
    both k = member a k && member b k

    to : not (eqb (bit_and a b) 0) ≡ true → any both (up_to 64) ≡ true
    to h = go (any both (up_to 64)) refl
      where
        go : (s : Bool) → any both (up_to 64) ≡ s → s ≡ true
        go true n = refl
        go false n = absurd
            (eqb-false (bit_and a b) 0 (not-true (eqb (bit_and a b) 0) h)
            (member-none 64 (bit_and a b) (lt_of_le_of_lt (and_le_l a b) f)
            (λ k l. member-and a b k ∙ false-if (both k) (λ e. both-ft (in-any both (in-up_to 64 k l) e) n))))

    from : any both (up_to 64) ≡ true → not (eqb (bit_and a b) 0) ≡ true
    from h =
        let (k, i, e) = any-in both (up_to 64) h in
        ap not (ne_eqb (bit_and a b) 0 (λ z.
        both-ft (member-and a b k ∙ e) (ap (λ (x : ℕ). member x k) z ∙ member-zero k)))

-- two words joined are 0 if both are
pub or-zero : (a b : ℕ) → eqb (bit_or a b) 0 ≡ eqb a 0 && eqb b 0
or-zero a b =
    let joined = or_add_and a b in
    let left = and_le_l a b in
    let right = and_le_r a b in
    bool-ext (eqb (bit_or a b) 0) (eqb a 0 && eqb b 0)
    (λ h.
    let e = eqb-true (bit_or a b) 0 h in
    and_both _ _ (eq-eqb a 0 (omega arith)) (eq-eqb b 0 (omega arith)))
    (λ h.
    let e = eqb-true a 0 (and_left (eqb a 0) (eqb b 0) h) in
    let f = eqb-true b 0 (and_right (eqb a 0) (eqb b 0) h) in
    eq-eqb (bit_or a b) 0 (omega arith))
