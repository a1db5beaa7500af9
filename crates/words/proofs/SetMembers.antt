-- The numbers of sets of bits: of a difference, how they are listed and counted one number after another, and that a
-- set of small numbers is a small word. A set from n on is its word divided by 2 ^ n, and is 0 where it has no number.
use Prim.Native.Nat.{ℕ, zero, suc, ◌+◌, ◌-◌, ◌*◌, ◌/◌, ◌%◌, ◌^◌, ◌≤◌, ◌<◌}
use mathlib.Core.Path.{◌≡◌, refl, sym, ◌∙◌, ap, subst}
use mathlib.Core.Bool.{Bool, true, false, cond, not, ◌&&◌}
use mathlib.Core.List.{List, [], ◌∷◌, ◌++◌, map, append-nil}
use native.Mathlib.Omega.{arith}
use native.Mathlib.Decide.{dec_lt}
use native.Mathlib.Numerals.{add-one}
use native.Mathlib.Nat.{div-lt_iff_lt-mul, lt_of_le_of_lt, mod-lt, mod-one, pow-suc}
use lib.ListN.{length, length-append}
use lib.Arith.{mod-mul}
use lib.Bits.{bit_and, and_mask}
use lib.Count.{ones, ones_in, ones_cat, ones-le}
use lib.Dec.{eqb}
use lib.Pow.{pow_pos, shr-shr, shr_le}
use Rattle.words.specs.Lists.{last_or, filter, keep_if, up_to, up_from}
use Rattle.words.proofs.Lists.{In, map-append, false-if, up_to-suc, up_from-in}
use Rattle.words.proofs.Lists.{filter-append, filter_none, up_from-append}
use Rattle.words.specs.Sets.{member, members, word_bits}
use Rattle.words.proofs.BitSets.{member-and, member-not, member-beyond, member-none}
use Rattle.words.proofs.Sums.{one, length-keep}

-- the code's `a & !b`
pub member-minus : (a b k : ℕ) → a < 2 ^ 64 → b < 2 ^ 64 →
    member (bit_and a ((2 ^ 64 - 1) - b)) k ≡ member a k && not (member b k)
member-minus a b k f g = member-and a ((2 ^ 64 - 1) - b) k ∙ elim (dec_lt k 64) [
  | yes l ↦ ap (λ (x : Bool). member a k && x) (member-not 64 b k g l)
  | no l ↦ rw (member-beyond a 64 k f (omega arith)) refl
]

-- ---- the numbers of a set, listed
pub members-more : (set n : ℕ) → members set (n + 1) ≡ members set n ++ keep_if (member set n) n []
unfolding members filter
members-more set n =
    ap (λ (m : ℕ). filter (member set) (up_to m)) (add-one n) ∙ ap (filter (member set)) (up_to-suc n) ∙
    filter-append (member set) (up_to n) (n ∷ [])

pub size_none : (set : ℕ) → length (members set 0) ≡ 0
unfolding members filter up_to up_from
size_none set = refl

pub size-more : (set n : ℕ) → length (members set (n + 1)) ≡ length (members set n) + one (member set n)
size-more set n =
    let e = ap length (members-more set n) in
    let f = length-append (members set n) (keep_if (member set n) n []) in
    let g = length-keep (member set n) n [] in
    omega arith

-- ---- the numbers of a set, counted as the set digits of its word
digit : (d : ℕ) → d < 2 → ones d ≡ one (eqb d 1)
unfolding ones ones_in
digit zero l = refl
digit (suc zero) l = refl
digit (suc (suc d)) l = absurd (omega arith)

size-ones : (set n : ℕ) → ones (set % 2 ^ n) ≡ length (members set n)
unfolding member
size-ones set zero = ap ones (mod-one set) ∙ (digit 0 (omega arith) ∙ sym (size_none set))
size-ones set (suc n) =
    let twice : 2 ^ suc n ≡ 2 * 2 ^ n = let p = pow-suc 2 n in omega arith in
    let parted = ap (λ (m : ℕ). set % m) twice ∙ mod-mul set {m = 2} {c = 2 ^ n} (omega arith) (pow_pos n) in
    let counted = ones_cat n (set / 2 ^ n % 2) (set % 2 ^ n) (mod-lt set (pow_pos n)) in
    let whole = ap ones parted ∙ counted in
    let highest = digit (set / 2 ^ n % 2) (mod-lt (set / 2 ^ n) (omega arith)) in
    let rest = size-ones set n in
    let more = size-more set n in
    let same : length (members set (n + 1)) ≡ length (members set (suc n)) =
    ap (λ (m : ℕ). length (members set m)) (add-one n) in
    omega arith

-- the code's `u64::count_ones(set & 65535)`
pub size-counted : (set : ℕ) → ones (bit_and set 65535) ≡ length (members set word_bits)
size-counted set = ap ones (and_mask set word_bits) ∙ size-ones set word_bits

pub size_small : (set : ℕ) → ones (bit_and set 65535) ≤ word_bits
size_small set =
    subst (λ (n : ℕ). ones n ≤ word_bits) (sym (and_mask set word_bits))
    (ones-le word_bits (set % 2 ^ word_bits) (mod-lt set (pow_pos word_bits)))

-- a test that takes no number from m on
pub filter-below : (p : ℕ → Bool) (m n : ℕ) → m ≤ n → ((x : ℕ) → p x ≡ true → x < m) →
    filter p (up_to n) ≡ filter p (up_to m)
unfolding up_to
filter-below p m n l h =
    let e : n ≡ m + (n - m) = omega arith in
    ap (λ (k : ℕ). filter p (up_from 0 k)) e ∙ ap (filter p) (up_from-append 0 m (n - m)) ∙
    filter-append p (up_from 0 m) (up_from (0 + m) (n - m)) ∙
    ap (λ (xs : List ℕ). filter p (up_from 0 m) ++ xs) (filter_none p (up_from (0 + m) (n - m)) beyond) ∙
    append-nil (filter p (up_from 0 m))
  where
    beyond : (x : ℕ) → In x (up_from (0 + m) (n - m)) → p x ≡ false
    beyond x i = false-if (p x) (λ e. let z = (up_from-in (0 + m) (n - m) x i).0 in omega (arith, h x e))

-- ---- the word of a set of small numbers
pub set-small : (n x : ℕ) → x < 2 ^ 64 → ((k : ℕ) → member x k ≡ true → k < n) → x < 2 ^ n
unfolding member
set-small n x f h =
    let e : x / 2 ^ n ≡ 0 = member-none 64 (x / 2 ^ n) (lt_of_le_of_lt (shr_le x n) f) (λ k l.
    ap (λ (y : ℕ). eqb (y % 2) 1) (shr-shr x n k) ∙
    false-if (member x (n + k)) (λ m. omega (arith, h (n + k) m))) in
    let y : x < 1 * 2 ^ n = (div-lt_iff_lt-mul (pow_pos n)).0 (omega arith) in
    omega arith

-- ---- the largest
-- one more than the last number of a list, or 0
abbrev pub above : List ℕ → ℕ
above xs = last_or (map suc xs) 0

last_end : (xs : List ℕ) (y d : ℕ) → last_or (xs ++ (y ∷ [])) d ≡ y
unfolding last_or
last_end [] y d = refl
last_end (x ∷ xs) y d = last_end xs y x

pub above-none : (set : ℕ) → above (members set 0) ≡ 0
unfolding members filter up_to up_from last_or
above-none set = refl

pub above_more : (set k : ℕ) → above (members set (k + 1)) ≡ cond (member set k) (k + 1) (above (members set k))
unfolding keep_if
above_more set k = ap above (members-more set k) ∙ go (member set k)
  where
    go : (b : Bool) → above (members set k ++ keep_if b k []) ≡ cond b (k + 1) (above (members set k))
    go true =
        ap (λ (xs : List ℕ). last_or xs 0) (map-append suc (members set k) (k ∷ [])) ∙
        last_end (map suc (members set k)) (suc k) 0 ∙ sym (add-one k)
    go false = ap above (append-nil (members set k))
