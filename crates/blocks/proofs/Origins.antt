-- Where a block gives the object of each parameter of its schema: as the parts are noted from the last to the first,
-- each over those behind it, the first part that has a parameter stands.
use Prim.Native.Nat.{ℕ, zero, suc, ◌+◌, ◌*◌, ◌≤◌, ◌<◌}
use mathlib.Core.Path.{◌≡◌, refl, sym, ◌∙◌, ap, subst}
use mathlib.Core.Bool.{Bool, true, false}
use mathlib.Core.List.{List}
use mathlib.Core.Logic.{◌⊎◌, inl, inr}
use native.Mathlib.Omega.{arith}
use native.Mathlib.Decide.{ℕ_discrete}
use lib.ListN.{length, get_or, set, length-set}
use lib.Seq.{get_or-set_same, get_or-set_other}
use borrow.Author.Count.{below_more}
use Rattle.words.specs.Lists.{up_to}
use Rattle.words.specs.Sets.{member, members}
use Rattle.words.proofs.Ascending.{filter-le}
use Rattle.words.proofs.Lists.{bool_cases, both-ft, length-up_to}
use Rattle.words.proofs.SetMembers.{size_none, size-more}
use Rattle.words.proofs.Sums.{one}
use Rattle.tokens.specs.Kept.{kept_count, kept_own}
use Rattle.blocks.specs.FoldCode.{origin_place, word_in, NoneBefore, OriginsKept, PartNoted, PartsNoted}

-- ---- the parameters of one part
-- of those below p it has at most p
pub few-below : (own p : ℕ) → length (members own p) ≤ p
unfolding members
few-below own p = omega (arith, filter-le (member own) (up_to p), length-up_to p)

module _ (own s j : ℕ) where
  pub part-start : (before : List ℕ) → PartNoted own s j 0 before before
  part-start before = record { long = refl; here = λ p l h. absurd (omega arith); stays = λ k h. refl }

  module _ (p : ℕ) {before after : List ℕ} (h : PartNoted own s j p before after) where
    -- it has the next one, and that is noted
    pub part_in : member own p ≡ true → (next : ℕ) → next ≡ word_in own j p → origin_place s p < length before →
        PartNoted own s j (p + 1) before (set after (origin_place s p) next)
    part_in m next e l = record {
      long = length-set after (origin_place s p) next ∙ h.long;
      here = λ q k n. elim (ℕ_discrete q p) [
        | yes z ↦
            ap (λ (x : ℕ). get_or (set after (origin_place s p) next) (origin_place s x) 0) z
            ∙ (get_or-set_same after (origin_place s p) next 0 (omega (arith, h.long))
            ∙ (e ∙ sym (ap (word_in own j) z)))
        | no z ↦
            get_or-set_other after (origin_place s p) (origin_place s q) next 0 (λ f. z (omega arith))
            ∙ h.here q (omega arith) n
      ];
      stays = λ k f.
          get_or-set_other after (origin_place s p) k next 0 (λ e. f p (omega arith) m e)
          ∙ h.stays k (λ q n. f q (omega arith));
    }

    pub part_out : member own p ≡ false → PartNoted own s j (p + 1) before after
    part_out m = record {
      long = h.long;
      here = λ q k n. elim (ℕ_discrete q p) [
        | yes z ↦ absurd (both-ft n (ap (member own) z ∙ m))
        | no z ↦ h.here q (omega arith) n
      ];
      stays = λ k f. h.stays k (λ q n. f q (omega arith));
    }

-- where its next object stands
pub next-first : (own j : ℕ) → 13 * j + 1 ≡ word_in own j 0
next-first own j = omega (arith, size_none own)

pub next-in : (own j p : ℕ) → member own p ≡ true → word_in own j p + 1 ≡ word_in own j (p + 1)
next-in own j p h = let e = size-more own p in let f : one (member own p) ≡ 1 = ap one h in omega arith

pub next-out : (own j p : ℕ) → member own p ≡ false → word_in own j p ≡ word_in own j (p + 1)
next-out own j p h = let e = size-more own p in let f : one (member own p) ≡ 0 = ap one h in omega arith

-- ---- the parts of a schema
module _ (kept : List ℕ) (s : ℕ) where
  pub parts-start : (j : ℕ) (before : List ℕ) → kept_count kept s ≤ j → PartsNoted kept s j before before
  parts-start j before n = record {
    long = refl;
    first = λ p i l a b h f. absurd (omega arith);
    stays = λ k l. refl;
  }

  -- one part more, before those noted
  pub parts_more : (j k : ℕ) {before mid after : List ℕ} → j ≡ k + 1 → PartsNoted kept s j before mid →
      PartNoted (kept_own kept s k) s k 12 mid after → PartsNoted kept s k before after
  parts_more j k {before} {mid} {after} e h n = record {
    long = n.long ∙ h.long;
    first = λ p i l a b m f. elim (ℕ_discrete i k) [
      | yes z ↦
          n.here p l (ap (λ (x : ℕ). member (kept_own kept s x) p) (sym z) ∙ m)
          ∙ sym (ap (λ (x : ℕ). word_in (kept_own kept s x) x p) z)
      | no z ↦
          n.stays (origin_place s p) (λ q y o d.
          let w : q ≡ p = omega arith in
          both-ft (ap (member (kept_own kept s k)) (sym w) ∙ o) (f k (omega arith) (omega arith)))
          ∙ h.first p i l (omega arith) b m (λ x y. f x (omega arith))
    ];
    stays = λ x l. n.stays x (λ q y o d. omega arith) ∙ h.stays x l;
  }

-- ---- the schemas
pub origins-start : (kept origins : List ℕ) → OriginsKept kept 0 origins
origins-start kept origins = record { first = λ s p i l. absurd (omega arith) }

pub origins-more : {kept before after : List ℕ} (s : ℕ) → OriginsKept kept s before → PartsNoted kept s 0 before after →
    OriginsKept kept (s + 1) after
origins-more {kept} {before} {after} s h n = record {
  first = λ q p i l a b m f. elim (ℕ_discrete q s) [
    | yes z ↦ subst (Noted p i a) (sym z) (λ b m f. n.first p i a (omega arith) b m f) b m f
    | no z ↦ n.stays (origin_place q p) (omega arith) ∙ h.first q p i (omega arith) a b m f
  ];
}
  where
    Noted : (p i : ℕ) → p < 12 → ℕ → Type 0
    Noted p i a q = i < kept_count kept q → member (kept_own kept q i) p ≡ true → NoneBefore kept q p 0 i →
        get_or after (origin_place q p) 0 ≡ word_in (kept_own kept q i) i p

-- ---- where the first part that has a parameter stands
-- the first number that a test takes, up to one that it takes
least : (f : ℕ → Bool) (j : ℕ) → f j ≡ true →
    (i : ℕ) × (i ≤ j) × (f i ≡ true) × ((k : ℕ) → 0 ≤ k → k < i → f k ≡ false)
least f j h = elim (below j) [
  | inl none_below ↦ (j, omega arith, h, λ k a l. none_below k l)
  | inr found ↦ let (i, l, e, n) = found in (i, omega arith, e, n)
]
  where
    below : (n : ℕ) →
        ((k : ℕ) → k < n → f k ≡ false) ⊎
        ((i : ℕ) × (i < n) × (f i ≡ true) × ((k : ℕ) → 0 ≤ k → k < i → f k ≡ false))
    below zero = inl (λ k l. absurd (omega arith))
    below (suc n) = elim (below n) [
      | inr found ↦ inr (let (i, l, e, m) = found in (i, omega arith, e, m))
      | inl none_below ↦ elim (bool_cases (f n)) [
        | inl e ↦ inr (n, omega arith, e, λ k a l. none_below k l)
        | inr e ↦ inl (λ k l. below_more (λ k. f k ≡ false) n none_below e k (omega arith))
      ]
    ]

-- a parameter's object stands at or before any part that has it
pub origin-small : {kept origins : List ℕ} {n : ℕ} → OriginsKept kept n origins → (s p j : ℕ) → s < n → p < 12 →
    j < kept_count kept s → member (kept_own kept s j) p ≡ true → get_or origins (origin_place s p) 0 < 13 * j + 13
origin-small {kept} {origins} O s p j l m c h =
    let (i, a, e, f) = least (λ k. member (kept_own kept s k) p) j h in
    let w = O.first s p i l m (omega arith) e f in
    let q = few-below (kept_own kept s i) p in
    omega arith
