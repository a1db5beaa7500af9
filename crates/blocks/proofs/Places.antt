-- Where a block gives the objects of each schema of the split, noted part after part, by the part's number: what is
-- noted for those before it stays.
use Prim.Native.Nat.{ℕ, zero, suc, ◌+◌, ◌*◌, ◌≤◌, ◌<◌}
use mathlib.Core.Path.{◌≡◌, refl, sym, ◌∙◌, ap}
use mathlib.Core.Bool.{true, false}
use mathlib.Core.List.{List}
use native.Mathlib.Omega.{arith}
use native.Mathlib.Decide.{ℕ_discrete, dec_le, dec_lt}
use native.Mathlib.Numerals.{add-one}
use lib.ListN.{length, get_or, set, length-set}
use lib.Seq.{get_or-set_same, get_or-set_other}
use Rattle.words.specs.Lists.{all, sum, up_to, up_from, eq_list}
use Rattle.words.specs.Sets.{member, members}
use Rattle.words.proofs.Lists.{both-ft}
use Rattle.words.proofs.SetMembers.{size_none, size-more}
use Rattle.words.proofs.Sums.{one}
use Rattle.task.specs.Task.{Task}
use Rattle.tokens.specs.Split.{orders, first_of}
use Rattle.tokens.specs.Kept.{kept_own}
use Rattle.blocks.specs.FoldCode.{origin_place, PartPlaced, PlacesNoted, objects_in, agrees_at, given_objects}
use Rattle.blocks.specs.FoldCode.{BlocksKnown}
use Rattle.blocks.proofs.Numbers.{first-inj}
use Rattle.blocks.proofs.Origins.{few-below, origin-small}
use Rattle.blocks.proofs.PartObjects.{in-set, place_at, agrees-all}
use Rattle.blocks.proofs.SplitParams.{part-arity, part-params, part-number}

-- ---- how many numbers a set has below a bound
size-rises : (own q n : ℕ) → q ≤ n → length (members own q) ≤ length (members own n)
size-rises own q zero l = let e : q ≡ 0 = omega arith in rw e (omega arith)
size-rises own q (suc n) l = elim (dec_le q n) [
  | yes k ↦
      let e : length (members own (suc n)) ≡ length (members own (n + 1)) =
      ap (λ (m : ℕ). length (members own m)) (sym (add-one n)) in
      omega (arith, e, size-more own n, size-rises own q n k)
  | no k ↦ let e : q ≡ suc n = omega arith in rw e (omega arith)
]

-- one more behind a number that it has
size_in : (own p : ℕ) → member own p ≡ true → length (members own (p + 1)) ≡ length (members own p) + 1
size_in own p m = let e = size-more own p in let f : one (member own p) ≡ 1 = ap one m in omega arith

size-out : (own p : ℕ) → member own p ≡ false → length (members own (p + 1)) ≡ length (members own p)
size-out own p m = let e = size-more own p in let f : one (member own p) ≡ 0 = ap one m in omega arith

-- ---- where the next of a part's parameters is noted
abbrev pub next_place : ℕ → ℕ → ℕ → ℕ
next_place own number p = origin_place number (length (members own p))

pub place-first : (own number : ℕ) → 12 * number ≡ next_place own number 0
place-first own number = omega (arith, size_none own)

pub place_in : (own number p : ℕ) → member own p ≡ true → next_place own number p + 1 ≡ next_place own number (p + 1)
place_in own number p m = omega (arith, size_in own p m)

pub place_out : (own number p : ℕ) → member own p ≡ false → next_place own number p ≡ next_place own number (p + 1)
place_out own number p m = omega (arith, size-out own p m)

-- ---- the parameters of one part
module _ (own s number : ℕ) (origins : List ℕ) where
  pub placed-start : (before : List ℕ) → PartPlaced own s number 0 origins before before
  placed-start before = record { long = refl; here = λ p l h. absurd (omega arith); stays = λ k h. refl }

  module _ (p : ℕ) {before after : List ℕ} (h : PartPlaced own s number p origins before after) where
    -- it has the next one, and that is noted
    pub placed-in : member own p ≡ true → (next : ℕ) → next ≡ next_place own number p → next < length before →
        PartPlaced own s number (p + 1) origins before (set after next (get_or origins (origin_place s p) 0))
    placed-in m next e l = record {
      long = length-set after next v ∙ h.long;
      here = λ q k n. elim (ℕ_discrete q p) [
        | yes z ↦
            ap (λ (i : ℕ). get_or (set after next v) i 0) (ap (next_place own number) z ∙ sym e)
            ∙ (get_or-set_same after next v 0 (omega (arith, h.long))
            ∙ ap (λ (x : ℕ). get_or origins (origin_place s x) 0) (sym z))
        | no z ↦
            let a = size_in own q n in
            let b = size-rises own (q + 1) p (omega arith) in
            get_or-set_other after next (next_place own number q) v 0 (λ f. omega arith) ∙ h.here q (omega arith) n
      ];
      stays = λ k f. get_or-set_other after next k v 0 (λ i. omega arith) ∙ h.stays k f;
    }
      where
        v : ℕ
        v = get_or origins (origin_place s p) 0

    pub placed-out : member own p ≡ false → PartPlaced own s number (p + 1) origins before after
    placed-out m = record {
      long = h.long;
      here = λ q k n. elim (ℕ_discrete q p) [
        | yes z ↦ absurd (both-ft n (ap (member own) z ∙ m))
        | no z ↦ h.here q (omega arith) n
      ];
      stays = h.stays;
    }

-- ---- the parts
module _ {t : Task} {kept origins : List ℕ} where
  -- none are noted before the first schema
  pub places-start : (places : List ℕ) → PlacesNoted t kept origins (first_of t 0) places
  unfolding first_of sum up_to up_from
  places-start places = record { here = λ s j p m l a b. absurd (omega arith) }

  -- one part more
  pub places-more : {before after : List ℕ} (s j n : ℕ) → j < length (orders t s) → n ≡ first_of t s + j →
      PlacesNoted t kept origins n before → PartPlaced (kept_own kept s j) s n 12 origins before after →
      PlacesNoted t kept origins (n + 1) after
  places-more {before} {after} s j n m e h d = record {
    here = λ q k p b l a o. elim (dec_lt (first_of t q + k) n) [
      | yes y ↦
          let w = few-below (kept_own kept q k) p in
          d.stays (next_place (kept_own kept q k) (first_of t q + k) p) (omega arith) ∙ h.here q k p b y a o
      | no y ↦
          let x : first_of t q + k ≡ n = omega arith in
          let (f, g) = first-inj t q k s j b m (x ∙ e) in
          let z : kept_own kept q k ≡ kept_own kept s j =
          ap (λ (i : ℕ). kept_own kept i k) f ∙ ap (kept_own kept s) g in
          ap (λ (i : ℕ). get_or after (next_place (kept_own kept q k) i p) 0) x
          ∙ (ap (λ (own : ℕ). get_or after (next_place own n p) 0) z
          ∙ (d.here p a (ap (λ (own : ℕ). member own p) (sym z) ∙ o)
          ∙ ap (λ (i : ℕ). get_or origins (origin_place i p) 0) (sym f)))
    ];
  }

-- ---- a part whose parameters are counted and whose places are noted, by its number
module _ {t : Task} {kept params origins places limits pairs : List ℕ}
    (K : BlocksKnown t kept params origins places limits pairs) (s j n : ℕ) (l : s < length t.schemas)
    (m : j < length (orders t s)) (e : n ≡ first_of t s + j) where
  abbrev set-of : ℕ
  set-of = kept_own kept s j

  pub part-count : get_or params n 0 ≡ length (members set-of 12)
  part-count =
      K.known.counts.count n (let h = part-number K.blocks s j l m in omega arith)
      ∙ (part-arity t s j n l m e ∙ sym (ap length (part-params K.blocks s j l m 12 (omega arith))))

  pub part-few : get_or params n 0 ≤ 12
  part-few = omega (arith, part-count, few-below set-of 12)

  part_placed : (p : ℕ) → p < 12 → member set-of p ≡ true →
      get_or places (next_place set-of n p) 0 ≡ get_or origins (origin_place s p) 0
  part_placed p a b =
      ap (λ (i : ℕ). get_or places (next_place set-of i p) 0) e
      ∙ K.place.here s j p m (part-number K.blocks s j l m) a b

  -- its block gives each of its objects at or before it
  pub part-near : (k : ℕ) → k < get_or params n 0 → get_or places (origin_place n k) 0 < 13 * j + 13
  part-near k a =
      let b : k < length (members set-of 12) = omega (arith, part-count) in
      let (c, h) = in-set set-of 12 k b in
      let f = place_at origins places set-of s n part_placed k b in
      let g = K.blocks.count s l in
      omega (arith, origin-small K.origin s (get_or (members set-of 12) k 0) j l c (omega arith) h)

  -- its objects are compared with those
  pub part-agrees : (steps : List ℕ) (begin at : ℕ) →
      all (agrees_at steps places begin at n) (up_to (get_or params n 0)) ≡
      eq_list (given_objects steps at set-of) (objects_in steps origins begin s (members set-of 12))
  part-agrees steps begin at =
      agrees-all origins places set-of s n part_placed steps begin at (get_or params n 0) part-count
