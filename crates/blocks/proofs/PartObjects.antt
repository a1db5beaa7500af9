-- The objects of a part among a step's words: they go by the part's own parameters, from 0 on, and those are the
-- numbers of its set, ascending. So comparing word after word with what the block gives compares the two lists.
use Prim.Native.Nat.{ℕ, zero, suc, ◌+◌, ◌≤◌, ◌<◌}
use mathlib.Core.Path.{◌≡◌, refl, sym, ◌∙◌, ap, ap₂}
use mathlib.Core.Bool.{Bool, true, false, ◌&&◌}
use mathlib.Core.List.{List, [], ◌∷◌, ◌++◌, map}
use native.Mathlib.Omega.{arith}
use native.Mathlib.Numerals.{add-one}
use native.Mathlib.Decide.{dec_lt}
use lib.ListN.{length, get_or, length-map, get_or-append}
use lib.Seq.{get_or-append-add}
use lib.Dec.{eqb}
use Rattle.words.specs.Lists.{all, keep_if, up_to, up_from, eq_list}
use Rattle.words.specs.Words.{words_at}
use Rattle.words.specs.Sets.{member, members}
use Rattle.words.proofs.Lists.{in-get_or, filter-in, up_to-in, get_or-map, tabulate}
use Rattle.words.proofs.Words.{length-words_at, get_or-words_at}
use Rattle.words.proofs.SetMembers.{members-more, size_none, size-more}
use Rattle.words.proofs.Sums.{one}
use Rattle.blocks.specs.FoldCode.{origin_place, object_in, objects_in, agrees_at, given_objects}

-- ---- the parameter at index k of a set's has k before it
module _ (own n k : ℕ) where
  abbrev last : List ℕ
  last = keep_if (member own n) n []

  more-at : get_or (members own (suc n)) k 0 ≡ get_or (members own n ++ last) k 0
  more-at = ap (λ (xs : List ℕ). get_or xs k 0) (ap (members own) (sym (add-one n)) ∙ members-more own n)

  last-at : k < length (members own (suc n)) → length (members own n) ≤ k →
      (get_or (members own (suc n)) k 0 ≡ n) × (length (members own n) ≡ k)
  unfolding keep_if
  last-at l q = go (member own n) refl
    where
      size : length (members own (suc n)) ≡ length (members own n) + one (member own n)
      size = ap (λ (m : ℕ). length (members own m)) (sym (add-one n)) ∙ size-more own n

      go : (b : Bool) → member own n ≡ b → (get_or (members own (suc n)) k 0 ≡ n) × (length (members own n) ≡ k)
      go true e =
          let f : one (member own n) ≡ 1 = ap one e in
          let z : k ≡ length (members own n) + 0 = omega (arith, size) in (
            more-at
                ∙ (ap₂ (λ (b : Bool) (i : ℕ). get_or (members own n ++ keep_if b n []) i 0) e z
                ∙ get_or-append-add (members own n) (n ∷ []) 0 0),
            omega arith,
          )
      go false e = let f : one (member own n) ≡ 0 = ap one e in absurd (omega (arith, size))

pub before_at : (own n k : ℕ) → k < length (members own n) → length (members own (get_or (members own n) k 0)) ≡ k
before_at own zero k l = absurd (omega (arith, size_none own))
before_at own (suc n) k l = elim (dec_lt k (length (members own n))) [
  | yes q ↦
      ap (λ (p : ℕ). length (members own p)) (more-at own n k ∙ get_or-append (members own n) (last own n k) 0 k q)
      ∙ before_at own n k q
  | no q ↦
      let (e, f) = last-at own n k l (omega arith) in
      ap (λ (p : ℕ). length (members own p)) e ∙ f
]

-- ---- two lists compared element after element
same-mapped : (f g : ℕ → ℕ) (xs : List ℕ) → all (λ x. eqb (f x) (g x)) xs ≡ eq_list (map f xs) (map g xs)
unfolding all eq_list
same-mapped f g [] = refl
same-mapped f g (x ∷ xs) = ap (λ (b : Bool). eqb (f x) (g x) && b) (same-mapped f g xs)

tabled : (f : ℕ → ℕ) (n : ℕ) (xs : List ℕ) → length xs ≡ n → ((k : ℕ) → k < n → f k ≡ get_or xs k 0) →
    map f (up_to n) ≡ xs
unfolding up_to
tabled f n xs e h =
    ap (λ (m : ℕ). map f (up_from 0 m)) (sym e)
    ∙ tabulate f 0 xs 0 (λ k l. let z : 0 + k ≡ k = omega arith in ap f z ∙ h k (omega arith))

-- ---- a number of a set is below the bound, and in the set
pub in-set : (own n k : ℕ) → k < length (members own n) →
    (get_or (members own n) k 0 < n) × (member own (get_or (members own n) k 0) ≡ true)
unfolding members
in-set own n k l =
    let (i, m) = filter-in (member own) (up_to n) _ (in-get_or (members own n) k 0 l) in
    (up_to-in n _ i, m)

-- ---- the objects that a part gives are its block's
module _ (origins places : List ℕ) (own s number : ℕ) (placed : (p : ℕ) → p < 12 → member own p ≡ true →
    get_or places (origin_place number (length (members own p))) 0 ≡ get_or origins (origin_place s p) 0) where
  -- the place of the part's own parameter k
  pub place_at : (k : ℕ) → k < length (members own 12) →
      get_or places (origin_place number k) 0 ≡ get_or origins (origin_place s (get_or (members own 12) k 0)) 0
  place_at k l =
      let (a, m) = in-set own 12 k l in
      ap (λ (i : ℕ). get_or places (origin_place number i) 0) (sym (before_at own 12 k l))
      ∙ placed (get_or (members own 12) k 0) a m

  pub agrees-all : (steps : List ℕ) (begin at n : ℕ) → n ≡ length (members own 12) →
      all (agrees_at steps places begin at number) (up_to n) ≡
      eq_list (given_objects steps at own) (objects_in steps origins begin s (members own 12))
  unfolding given_objects
  agrees-all steps begin at n e =
      let ps = members own 12 in
      let given : ℕ → ℕ = λ k. get_or steps (at + 1 + k) 0 in
      let block : ℕ → ℕ = object_in steps places begin number in
      let a : map given (up_to n) ≡ words_at steps (at + 1) (length ps) =
      tabled given n (words_at steps (at + 1) (length ps)) (length-words_at steps (at + 1) (length ps) ∙ sym e)
      (λ k l. sym (get_or-words_at steps (at + 1) (length ps) k (omega arith))) in
      let b : map block (up_to n) ≡ objects_in steps origins begin s ps =
      tabled block n (objects_in steps origins begin s ps)
      (length-map ps (object_in steps origins begin s) ∙ sym e)
      (λ k l. ap (λ (i : ℕ). get_or steps (begin + i) 0) (place_at k (omega arith))
      ∙ sym (get_or-map (object_in steps origins begin s) ps k 0 0 (omega arith))) in
      same-mapped given block (up_to n) ∙ ap₂ eq_list a b
