-- Loops in which a set grows by the numbers that a test takes: over the numbers of another set, the lowest first, or
-- over all below a bound. Over a set the lowest number left is taken out in each turn, so that fewer are left.
use Prim.Native.Nat.{ℕ, ◌+◌, ◌-◌, ◌<◌}
use mathlib.Core.Path.{◌≡◌, refl, sym, ◌∙◌, ap}
use mathlib.Core.Bool.{Bool, true, false, not, ◌&&◌, ◌||◌, and-true, or-true}
use native.Mathlib.Omega.{arith}
use native.Mathlib.Decide.{dec_lt}
use lib.Dec.{eqb, ltb}
use lib.ListN.{length}
use borrow.Author.Tests.{eqb-true, eqb-false, eq-eqb, ne_eqb, lt-ltb, le-ltb}
use Rattle.words.specs.Lists.{up_to}
use Rattle.words.specs.Sets.{Loses, Lowest, member, members, set_bits}
use Rattle.words.proofs.Lists.{and_left, both-ft, filter-in, filter_same, in-filter, in-up_to}
use Rattle.words.proofs.Ascending.{ascend-filter, ascend-up_to, covered-few, in-others, others, others-fewer}
use Rattle.words.proofs.Sums.{filter-filter}
use Rattle.words.proofs.Ranges.{or-false}
use Rattle.words.proofs.Words.{and-false}
use Rattle.words.proofs.BitSets.{member-zero}

-- ---- a set within another that lacks one of its numbers has fewer, so that a loop ends
pub within-fewer : (set less : ℕ) → ((j : ℕ) → member less j ≡ true → member set j ≡ true) →
    (k n : ℕ) → k < n → member set k ≡ true → member less k ≡ false → length (members less n) < length (members set n)
unfolding members
within-fewer set less within k n l m gone =
    let some = others-fewer (in-filter (member set) (in-up_to n k l) m) in
    let all = covered-few (others k (members set n)) (members less n) (ascend-filter (member less) (ascend-up_to n))
    (λ j i.
    let (a, b) = filter-in (member less) (up_to n) j i in
    in-others k (in-filter (member set) a (within j b)) (λ e. both-ft b (ap (member less) (sym e) ∙ gone))) in
    omega arith

-- ---- a number is taken out
module _ (set k rest : ℕ) (h : Loses set k rest) where
  -- what is left was there before
  pub left_in : (j : ℕ) → member rest j ≡ true → member set j ≡ true
  left_in j m = and_left (member set j) (not (eqb k j)) (sym (h j) ∙ m)

  -- it is gone, and all others stay
  pub gone : member rest k ≡ false
  gone = h k ∙ (ap (λ (b : Bool). member set k && not b) (eq-eqb k k refl) ∙ and-false (member set k))

  pub others-stay : (j : ℕ) → (k ≡ j → ⊥) → member rest j ≡ member set j
  others-stay j d = h j ∙ (ap (λ (b : Bool). member set j && not b) (ne_eqb k j d) ∙ and-true (member set j))

  pub members-left : (n : ℕ) → members rest n ≡ others k (members set n)
  unfolding members
  members-left n =
      filter_same (member rest) (λ j. member set j && not (eqb k j)) (up_to n) (λ j i. h j) ∙
      sym (filter-filter (λ j. not (eqb k j)) (member set) (up_to n))

  -- so fewer are left
  pub fewer-left : (n : ℕ) → k < n → member set k ≡ true → length (members rest n) < length (members set n)
  fewer-left n l m = within-fewer set rest left_in k n l m gone

-- the same of the lowest
pub lowest-fewer : {set p : ℕ} → Lowest set p → (rest : ℕ) → Loses set p rest →
    length (members rest set_bits) < length (members set set_bits)
lowest-fewer {set} {p} l rest h = fewer-left set p rest h set_bits l.below l.is-in

-- the others are higher
pub lowest-first : {set p : ℕ} → Lowest set p → (k : ℕ) → member set k ≡ true → (k ≡ p → ⊥) → p < k
lowest-first {set} {p} l k m d = elim (dec_lt k p) [
  | yes i ↦ absurd (both-ft m (l.least k i))
  | no i ↦ omega (arith, d)
]

-- ---- the numbers that a test takes, of those that had their turn
pub record Taken (test had : ℕ → Bool) (set : ℕ) : Type 0 where
  pub told : (k : ℕ) → member set k ≡ had k && test k

-- p has its turn
module _ {test had : ℕ → Bool} {set : ℕ} (h : Taken test had set) (p : ℕ) (next : ℕ → Bool)
    (turn : (k : ℕ) → next k ≡ had k || eqb p k) where
  -- the test takes it
  turn-takes : test p ≡ true → (more : ℕ) → ((k : ℕ) → member more k ≡ member set k || eqb p k) → Taken test next more
  turn-takes t more joins = record {
    told = λ k. joins k ∙ (ap (λ (b : Bool). b || eqb p k) (h.told k) ∙ (go k (had k) (eqb p k) refl ∙
        ap (λ (b : Bool). b && test k) (sym (turn k))));
  }
    where
      go : (k : ℕ) (a b : Bool) → eqb p k ≡ b → (a && test k) || b ≡ (a || b) && test k
      go k true true e = or-true (test k) ∙ sym (ap test (sym (eqb-true p k e)) ∙ t)
      go k true false e = or-false (test k)
      go k false true e = sym (ap test (sym (eqb-true p k e)) ∙ t)
      go k false false e = refl

  -- it doesn't
  turn-passes : test p ≡ false → Taken test next set
  turn-passes t = record {
    told = λ k. h.told k ∙ (go k (had k) (eqb p k) refl ∙ ap (λ (b : Bool). b && test k) (sym (turn k)));
  }
    where
      go : (k : ℕ) (a b : Bool) → eqb p k ≡ b → a && test k ≡ (a || b) && test k
      go k true b e = refl
      go k false true e = sym (ap test (sym (eqb-true p k e)) ∙ t)
      go k false false e = refl

-- ---- the numbers of a set: the rest is to come
pub record Chosen (test : ℕ → Bool) (set rest chosen : ℕ) : Type 0 where
  pub left : (k : ℕ) → member rest k ≡ true → member set k ≡ true
  pub taken : Taken test (λ k. member set k && not (member rest k)) chosen

pub chosen_none : (test : ℕ → Bool) (set : ℕ) → Chosen test set set 0
chosen_none test set = record {
  left = λ k m. m;
  taken = record { told = λ k. member-zero k ∙ sym (never (member set k) (test k)) };
}
  where
    never : (b c : Bool) → (b && not b) && c ≡ false
    never true c = refl
    never false c = refl

module _ {test : ℕ → Bool} {set rest chosen p : ℕ} (h : Chosen test set rest chosen) (l : Lowest rest p) (less : ℕ)
    (loses : Loses rest p less) where
  turn : (k : ℕ) → member set k && not (member less k) ≡ (member set k && not (member rest k)) || eqb p k
  turn k = go (eqb p k) refl
    where
      go : (b : Bool) → eqb p k ≡ b → member set k && not (member less k) ≡ (member set k && not (member rest k)) || b
      go true e =
          let o = eqb-true p k e in
          let s : member set k ≡ true = ap (member set) (sym o) ∙ h.left p l.is-in in
          let n : member less k ≡ false = ap (member less) (sym o) ∙ gone rest p less loses in
          rw (s, n) (sym (or-true (not (member rest k))))
      go false e =
          ap (λ (b : Bool). member set k && not b) (others-stay rest p less loses k (eqb-false p k e)) ∙
          sym (or-false (member set k && not (member rest k)))

  still : (k : ℕ) → member less k ≡ true → member set k ≡ true
  still k m = h.left k (left_in rest p less loses k m)

  abbrev had : ℕ → Bool
  had k = member set k && not (member less k)

  pub chosen-takes : test p ≡ true → {more : ℕ} → ((k : ℕ) → member more k ≡ member chosen k || eqb p k) →
      Chosen test set less more
  chosen-takes t {more} with = record { left = still; taken = turn-takes h.taken p had turn t more with }

  pub chosen-passes : test p ≡ false → Chosen test set less chosen
  chosen-passes t = record { left = still; taken = turn-passes h.taken p had turn t }

-- none is left
pub chosen-all : {test : ℕ → Bool} {set rest chosen : ℕ} → Chosen test set rest chosen → rest ≡ 0 → (k : ℕ) →
    member chosen k ≡ member set k && test k
chosen-all {test} {set} {rest} h z k =
    h.taken.told k ∙ ap (λ (b : Bool). b && test k)
    (ap (λ (b : Bool). member set k && not b) (ap (λ (x : ℕ). member x k) z ∙ member-zero k) ∙ and-true (member set k))

-- ---- all numbers below n
abbrev pub TakenBelow : (ℕ → Bool) → ℕ → ℕ → Type 0
TakenBelow test n set = Taken test (λ k. ltb k n) set

pub taken_none : (test : ℕ → Bool) (from : ℕ) → TakenBelow test (from - from) 0
taken_none test from = record {
  told = λ p. member-zero p ∙ ap (λ (b : Bool). b && test p) (sym (le-ltb p (from - from) (omega arith)));
}

module _ {test : ℕ → Bool} (n : ℕ) {m set : ℕ} (next : m ≡ n + 1) (h : TakenBelow test n set) where
  further : (k : ℕ) → ltb k m ≡ ltb k n || eqb n k
  further k = go (eqb n k) refl
    where
      go : (b : Bool) → eqb n k ≡ b → ltb k m ≡ ltb k n || b
      go true e = let o = eqb-true n k e in lt-ltb k m (omega arith) ∙ sym (or-true (ltb k n))
      go false e = elim (dec_lt k n) [
        | yes l ↦ lt-ltb k m (omega arith) ∙ sym (or-false (ltb k n) ∙ lt-ltb k n l)
        | no l ↦ le-ltb k m (omega (arith, eqb-false n k e)) ∙ sym (or-false (ltb k n) ∙ le-ltb k n (omega arith))
      ]

  pub taken-joins : test n ≡ true → {more : ℕ} → ((k : ℕ) → member more k ≡ member set k || eqb n k) →
      TakenBelow test m more
  taken-joins t {more} joins = turn-takes h n (λ k. ltb k m) further t more joins

  pub taken-passes : test n ≡ false → TakenBelow test m set
  taken-passes t = turn-passes h n (λ k. ltb k m) further t
