-- The choice among ready parts, tried from the highest number down. A part is ready where its set and the unplaced
-- parts have no number in common; its new parameters are the numbers left of a set; the candidates from a number on
-- grow at the front, as `best` takes them.
use Prim.Native.Nat.{ℕ, suc, ◌-◌, ◌^◌, ◌≤◌, ◌<◌}
use mathlib.Core.Path.{◌≡◌, refl, sym, ◌∙◌, ap}
use mathlib.Core.Bool.{Bool, true, false, not, ◌&&◌}
use mathlib.Core.List.{List, [], ◌∷◌}
use Rattle.std.specs.Prelude.{Option, None, Some}
use native.Mathlib.Omega.{arith}
use native.Mathlib.Decide.{dec_lt}
use lib.ListN.{length, get_or}
use lib.Dec.{ltb}
use borrow.Author.Tests.{eq-eqb, ne_eqb, le-ltb}
use Rattle.words.specs.Lists.{any, filter, keep_if, up_from, up_to}
use Rattle.task.specs.Limits.{most_parameters}
use Rattle.task.specs.Task.{Atom, Pair}
use Rattle.words.proofs.Lists.{and_left, and_right, and_both, bool-ext, both-ft, any-in, in-any, in-filter, filter-in}
use Rattle.words.proofs.Lists.{filter_same, in-up_to}
use Rattle.words.proofs.Ranges.{or-false}
use Rattle.words.proofs.SetMembers.{filter-below}
use Rattle.arcs.specs.Order.{arc, in_part, preconditions, tests, new_parameters, placed_parts, ready, ahead}
use Rattle.arcs.specs.Order.{better, best, next_part}
use Rattle.arcs.specs.Stretches.{AreArcs, AreTests, IsBound}
use Rattle.words.specs.Sets.{SetBelow, word_bits, member, members}
use Rattle.words.proofs.BitSets.{member-beyond}

-- ---- readiness by sets
member-small : (set k : ℕ) → set < 2 ^ 64 → member set k ≡ true → k < 64
member-small set k f h = elim (dec_lt k 64) [
  | yes l ↦ l
  | no l ↦ absurd (both-ft h (member-beyond set 64 k f (omega arith)))
]

-- an unplaced part has an arc to p where its set and the unplaced parts have a number in common
pub ready-apart : (pairs : List Pair) (atoms : List Atom) (before : List ℕ) (unplaced n p : ℕ) → unplaced < 2 ^ 64 →
    AreArcs pairs atoms before → SetBelow n unplaced →
    not (any (λ k. member (get_or before p 0) k && member unplaced k) (up_to 64)) ≡
    ready pairs atoms (members unplaced n) p
unfolding ready members
ready-apart pairs atoms before unplaced n p f a b =
    ap not (bool-ext (any common (up_to 64)) (any arcs (members unplaced n)) to from)
  where
    common : ℕ → Bool
    common k = member (get_or before p 0) k && member unplaced k

    arcs : ℕ → Bool
    arcs k = arc pairs atoms k p

    to : any common (up_to 64) ≡ true → any arcs (members unplaced n) ≡ true
    to h =
        let (k, i, e) = any-in common (up_to 64) h in
        let m = and_right (member (get_or before p 0) k) (member unplaced k) e in
        in-any arcs (in-filter (member unplaced) (in-up_to n k (b k m)) m)
        (sym (a k p) ∙ and_left (member (get_or before p 0) k) (member unplaced k) e)

    from : any arcs (members unplaced n) ≡ true → any common (up_to 64) ≡ true
    from h =
        let (k, i, e) = any-in arcs (members unplaced n) h in
        let m = (filter-in (member unplaced) (up_to n) k i).1 in
        in-any common (in-up_to 64 k (member-small unplaced k f m)) (and_both _ _ (a k p ∙ e) m)

-- ---- candidates
-- the numbers from k to n - 1 that are in a set and pass a test
abbrev candidates : ℕ → (ℕ → Bool) → ℕ → ℕ → List ℕ
candidates set test n k = filter test (filter (member set) (up_from k (n - k)))

module _ (set : ℕ) (test : ℕ → Bool) (n : ℕ) where
  candidates-none : candidates set test n n ≡ []
  unfolding filter up_from
  candidates-none =
      let z : n - n ≡ 0 = omega arith in
      ap (λ (m : ℕ). filter test (filter (member set) (up_from n m))) z

  candidates-all : candidates set test n 0 ≡ filter test (members set n)
  unfolding members up_to
  candidates-all =
      let z : n - 0 ≡ n = omega arith in
      ap (λ (m : ℕ). filter test (filter (member set) (up_from 0 m))) z

  module _ (p : ℕ) (z : 0 < p) (l : p ≤ n) where
    numbers : up_from (p - 1) (n - (p - 1)) ≡ (p - 1) ∷ up_from p (n - p)
    unfolding up_from
    numbers =
        let e : n - (p - 1) ≡ suc (n - p) = omega arith in
        let s : suc (p - 1) ≡ p = omega arith in
        ap (up_from (p - 1)) e ∙ ap (λ (m : ℕ). (p - 1) ∷ up_from m (n - p)) s

    candidates-skip : member set (p - 1) && test (p - 1) ≡ false →
        candidates set test n (p - 1) ≡ candidates set test n p
    unfolding filter keep_if
    candidates-skip h =
        ap (λ (ks : List ℕ). filter test (filter (member set) ks)) numbers
        ∙ go (member set (p - 1)) (test (p - 1)) refl h
      where
        go : (a b : Bool) → test (p - 1) ≡ b → a && b ≡ false →
            filter test (keep_if a (p - 1) (filter (member set) (up_from p (n - p)))) ≡ candidates set test n p
        go true true e h = absurd (both-ft refl h)
        go true false e h = rw e refl
        go false b e h = refl

    candidates-take : member set (p - 1) && test (p - 1) ≡ true →
        candidates set test n (p - 1) ≡ (p - 1) ∷ candidates set test n p
    unfolding filter keep_if
    candidates-take h =
        ap (λ (ks : List ℕ). filter test (filter (member set) ks)) numbers
        ∙ rw (and_left (member set (p - 1)) (test (p - 1)) h, and_right (member set (p - 1)) (test (p - 1)) h) refl

-- ---- a part's new parameters, counted
-- what is left of the set that its preconditions name, without the parameters of placed parts
pub new-counted : (atoms : List Atom) (placed counts tested : List ℕ) (bound left p : ℕ) →
    AreTests atoms counts tested → IsBound atoms placed bound →
    ((x : ℕ) → member left x ≡ member (get_or tested p 0) x && not (member bound x)) →
    length (members left word_bits) ≡ new_parameters atoms placed p
unfolding members new_parameters
new-counted atoms placed counts tested bound left p t b h =
    ap length (filter_same (member left) is_new (up_to word_bits) (λ x i. same x)
    ∙ filter-below is_new most_parameters word_bits (omega arith) few)
  where
    is_new : ℕ → Bool
    is_new x = tests atoms x p && not (any (in_part atoms x) placed)

    same : (x : ℕ) → member left x ≡ is_new x
    same x =
        h x ∙ (ap (λ (s : Bool). s && not (member bound x)) (t.named x p)
        ∙ ap (λ (s : Bool). tests atoms x p && not s) (b x))

    few : (x : ℕ) → is_new x ≡ true → x < most_parameters
    few x e = t.below p x (t.named x p ∙ and_left (tests atoms x p) _ e)

-- ---- the better of a part and what was found
module _ (atoms : List Atom) (placed : List ℕ) (q p : ℕ) where
  -- by preconditions, where they differ in number
  pub ahead_apart : (preconditions atoms p ≡ preconditions atoms q → ⊥) →
      ltb (preconditions atoms p) (preconditions atoms q) ≡ ahead atoms placed q p
  unfolding ahead
  ahead_apart n =
      rw (ne_eqb (preconditions atoms p) (preconditions atoms q) n)
      (sym (or-false (ltb (preconditions atoms p) (preconditions atoms q))))

  -- else by new parameters
  pub ahead-level : preconditions atoms p ≡ preconditions atoms q →
      ltb (new_parameters atoms placed p) (new_parameters atoms placed q) ≡ ahead atoms placed q p
  unfolding ahead
  ahead-level e =
      rw (
        le-ltb (preconditions atoms p) (preconditions atoms q) (omega arith),
        eq-eqb (preconditions atoms p) (preconditions atoms q) e,
      )
      refl

module _ (atoms : List Atom) (placed : List ℕ) (p : ℕ) {found : Option ℕ} where
  pub better-first : found ≡ None → Some p ≡ better atoms placed p found
  unfolding better
  better-first e = rw e refl

  pub better-keeps : (q : ℕ) → found ≡ Some q → ahead atoms placed q p ≡ true → Some q ≡ better atoms placed p found
  unfolding better
  better-keeps q e a = rw (e, a) refl

  pub better-takes : (q : ℕ) → found ≡ Some q → ahead atoms placed q p ≡ false → Some p ≡ better atoms placed p found
  unfolding better
  better-takes q e a = rw (e, a) refl

pub only_below : (n p : ℕ) → p < n → (q : ℕ) → Some p ≡ Some q → q < n
only_below n p l q e = let z : p ≡ q = cc in omega arith

-- ---- what is found among the parts from a number on
-- what is known of pairs and atoms, by the sets and counts that the choice goes by
pub record Known (before counts tested : List ℕ) (bound unplaced count : ℕ) (pairs : List Pair)
    (atoms : List Atom) : Type 0 where
  pub arcs : AreArcs pairs atoms before
  pub tests : AreTests atoms counts tested
  pub placed : IsBound atoms (placed_parts atoms (members unplaced count)) bound

-- of all pairs and atoms of which something is known
module _ (IsKnown : List Pair → List Atom → Type 0) (unplaced n : ℕ) where
  abbrev is_ready : List Pair → List Atom → ℕ → Bool
  is_ready pairs atoms = ready pairs atoms (members unplaced n)

  abbrev placed : List Atom → List ℕ
  placed atoms = placed_parts atoms (members unplaced n)

  -- the best of the candidates from p on
  abbrev pub FoundFrom : ℕ → Option ℕ → Type 0
  FoundFrom p found = (pairs : List Pair) (atoms : List Atom) → IsKnown pairs atoms →
      found ≡ best atoms (placed atoms) (candidates unplaced (is_ready pairs atoms) n p)

  -- whether p is unplaced and ready
  abbrev Passes : ℕ → Bool → Type 0
  Passes p b = (pairs : List Pair) (atoms : List Atom) → IsKnown pairs atoms →
      member unplaced p && is_ready pairs atoms p ≡ b

  pub found_none : FoundFrom n None
  unfolding best
  found_none pairs atoms k =
      sym (ap (best atoms (placed atoms)) (candidates-none unplaced (is_ready pairs atoms) n))

  pub found-skip : (p : ℕ) (found : Option ℕ) → 0 < p → p ≤ n → Passes (p - 1) false →
      FoundFrom p found → FoundFrom (p - 1) found
  found-skip p found z l t h pairs atoms k =
      h pairs atoms k
      ∙ sym (ap (best atoms (placed atoms))
      (candidates-skip unplaced (is_ready pairs atoms) n p z l (t pairs atoms k)))

  pub found_take : (p : ℕ) (found r : Option ℕ) → 0 < p → p ≤ n → Passes (p - 1) true → FoundFrom p found →
      ((pairs : List Pair) (atoms : List Atom) → IsKnown pairs atoms → r ≡ better atoms (placed atoms) (p - 1) found) →
      FoundFrom (p - 1) r
  unfolding best
  found_take p found r z l t h e pairs atoms k =
      e pairs atoms k
      ∙ (ap (better atoms (placed atoms) (p - 1)) (h pairs atoms k)
      ∙ sym (ap (best atoms (placed atoms))
      (candidates-take unplaced (is_ready pairs atoms) n p z l (t pairs atoms k))))

  pub found_all : (found : Option ℕ) → FoundFrom 0 found → (pairs : List Pair) (atoms : List Atom) →
      IsKnown pairs atoms → found ≡ next_part pairs atoms (members unplaced n)
  unfolding next_part
  found_all found h pairs atoms k =
      h pairs atoms k ∙ ap (best atoms (placed atoms)) (candidates-all unplaced (is_ready pairs atoms) n)
