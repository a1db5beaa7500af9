-- The search for the first pair that can be merged: the parameters of two parts say whether they are narrow enough, and
-- their arcs the rest. Pairs are tried in order, lowest part first; one that is too wide by itself is passed over.
use Prim.Native.Nat.{ℕ, ◌-◌, ◌≤◌, ◌<◌}
use mathlib.Core.Path.{◌≡◌, refl, sym, ◌∙◌, ap}
use mathlib.Core.Bool.{Bool, true, false, ◌&&◌, ◌||◌}
use mathlib.Core.List.{List}
use mathlib.Core.Logic.{◌⊎◌, inl, inr}
use Rattle.std.specs.Prelude.{None, Some}
use native.Mathlib.Decide.{ℕ_discrete}
use native.Mathlib.Omega.{arith}
use lib.Bits.{bit_or}
use lib.Dec.{leb, ltb}
use lib.ListN.{length}
use borrow.Author.Tests.{le-leb, leb-false, lt-leb, lt-ltb, ltb-true}
use Rattle.words.specs.Lists.{filter, up_to}
use Rattle.words.specs.Sets.{Loses, Lowest, SetBelow, member, members, word_bits}
use Rattle.words.proofs.Lists.{and_both, and_left, both-ft, false-if, filter-in, in-filter, or_left, or_right}
use Rattle.words.proofs.Ascending.{ascend-filter, ascend-up_to, covered-few}
use Rattle.words.proofs.BitSets.{member-or, member-zero}
use Rattle.words.proofs.SetLoops.{gone, left_in, lowest-first, others-stay}
use Rattle.task.specs.Task.{Schema}
use Rattle.proposals.specs.Proposal.{mergeable, first_pair}
use Rattle.proposals.specs.Circle.{merged_arcs, no_circle}
use Rattle.proposals.specs.Scratch.{arcs_in, parameters_to, Named, InPlay}
use Rattle.proposals.proofs.InPlay.{in-play-gap-free, mergeable-in-play}
use Rattle.proposals.proofs.PartPairs.{pair, Before}
use Rattle.proposals.proofs.Turns.{first-pair-is, first-pair-none}

-- ---- the test of one pair
module _ (width : ℕ) {s : Schema} {n : ℕ} {ps scratch : List ℕ} (known : Named s)
    (play : InPlay s n ps scratch) (a b : ℕ) (l : a < b) (m : b < n) (set : ℕ)
    (both : (x : ℕ) → member set x ≡ member (parameters_to scratch a) x || member (parameters_to scratch b) x) where
  abbrev placed : Bool
  placed = no_circle (merged_arcs a b (arcs_in scratch)) (n - 1)

  abbrev size : ℕ
  size = length (members set word_bits)

  -- no arc is looked at where they are too wide
  pub too_wide : width < size → false ≡ mergeable width s ps (pair a b)
  too_wide w =
      sym (mergeable-in-play play a b l m known width set both ∙ ap (λ c. c && placed) (lt-leb size width w))

  pub narrow : size ≤ width → placed ≡ mergeable width s ps (pair a b)
  narrow w = sym (mergeable-in-play play a b l m known width set both ∙ ap (λ c. c && placed) (le-leb size width w))

-- ---- a part that is too wide by itself
-- a set that has all of another is no smaller
size-most : (less more : ℕ) → ((x : ℕ) → member less x ≡ true → member more x ≡ true) →
    length (members less word_bits) ≤ length (members more word_bits)
unfolding members
size-most less more h =
    covered-few (filter (member more) (up_to word_bits)) (filter (member less) (up_to word_bits))
    (ascend-filter (member less) (ascend-up_to word_bits)) (λ x i.
    let (j, m) = filter-in (member less) (up_to word_bits) x i in in-filter (member more) j (h x m))

-- what is said of the parts, whatever schema they belong to
module _ (width n : ℕ) (scratch : List ℕ) where
  abbrev Tells : (Schema → List ℕ → Type 0) → Type 0
  Tells P = (s : Schema) (ps : List ℕ) → Named s → InPlay s n ps scratch → P s ps

  abbrev pub is_narrow : ℕ → Bool
  is_narrow p = leb (length (members (parameters_to scratch p) word_bits)) width

  -- it can't be merged with any
  wide-alone : (a b : ℕ) → a < b → b < n → (is_narrow a ≡ false) ⊎ (is_narrow b ≡ false) →
      Tells (λ s ps. mergeable width s ps (pair a b) ≡ false)
  wide-alone a b l m wide s ps known play =
      sym (too_wide width known play a b l m (bit_or (parameters_to scratch a) (parameters_to scratch b))
      (member-or (parameters_to scratch a) (parameters_to scratch b)) (over wide))
    where
      of-a : ℕ → Bool
      of-a x = member (parameters_to scratch a) x

      of-b : ℕ → Bool
      of-b x = member (parameters_to scratch b) x

      both : ℕ
      both = bit_or (parameters_to scratch a) (parameters_to scratch b)

      has : (x : ℕ) → member both x ≡ of-a x || of-b x
      has x = member-or (parameters_to scratch a) (parameters_to scratch b) x

      over : (is_narrow a ≡ false) ⊎ (is_narrow b ≡ false) → width < length (members both word_bits)
      over (inl e) =
          let w = leb-false (length (members (parameters_to scratch a) word_bits)) width e in
          omega (arith, size-most (parameters_to scratch a) both (λ x h. has x ∙ or_left (of-a x) (of-b x) h))
      over (inr e) =
          let w = leb-false (length (members (parameters_to scratch b) word_bits)) width e in
          omega (arith, size-most (parameters_to scratch b) both (λ x h. has x ∙ or_right (of-a x) (of-b x) h))

  -- ---- the search for a partner of part a
  -- those of the others that had their turn can't be merged with it
  pub record Trying (a others rest : ℕ) : Type 0 where
    pub left : (b : ℕ) → member rest b ≡ true → member others b ≡ true
    pub none : Tells (λ s ps. (b : ℕ) → member others b ≡ true → member rest b ≡ false →
        mergeable width s ps (pair a b) ≡ false)

  pub trying-first : (a others : ℕ) → Trying a others others
  trying-first a others = record { left = λ b m. m; none = λ s ps known play b m n. absurd (both-ft m n) }

  module _ {a others rest : ℕ} (h : Trying a others rest) where
    -- the lowest can't be merged with it
    pub trying-next : {b : ℕ} → Lowest rest b → (less : ℕ) → Loses rest b less →
        Tells (λ s ps. false ≡ mergeable width s ps (pair a b)) → Trying a others less
    trying-next {b} l less loses e = record {
      left = λ c m. h.left c (left_in rest b less loses c m);
      none = λ s ps known play c m out. elim (ℕ_discrete b c) [
        | yes o ↦ ap (λ (x : ℕ). mergeable width s ps (pair a x)) (sym o) ∙ sym (e s ps known play)
        | no d ↦ h.none s ps known play c m (sym (others-stay rest b less loses c d) ∙ out)
      ];
    }

    -- it can
    pub trying-found : {b : ℕ} → Lowest rest b →
        Tells (λ s ps. (c : ℕ) → member others c ≡ true → c < b → mergeable width s ps (pair a c) ≡ false)
    trying-found l s ps known play c m k = h.none s ps known play c m (l.least c k)

    -- none is left
    pub trying-ends : rest ≡ 0 →
        Tells (λ s ps. (c : ℕ) → member others c ≡ true → mergeable width s ps (pair a c) ≡ false)
    trying-ends z s ps known play c m =
        h.none s ps known play c m (ap (λ (x : ℕ). member x c) z ∙ member-zero c)

  -- ---- the search for the first pair
  -- of the narrow parts those left are the higher ones; no other part can be merged with one behind it
  pub record Searching (narrow rest : ℕ) : Type 0 where
    pub narrowed : (p : ℕ) → member narrow p ≡ ltb p n && is_narrow p
    pub left : (p : ℕ) → member rest p ≡ true → member narrow p ≡ true
    pub higher : (p q : ℕ) → member rest p ≡ true → p < q → member narrow q ≡ true → member rest q ≡ true
    pub none : Tells (λ s ps. (a b : ℕ) → a < b → b < n → member rest a ≡ false →
        mergeable width s ps (pair a b) ≡ false)

  -- a part below n that isn't narrow
  not_narrow : (narrow p : ℕ) → ((p : ℕ) → member narrow p ≡ ltb p n && is_narrow p) → p < n →
      member narrow p ≡ false → is_narrow p ≡ false
  not_narrow narrow p told l out =
      false-if (is_narrow p) (λ e. both-ft (told p ∙ and_both _ _ (lt-ltb p n l) e) out)

  pub searching-first : (narrow : ℕ) → ((p : ℕ) → member narrow p ≡ ltb p n && is_narrow p) → Searching narrow narrow
  searching-first narrow told = record {
    narrowed = told;
    left = λ p m. m;
    higher = λ p q m l w. w;
    none = λ s ps known play a b l m out.
        wide-alone a b l m (inl (not_narrow narrow a told (omega arith) out)) s ps known play;
  }

  pub searching-below : {narrow rest : ℕ} → Searching narrow rest → SetBelow n rest
  searching-below h p m = ltb-true p n (and_left (ltb p n) (is_narrow p) (sym (h.narrowed p) ∙ h.left p m))

  module _ {narrow rest a : ℕ} (h : Searching narrow rest) (l : Lowest rest a) (less : ℕ)
      (loses : Loses rest a less) where
    pub behind : (b : ℕ) → member less b ≡ true → a < b
    behind b m =
        lowest-first l b (left_in rest a less loses b m) (λ e.
        both-ft m (ap (member less) e ∙ gone rest a less loses))

    -- a's partners are among those left, or too wide
    partner : (b : ℕ) → a < b → b < n →
        Tells (λ s ps. (member less b ≡ true → mergeable width s ps (pair a b) ≡ false) →
        mergeable width s ps (pair a b) ≡ false)
    partner b k m s ps known play tried = go (member less b) refl
      where
        go : (t : Bool) → member less b ≡ t → mergeable width s ps (pair a b) ≡ false
        go true e = tried e
        go false e =
            let out = sym (others-stay rest a less loses b (λ o. omega arith)) ∙ e in
            wide-alone a b k m (inr (not_narrow narrow b h.narrowed m (false-if (member narrow b) (λ w.
            both-ft (h.higher a b l.is-in k w) out)))) s ps known play

    -- a can't be merged with any of them
    pub searching-next :
        Tells (λ s ps. (b : ℕ) → member less b ≡ true → mergeable width s ps (pair a b) ≡ false) →
        Searching narrow less
    searching-next tried = record {
      narrowed = h.narrowed;
      left = λ p m. h.left p (left_in rest a less loses p m);
      higher = λ p q m k w.
          let z = behind p m in
          others-stay rest a less loses q (λ o. omega arith) ∙
          h.higher p q (left_in rest a less loses p m) k w;
      none = λ s ps known play c b k m out. elim (ℕ_discrete a c) [
        | yes o ↦
            ap (λ (x : ℕ). mergeable width s ps (pair x b)) (sym o) ∙
            partner b (omega arith) m s ps known play (tried s ps known play b)
        | no d ↦ h.none s ps known play c b k m (sym (others-stay rest a less loses c d) ∙ out)
      ];
    }

    -- it can be merged with b, and with none of them before
    pub searching-found : {b : ℕ} → a < b → b < n →
        Tells (λ s ps. (mergeable width s ps (pair a b) ≡ true) ×
        ((c : ℕ) → member less c ≡ true → c < b → mergeable width s ps (pair a c) ≡ false)) →
        Tells (λ s ps. Some (pair a b) ≡ first_pair width s ps)
    searching-found {b} k m tried s ps known play =
        sym (first-pair-is width s n ps (in-play-gap-free play) a b k m (tried s ps known play).0 earlier)
      where
        earlier : (c d : ℕ) → c < d → d < n → Before c d a b → mergeable width s ps (pair c d) ≡ false
        earlier c d i j (inl e) = h.none s ps known play c d i j (l.least c e)
        earlier c d i j (inr (e, f)) =
            ap (λ (x : ℕ). mergeable width s ps (pair x d)) e ∙
            partner d (omega arith) j s ps known play (λ x. (tried s ps known play).1 d x f)

  -- none is left
  pub searching-ends : {narrow rest : ℕ} → Searching narrow rest → rest ≡ 0 →
      Tells (λ s ps. None ≡ first_pair width s ps)
  searching-ends h z s ps known play =
      sym (first-pair-none width s n ps (in-play-gap-free play) (λ a b l m.
      h.none s ps known play a b l m (ap (λ (x : ℕ). member x a) z ∙ member-zero a)))
