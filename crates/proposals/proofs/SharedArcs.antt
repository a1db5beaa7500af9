-- Two parts that are to merge may stand as one in the test for a circle: where an arc to either is one to both, and
-- there is none between them, the parts can all be placed exactly where they can be once the two are merged. A merged
-- part takes the lower rank of the two, and each of the two takes that of the merged part.
use Prim.Native.Nat.{ℕ, ◌-◌, ◌≤◌, ◌<◌}
use mathlib.Core.Path.{◌≡◌, refl, sym, ◌∙◌, ap, ap₂, subst}
use mathlib.Core.Bool.{Bool, true, false, cond, not, ◌&&◌, ◌||◌}
use mathlib.Core.List.{List}
use mathlib.Core.Logic.{◌⊎◌, inl, inr}
use native.Mathlib.Omega.{arith}
use native.Mathlib.Decide.{ℕ_discrete, dec_le}
use lib.Dec.{eqb}
use borrow.Author.Tests.{eqb-true, eqb-false, eq-eqb, ne_eqb, not-true}
use Rattle.words.specs.Lists.{any, up_to}
use Rattle.words.specs.Sets.{Loses, member, set_bits}
use Rattle.words.proofs.Lists.{and_left, and_right, and_both, or_cases, or_left, or_right, both-ft, bool-ext}
use Rattle.words.proofs.Lists.{false-if}
use Rattle.words.proofs.Ranges.{or-false}
use Rattle.words.proofs.Words.{and-false}
use Rattle.words.proofs.SetLoops.{gone, left_in, others-stay}
use Rattle.words.proofs.Lists.{any-in, in-any, in-up_to, up_to-in}
use Rattle.proposals.specs.Proposal.{merged_number}
use Rattle.proposals.specs.Circle.{Arcs, becoming, came_from, merged_arcs, no_circle}
use Rattle.proposals.specs.Scratch.{ArcsOfBoth, NoOwn, arcs_in, arcs_to, is_free, shared_in, shared_to}
use Rattle.proposals.proofs.CameFrom.{came-becomes, becomes}
use Rattle.proposals.proofs.MergedNumbers.{stays, joins, closes-up, goes, merged-below, merged-higher}
use Rattle.proposals.proofs.MergedNumbers.{becoming-goes, goes-becoming, becoming-small}
use Rattle.proposals.proofs.Kahn.{no-circle-exactly}
use Rattle.proposals.proofs.RankedParts.{Rises, placeable-ranked, ranked-placeable}

-- an arc to a or b is one from a part that has an arc to either, and is neither; any other arc is one
pub record Shares (a b : ℕ) (arcs shared : Arcs) : Type 0 where
  pub to_both : (x y : ℕ) → (y ≡ a) ⊎ (y ≡ b) → shared x y ≡ (arcs x a || arcs x b) && (not (eqb a x) && not (eqb b x))
  pub to-other : (x y : ℕ) → (y ≡ a → ⊥) → (y ≡ b → ⊥) → shared x y ≡ arcs x y

-- one of the two, or neither
one_of : (a b y : ℕ) → ((y ≡ a) ⊎ (y ≡ b)) ⊎ ((y ≡ a → ⊥) × (y ≡ b → ⊥))
one_of a b y = elim (ℕ_discrete y a) [
  | yes e ↦ inl (inl e)
  | no d ↦ elim (ℕ_discrete y b) [ yes e ↦ inl (inr e) | no e ↦ inr (d, e) ]
]

-- ---- the words that the test reads
module _ (a b joined : ℕ) (scratch : List ℕ) where
  -- the two that merge have the joined set, and any other part its own word
  pub shared-joined : {q : ℕ} → (q ≡ a) ⊎ (q ≡ b) → shared_to a b joined scratch q ≡ joined
  shared-joined {q} (inl e) = rw (or_left (eqb q a) (eqb q b) (eq-eqb q a e)) refl
  shared-joined {q} (inr e) = rw (or_right (eqb q a) (eqb q b) (eq-eqb q b e)) refl

  pub shared-own : {q : ℕ} → (q ≡ a → ⊥) → (q ≡ b → ⊥) → shared_to a b joined scratch q ≡ arcs_to scratch q
  shared-own {q} d e = rw (ne_eqb q a d, ne_eqb q b e) refl

  -- ---- which of them are free
  -- where no unplaced part is in the joined set the two are, else neither is
  joined_free : (unplaced : ℕ) {met : Bool} → met ≡ any (λ q. member joined q && member unplaced q) (up_to set_bits) →
      {p : ℕ} → (p ≡ a) ⊎ (p ≡ b) → is_free (shared_in a b joined scratch) unplaced p ≡ not met
  joined_free unplaced e {p} k =
      ap not (ap (λ (w : ℕ). any (λ q. member w q && member unplaced q) (up_to set_bits)) (shared-joined k) ∙ sym e)

  own-free : (unplaced : ℕ) {p : ℕ} → (p ≡ a → ⊥) → (p ≡ b → ⊥) →
      is_free (shared_in a b joined scratch) unplaced p ≡ is_free (arcs_in scratch) unplaced p
  own-free unplaced c d =
      ap (λ (w : ℕ). not (any (λ q. member w q && member unplaced q) (up_to set_bits))) (shared-own c d)

  -- the free ones of the others, each by its own word, are all where the two aren't free; else the two join them
  module _ (unplaced less others free : ℕ) (no-a : Loses unplaced a less) (no-b : Loses less b others)
      (told : (p : ℕ) → member free p ≡ member others p && is_free (arcs_in scratch) unplaced p) {met : Bool}
      (e : met ≡ any (λ q. member joined q && member unplaced q) (up_to set_bits)) where
    neither-of : {p : ℕ} → (p ≡ a) ⊎ (p ≡ b) → member others p ≡ false
    neither-of {p} (inl k) = false-if (member others p) (λ m.
        both-ft (ap (member less) (sym k) ∙ left_in less b others no-b p m) (gone unplaced a less no-a))
    neither-of {p} (inr k) = ap (member others) k ∙ gone less b others no-b

    any-other : {p : ℕ} → (p ≡ a → ⊥) → (p ≡ b → ⊥) → member others p ≡ member unplaced p
    any-other {p} c d =
        others-stay less b others no-b p (λ o. d (sym o)) ∙ others-stay unplaced a less no-a p (λ o. c (sym o))

    -- of those that are neither
    told-other : {p : ℕ} → (p ≡ a → ⊥) → (p ≡ b → ⊥) →
        member free p ≡ member unplaced p && is_free (shared_in a b joined scratch) unplaced p
    told-other {p} c d = told p ∙ ap₂ (λ (s t : Bool). s && t) (any-other c d) (sym (own-free unplaced c d))

    pub free-without : met ≡ true → (p : ℕ) →
        member free p ≡ member unplaced p && is_free (shared_in a b joined scratch) unplaced p
    free-without t p = elim (one_of a b p) [
      | inl k ↦
          told p ∙ (ap (λ (s : Bool). s && is_free (arcs_in scratch) unplaced p) (neither-of k) ∙
          sym (ap (λ (s : Bool). member unplaced p && s) (joined_free unplaced e k ∙ ap not t) ∙
          and-false (member unplaced p)))
      | inr (c, d) ↦ told-other c d
    ]

    pub free-with : met ≡ false → (two all : ℕ) →
        ((p : ℕ) → member two p ≡ member unplaced p && not (member others p)) →
        ((p : ℕ) → member all p ≡ member free p || member two p) → (p : ℕ) →
        member all p ≡ member unplaced p && is_free (shared_in a b joined scratch) unplaced p
    free-with t two all more join p = join p ∙ elim (one_of a b p) [
      | inl k ↦
          ap₂ (λ (s t : Bool). s || t)
          (told p ∙ ap (λ (s : Bool). s && is_free (arcs_in scratch) unplaced p) (neither-of k))
          (more p ∙ ap (λ (s : Bool). member unplaced p && not s) (neither-of k)) ∙
          sym (ap (λ (s : Bool). member unplaced p && s) (joined_free unplaced e k ∙ ap not t))
      | inr (c, d) ↦
          ap₂ (λ (s t : Bool). s || t) (told-other c d)
          (more p ∙ (ap (λ (s : Bool). member unplaced p && not s) (any-other c d) ∙ never (member unplaced p))) ∙
          or-false (member unplaced p && is_free (shared_in a b joined scratch) unplaced p)
    ]
      where
        never : (u : Bool) → u && not u ≡ false
        never true = refl
        never false = refl

  -- so they have such arcs
  pub words-share : ArcsOfBoth a b (arcs_in scratch) joined → Shares a b (arcs_in scratch) (shared_in a b joined scratch)
  words-share h = record {
    to_both = λ x y e. ap (λ (w : ℕ). member w x) (shared-joined e) ∙ h x;
    to-other = λ x y d e. ap (λ (w : ℕ). member w x) (shared-own d e);
  }

module _ (a b n : ℕ) (l : a < b) (m : b < n) (arcs shared : Arcs) (own : NoOwn n arcs)
    (h : Shares a b arcs shared) where
  abbrev number : ℕ → ℕ
  number x = merged_number a b x

  abbrev merged : Arcs
  merged = merged_arcs a b arcs

  -- ---- part numbers
  -- the two go to a, and no other part does
  goes-to-a : (x : ℕ) → number x ≡ a → (x ≡ a) ⊎ (x ≡ b)
  goes-to-a x e = elim (goes a b x) [
    | stays u v ↦ inl (omega arith)
    | joins u v ↦ inr u
    | closes-up u v ↦ absurd (omega arith)
  ]

  a-goes : (x : ℕ) → (x ≡ a) ⊎ (x ≡ b) → number x ≡ a
  a-goes x (inl e) = merged-below a b x (omega arith) ∙ e
  a-goes x (inr e) = merged-higher a b x e

  -- a part that goes where another goes is that one, unless both go to a
  goes-apart : (x y : ℕ) → (y ≡ a → ⊥) → (y ≡ b → ⊥) → number x ≡ number y → x ≡ y
  goes-apart x y d e f = elim (goes a b x) [
    | stays u v ↦ elim (goes a b y) [
      | stays s t ↦ omega arith
      | joins s t ↦ absurd (e s)
      | closes-up s t ↦ absurd (omega arith)
    ]
    | joins u v ↦ elim (goes-to-a y (sym f ∙ v)) [ inl g ↦ absurd (d g) | inr g ↦ absurd (e g) ]
    | closes-up u v ↦ elim (goes a b y) [
      | stays s t ↦ absurd (omega arith)
      | joins s t ↦ absurd (e s)
      | closes-up s t ↦ omega arith
    ]
  ]

  goes-below : (x : ℕ) → x < n → number x < n - 1
  goes-below x i = elim (goes a b x) [ stays u v ↦ omega arith | joins u v ↦ omega arith | closes-up u v ↦ omega arith ]

  -- ---- an arc between merged parts
  is-merged : (x y : ℕ) → arcs x y ≡ true → (number x ≡ number y → ⊥) → merged (number x) (number y) ≡ true
  unfolding merged_arcs
  is-merged x y e d =
      and_both _ _ (ap not (ne_eqb (number x) (number y) d))
      (in-any (λ x. any (λ y. arcs x y) (becoming a b (number y))) (goes-becoming a b l (number x) x refl)
      (in-any (λ y. arcs x y) (goes-becoming a b l (number y) y refl) e))

  record Was (p q : ℕ) : Type 0 where
    x : ℕ
    y : ℕ
    from : number x ≡ p
    to : number y ≡ q
    is : arcs x y ≡ true
    apart : p ≡ q → ⊥
    below : p < n - 1 → x < n

  merged-was : (p q : ℕ) → merged p q ≡ true → Was p q
  unfolding merged_arcs
  merged-was p q e =
      let (x, i, f) = any-in (λ x. any (λ y. arcs x y) (becoming a b q)) (becoming a b p)
      (and_right (not (eqb p q)) (any (λ x. any (λ y. arcs x y) (becoming a b q)) (becoming a b p)) e) in
      let (y, j, g) = any-in (λ y. arcs x y) (becoming a b q) f in
      record {
        x = x;
        y = y;
        from = becoming-goes a b l p x i;
        to = becoming-goes a b l q y j;
        is = g;
        apart = eqb-false p q (not-true (eqb p q) (and_left (not (eqb p q)) _ e));
        below = λ k. omega (arith, becoming-small a b l (n - 1) (omega arith) p x k i);
      }

  -- ---- a shared arc is one between merged parts
  -- x is neither of the two and has an arc to one of them
  shared-both : (x y : ℕ) → (y ≡ a) ⊎ (y ≡ b) → shared x y ≡ true →
      (z : ℕ) × ((z ≡ a) ⊎ (z ≡ b)) × (arcs x z ≡ true) × ((x ≡ a) ⊎ (x ≡ b) → ⊥)
  shared-both x y k e =
      let t = sym (h.to_both x y k) ∙ e in
      let u = and_right (arcs x a || arcs x b) (not (eqb a x) && not (eqb b x)) t in
      let apart = neither (not-true (eqb a x) (and_left (not (eqb a x)) (not (eqb b x)) u))
      (not-true (eqb b x) (and_right (not (eqb a x)) (not (eqb b x)) u)) in
      elim (or_cases (arcs x a) (arcs x b) (and_left (arcs x a || arcs x b) _ t)) [
        | inl f ↦ (a, inl refl, f, apart)
        | inr f ↦ (b, inr refl, f, apart)
      ]
    where
      neither : eqb a x ≡ false → eqb b x ≡ false → (x ≡ a) ⊎ (x ≡ b) → ⊥
      neither c d (inl f) = eqb-false a x c (sym f)
      neither c d (inr f) = eqb-false b x d (sym f)

  shared-merged : (x y : ℕ) → x < n → shared x y ≡ true → merged (number x) (number y) ≡ true
  shared-merged x y i e = elim (one_of a b y) [
    | inl k ↦
        let (z, o, f, apart) = shared-both x y k e in
        let same : number z ≡ number y = a-goes z o ∙ sym (a-goes y k) in
        subst (λ (q : ℕ). merged (number x) q ≡ true) same
        (is-merged x z f (λ d. apart (goes-to-a x (d ∙ a-goes z o))))
    | inr (c, d) ↦
        let f = sym (h.to-other x y c d) ∙ e in
        is-merged x y f (λ k. both-ft (ap (arcs x) (goes-apart x y c d k) ∙ f) (own x i))
  ]

  -- ---- an arc between merged parts is a shared one, to each of the parts that became the second
  merged-shared : (x y : ℕ) → arcs x y ≡ true → (number x ≡ number y → ⊥) → (z : ℕ) → number z ≡ number y →
      shared x z ≡ true
  merged-shared x y e d z s = elim (one_of a b y) [
    | inl k ↦
        h.to_both x z (goes-to-a z (s ∙ a-goes y k)) ∙
        and_both _ _ (either k) (and_both _ _ (other k a (inl refl)) (other k b (inr refl)))
    | inr (c, f) ↦
        let o = goes-apart z y c f s in
        ap (shared x) o ∙ (h.to-other x y c f ∙ e)
  ]
    where
      either : (y ≡ a) ⊎ (y ≡ b) → arcs x a || arcs x b ≡ true
      either (inl k) = or_left (arcs x a) (arcs x b) (ap (arcs x) (sym k) ∙ e)
      either (inr k) = or_right (arcs x a) (arcs x b) (ap (arcs x) (sym k) ∙ e)

      other : (y ≡ a) ⊎ (y ≡ b) → (c : ℕ) → (c ≡ a) ⊎ (c ≡ b) → not (eqb c x) ≡ true
      other k c o = ap not (ne_eqb c x (λ f. d (ap number (sym f) ∙ (a-goes c o ∙ sym (a-goes y k)))))

  -- ---- ranks
  to-merged : (rank : ℕ → ℕ) → Rises shared rank (up_to n) → (rank : ℕ → ℕ) × Rises merged rank (up_to (n - 1))
  to-merged rank rises = elim (dec_le (rank a) (rank b)) [
    | yes k ↦ (λ p. rank (lower a p), ranked a (inl refl) (omega arith) k)
    | no k ↦ (λ p. rank (lower b p), ranked b (inr refl) (omega arith) (omega arith))
  ]
    where
      -- the part of the lower rank that became a merged one
      lower : ℕ → ℕ → ℕ
      lower z p = cond (eqb p a) z (came_from b p)

      went : (z : ℕ) → (z ≡ a) ⊎ (z ≡ b) → (p : ℕ) → number (lower z p) ≡ p
      went z o p = go (eqb p a) refl
        where
          go : (t : Bool) → eqb p a ≡ t → number (cond t z (came_from b p)) ≡ p
          go true e = a-goes z o ∙ sym (eqb-true p a e)
          go false e = becoming-goes a b l p (came_from b p) (came-becomes a b l p)

      small : (z : ℕ) → (z ≡ a) ⊎ (z ≡ b) → (p : ℕ) → p < n - 1 → lower z p < n
      small z o p i = omega (
        arith,
        becoming-small a b l (n - 1) (omega arith) p (lower z p) i
            (goes-becoming a b l p (lower z p) (went z o p)),
      )

      least : (z : ℕ) → rank z ≤ rank a → rank z ≤ rank b → (x : ℕ) → rank (lower z (number x)) ≤ rank x
      least z s t x = go (eqb (number x) a) refl
        where
          go : (c : Bool) → eqb (number x) a ≡ c → rank (cond c z (came_from b (number x))) ≤ rank x
          go true e = elim (goes-to-a x (eqb-true (number x) a e)) [
            | inl f ↦ let g = ap rank f in omega arith
            | inr f ↦ let g = ap rank f in omega arith
          ]
          go false e = elim (becomes a b l (number x) x (goes-becoming a b l (number x) x refl)) [
            | inl f ↦ let g = ap rank f in omega arith
            | inr f ↦ absurd (eqb-false (number x) a e f.0)
          ]

      ranked : (z : ℕ) → (z ≡ a) ⊎ (z ≡ b) → rank z ≤ rank a → rank z ≤ rank b →
          Rises merged (λ p. rank (lower z p)) (up_to (n - 1))
      ranked z o s t p q i j e =
          let w = merged-was p q e in
          let u = up_to-in (n - 1) p i in
          let v = up_to-in (n - 1) q j in
          let up = rises w.x (lower z q) (in-up_to n w.x (w.below u)) (in-up_to n (lower z q) (small z o q v))
          (merged-shared w.x w.y w.is (λ d. w.apart (sym w.from ∙ (d ∙ w.to))) (lower z q)
          (went z o q ∙ sym w.to)) in
          let low = subst (λ (r : ℕ). rank (lower z r) ≤ rank w.x) w.from (least z s t w.x) in
          omega arith

  -- whether there is a circle is the same question
  pub shared-circle : no_circle shared n ≡ no_circle merged (n - 1)
  shared-circle = bool-ext (no_circle shared n) (no_circle merged (n - 1)) forth back
    where
      forth : no_circle shared n ≡ true → no_circle merged (n - 1) ≡ true
      forth e =
          let (rank, rises) = placeable-ranked ((no-circle-exactly shared n).0 e) in
          let (lower, rises-too) = to-merged rank rises in
          (no-circle-exactly merged (n - 1)).1 (ranked-placeable merged lower (up_to (n - 1)) rises-too)

      back : no_circle merged (n - 1) ≡ true → no_circle shared n ≡ true
      back e =
          let (rank, rises) = placeable-ranked ((no-circle-exactly merged (n - 1)).0 e) in
          (no-circle-exactly shared n).1 (ranked-placeable shared (λ x. rank (number x)) (up_to n) (λ x y i j f.
          rises (number x) (number y) (in-up_to (n - 1) (number x) (goes-below x (up_to-in n x i)))
          (in-up_to (n - 1) (number y) (goes-below y (up_to-in n y j))) (shared-merged x y (up_to-in n x i) f)))
