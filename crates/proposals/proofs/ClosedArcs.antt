-- The words of arcs while parts a < b merge. Part a's takes in part b's first, without the two. Then each part takes
-- the word of where it was, in which part b has become a and those behind it have closed up. Where it was is no lower,
-- so what is read in a turn was never written in one before; in the end the words are the arcs of the merged parts.
use Prim.Native.Nat.{ℕ, suc, ◌+◌, ◌-◌, ◌≤◌, ◌<◌}
use mathlib.Core.Path.{◌≡◌, refl, sym, ◌∙◌, ap, ap₂, subst}
use mathlib.Core.Bool.{Bool, true, false, cond, not, ◌&&◌, ◌||◌, and-true, and-false, and_assoc}
use mathlib.Core.List.{List, [], ◌∷◌}
use native.Mathlib.Omega.{arith}
use native.Mathlib.Decide.{dec_lt, ℕ_discrete}
use lib.ListN.{length, set}
use lib.Dec.{eqb, ltb}
use borrow.Author.Tests.{eqb-true, eqb-false, eq-eqb, ne_eqb, ltb-false}
use Rattle.words.specs.Lists.{any}
use Rattle.words.specs.Sets.{Loses, member}
use Rattle.words.proofs.Lists.{any_same, no_ft, or_left, or_right}
use Rattle.words.proofs.Ranges.{or-false}
use Rattle.task.specs.Limits.{most_atoms}
use Rattle.proposals.specs.Circle.{Arcs, came_from, becoming, merged_arcs}
use Rattle.proposals.specs.Outcome.{scratch_words}
use Rattle.proposals.specs.Scratch.{ArcsOfBoth, KeepsBehind, KeepsParameters, MergesArcs, NoOwn, arcs_in, arcs_to}
use Rattle.proposals.proofs.CameFrom.{came-a, came-from-a, came-behind, came-below, came-other}
use Rattle.proposals.proofs.CameFrom.{becoming-both, becoming-other}
use Rattle.proposals.proofs.MergedArcs.{merged-self}
use Rattle.proposals.proofs.Scratches.{keeps-refl, keeps-trans, keeps-room, arcs-set-keeps, arcs-set-here}
use Rattle.proposals.proofs.Scratches.{arcs-set-other, arcs-set-parameters}

-- ---- the word of both, by the sets it is made of
pub arcs-of-both : (a b : ℕ) (lent : List ℕ) {to-a to-b : ℕ} (both less joined : ℕ) → to-a ≡ arcs_to lent a →
    to-b ≡ arcs_to lent b → ((p : ℕ) → member both p ≡ member to-a p || member to-b p) → Loses both a less →
    Loses less b joined → ArcsOfBoth a b (arcs_in lent) joined
arcs-of-both a b lent both less joined e f union no-a no-b p =
    no-b p
    ∙ (ap (λ (t : Bool). t && not (eqb b p))
    (no-a p ∙ ap (λ (t : Bool). t && not (eqb a p)) (union p ∙ ap₂ (λ (v w : ℕ). member v p || member w p) e f))
    ∙ and_assoc (arcs_in lent p a || arcs_in lent p b) (not (eqb a p)) (not (eqb b p)))

-- ---- a set of parts after the merge
module _ (a b parts joint : ℕ) where
  -- the parts, with a among them where b is
  abbrev pub Joins : Type 0
  Joins = (k : ℕ) → member joint k ≡ member parts k || (eqb a k && member parts b)

  pub joins-with : {more : ℕ} → joint ≡ more → member parts b ≡ true →
      ((k : ℕ) → member more k ≡ member parts k || eqb a k) → Joins
  joins-with f e h k =
      ap (λ (w : ℕ). member w k) f
      ∙ (h k ∙ ap (λ (t : Bool). member parts k || t) (sym (ap (λ (t : Bool). eqb a k && t) e ∙ and-true (eqb a k))))

  pub joins-none : joint ≡ parts → member parts b ≡ false → Joins
  joins-none f e k =
      ap (λ (w : ℕ). member w k) f
      ∙ sym (ap (λ (t : Bool). member parts k || t) (ap (λ (t : Bool). eqb a k && t) e ∙ and-false (eqb a k))
      ∙ or-false (member parts k))

  -- closed up, they have a part where one was that becomes it
  pub joint-closed : (merged : ℕ) → a < b → Joins →
      ((p : ℕ) → member merged p ≡ cond (ltb p b) (member joint p) (member joint (suc p))) → (p : ℕ) →
      member merged p ≡ any (member parts) (becoming a b p)
  unfolding becoming any
  joint-closed merged l h closed p = closed p ∙ go (eqb p a) refl (ltb p b) refl
    where
      go : (s : Bool) → eqb p a ≡ s → (t : Bool) → ltb p b ≡ t →
          cond t (member joint p) (member joint (suc p)) ≡
          any (member parts) (cond s (a ∷ b ∷ []) (cond t p (suc p) ∷ []))
      go true e true f =
          let z = eqb-true p a e in
          h p ∙ (ap (λ (t : Bool). member parts p || (t && member parts b)) (eq-eqb a p (sym z))
          ∙ ap₂ (λ (s t : Bool). s || t) (ap (member parts) z) (sym (or-false (member parts b))))
      go true e false f = let z = eqb-true p a e in let y = ltb-false p b f in absurd (omega arith)
      go false e true f =
          h p ∙ ap (λ (t : Bool). member parts p || (t && member parts b)) (ne_eqb a p (λ z. eqb-false p a e (sym z)))
      go false e false f =
          let y = ltb-false p b f in
          h (suc p)
          ∙ ap (λ (t : Bool). member parts (suc p) || (t && member parts b)) (ne_eqb a (suc p) (λ z. omega arith))

-- ---- the arcs of merged parts
module _ (a b : ℕ) (arcs : Arcs) where
  -- to a from another part: where it was it has an arc to a or to b
  merged-into : (p : ℕ) → (p ≡ a → ⊥) → merged_arcs a b arcs p a ≡ arcs (came_from b p) a || arcs (came_from b p) b
  unfolding merged_arcs
  merged-into p d =
      rw (ne_eqb p a d, eq-eqb a a refl)
      (or-false _ ∙ ap (λ (t : Bool). arcs (came_from b p) a || t) (or-false _))

  -- to a part that isn't a: some part that becomes p has an arc to where it was
  merged-to : (p q : ℕ) → (p ≡ q → ⊥) → (q ≡ a → ⊥) →
      merged_arcs a b arcs p q ≡ any (λ x. arcs x (came_from b q)) (becoming a b p)
  unfolding merged_arcs
  merged-to p q d e =
      ap (λ (t : Bool). not t && any (λ x. any (arcs x) (becoming a b q)) (becoming a b p)) (ne_eqb p q d)
      ∙ any_same (λ x. any (arcs x) (becoming a b q)) (λ x. arcs x (came_from b q)) (becoming a b p) (λ x i.
      ap (any (arcs x)) (becoming-other a b q e) ∙ or-false (arcs x (came_from b q)))

-- ---- the turns
-- before part q's turn: the words before it are merged ones, those from it on stand as joined
pub record Closing (a b : ℕ) (joined : List ℕ) (q : ℕ) (scratch : List ℕ) : Type 0 where
  pub keeps : KeepsBehind joined scratch
  pub parameters : KeepsParameters joined scratch
  pub closed : (y : ℕ) → y < q → (p : ℕ) →
      member (arcs_to scratch y) p ≡ any (member (arcs_to joined (came_from b y))) (becoming a b p)
  pub rest : (y : ℕ) → q ≤ y → arcs_to scratch y ≡ arcs_to joined y

pub closing-start : (a b : ℕ) (joined : List ℕ) → Closing a b joined 0 joined
closing-start a b joined = record {
  keeps = keeps-refl joined;
  parameters = λ q l. refl;
  closed = λ y l. absurd (omega arith);
  rest = λ y l. refl;
}

pub closing-turn : {a b : ℕ} {joined : List ℕ} {q : ℕ} {scratch : List ℕ} → Closing a b joined q scratch →
    scratch_words ≤ length joined → q < most_atoms → {was w : ℕ} → was ≡ came_from b q → w ≡ arcs_to scratch was →
    (merged : ℕ) → ((p : ℕ) → member merged p ≡ any (member w) (becoming a b p)) →
    Closing a b joined (q + 1) (set scratch q merged)
closing-turn {a} {b} {joined} {q} {scratch} h room l {was} {w} e f merged m = record {
  keeps = keeps-trans h.keeps (arcs-set-keeps scratch q l merged);
  parameters = λ p i. arcs-set-parameters scratch q l merged p i ∙ h.parameters p i;
  closed = closed;
  rest = λ y i. arcs-set-other scratch q l merged y (λ o. let z = o in omega arith) ∙ h.rest y (omega arith);
}
  where
    after : List ℕ
    after = set scratch q merged

    -- what was read was never written
    read : w ≡ arcs_to joined (came_from b q)
    read = f ∙ (ap (arcs_to scratch) e ∙ h.rest (came_from b q) (came-behind b q))

    here : (p : ℕ) → member (arcs_to after q) p ≡ any (member (arcs_to joined (came_from b q))) (becoming a b p)
    here p =
        ap (λ (v : ℕ). member v p) (arcs-set-here scratch q l merged (keeps-room h.keeps room))
        ∙ (m p ∙ ap (λ (v : ℕ). any (member v) (becoming a b p)) read)

    closed : (y : ℕ) → y < q + 1 → (p : ℕ) →
        member (arcs_to after y) p ≡ any (member (arcs_to joined (came_from b y))) (becoming a b p)
    closed y i p = elim (dec_lt y q) [
      | yes k ↦
          ap (λ (v : ℕ). member v p) (arcs-set-other scratch q l merged y (λ o. let z = o in omega arith))
          ∙ h.closed y k p
      | no k ↦
          let o : q ≡ y = omega arith in
          subst (λ (y : ℕ).
          member (arcs_to after y) p ≡ any (member (arcs_to joined (came_from b y))) (becoming a b p)) o (here p)
    ]

-- ---- after the last turn
module _ (a b : ℕ) (l : a < b) (lent : List ℕ) (joint : ℕ) (both : ArcsOfBoth a b (arcs_in lent) joint) where
  abbrev arcs : Arcs
  arcs = arcs_in lent

  -- the word of both has neither of the two, and any other part with an arc to one
  joint-own : (p : ℕ) → eqb a p || eqb b p ≡ true → member joint p ≡ false
  joint-own p o = both p ∙ neither (arcs p a || arcs p b) (eqb a p) (eqb b p) o
    where
      neither : (x s t : Bool) → s || t ≡ true → x && (not s && not t) ≡ false
      neither x true t e = and-false x
      neither x false true e = and-false x
      neither x false false e = absurd (no_ft e)

  joint-other : (p : ℕ) → (p ≡ a → ⊥) → (p ≡ b → ⊥) → member joint p ≡ arcs p a || arcs p b
  joint-other p d e =
      both p
      ∙ (ap₂ (λ (s t : Bool). (arcs p a || arcs p b) && (not s && not t)) (ne_eqb a p (λ o. d (sym o)))
      (ne_eqb b p (λ o. e (sym o)))
      ∙ and-true (arcs p a || arcs p b))

  -- so it tells the arcs to part a
  joint-merged : (p : ℕ) → any (member joint) (becoming a b p) ≡ merged_arcs a b arcs p a
  unfolding any
  joint-merged p = elim (ℕ_discrete p a) [
    | yes e ↦
        rw (e, becoming-both a b, merged-self a b arcs a)
        (ap₂ (λ (s t : Bool). s || (t || false)) (joint-own a (or_left (eqb a a) (eqb b a) (eq-eqb a a refl)))
        (joint-own b (or_right (eqb a b) (eqb b b) (eq-eqb b b refl))))
    | no e ↦
        rw (becoming-other a b p e, merged-into a b arcs p e)
        (or-false (member joint (came_from b p))
        ∙ joint-other (came_from b p) (λ o. e (came-from-a a b l p o)) (came-other b p))
  ]

  -- and the word of where another part was tells the arcs to that
  other-merged : (n : ℕ) → NoOwn n arcs → (p q : ℕ) → q < n - 1 → (q ≡ a → ⊥) →
      any (λ x. arcs x (came_from b q)) (becoming a b p) ≡ merged_arcs a b arcs p q
  unfolding any
  other-merged n own p q i d = elim (ℕ_discrete p q) [
    | yes e ↦
        rw (e, becoming-other a b q d, merged-self a b arcs q)
        (or-false (arcs (came_from b q) (came_from b q)) ∙ own (came_from b q) (came-below b n q i))
    | no e ↦ sym (merged-to a b arcs p q e d)
  ]

  pub closing_end : {n : ℕ} → b < n → n ≤ most_atoms → scratch_words ≤ length lent → {q : ℕ} {scratch : List ℕ} →
      Closing a b (set lent a joint) q scratch → n ≤ q + 1 → MergesArcs a b n lent scratch
  closing_end {n} m few room {q} {scratch} h end = record {
    keeps = keeps-trans (arcs-set-keeps lent a below joint) h.keeps;
    parameters = λ p i. h.parameters p i ∙ arcs-set-parameters lent a below joint p i;
    arcs = λ own p q i j. h.closed q (omega arith) p ∙ elim (ℕ_discrete q a) [
      | yes e ↦ rw (e, came-a a b l, arcs-set-here lent a below joint room) (joint-merged p)
      | no e ↦
          rw (arcs-set-other lent a below joint (came_from b q) (λ o. e (came-from-a a b l q o)))
          (other-merged n own p q j e)
    ];
  }
    where
      below : a < most_atoms
      below = omega arith
