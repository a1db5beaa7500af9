-- The sets of arcs of a stretch of atoms. They grow by a stretch at a time: first in the atoms that the arcs go to,
-- which starts from two atoms, then in those they come from.
use Prim.Native.Nat.{ℕ, ◌≤◌, ◌<◌}
use mathlib.Core.Path.{◌≡◌, refl, sym, ◌∙◌, ap}
use mathlib.Core.Bool.{Bool, true, false, not, ◌&&◌, ◌||◌}
use mathlib.Core.List.{List, [], ◌∷◌, ◌++◌}
use native.Mathlib.Omega.{arith}
use lib.ListN.{length, get_or, set, replicate}
use lib.Dec.{eqb}
use borrow.Author.Tests.{eqb-true, eqb-false, eq-eqb, ne_eqb, not-true}
use Rattle.words.specs.Lists.{any}
use Rattle.task.specs.Task.{Atom, Pair}
use Rattle.task.specs.Table.{atom_in}
use Rattle.words.proofs.Ranges.{or-false, any_append}
use Rattle.words.proofs.Words.{and-false}
use Rattle.words.proofs.Lists.{and_left, and_right, and_both, both-ft, bool-ext, false-if, In, any-in}
use Rattle.arcs.specs.Order.{gives_arc, role_before, arc}
use Rattle.arcs.specs.Stretches.{AreArcs, Joins, stretch_in, arcs_between}
use Rattle.words.specs.Sets.{member}
use Rattle.arcs.proofs.Stretches.{stretch-in, rows_none, rows_append}
use Rattle.arcs.proofs.Joining.{joins-none, joins-one, joins-more, joins-same, all-joined}

-- role r comes before that of no atom of a stretch
abbrev pub NoneAfter : List ℕ → ℕ → ℕ → ℕ → Type 0
NoneAfter w r from to = (k : ℕ) → from ≤ k → k < to → role_before r (atom_in w k).role ≡ false

module _ (pairs : List Pair) where
  -- ---- arcs between lists of atoms
  between_none : (bs : List Atom) (p q : ℕ) → arcs_between pairs [] bs p q ≡ false
  unfolding arcs_between any
  between_none bs p q = and-false (not (eqb p q))

  between-right : (a : Atom) (bs cs : List Atom) (p q : ℕ) → arcs_between pairs (a ∷ []) (bs ++ cs) p q ≡
      arcs_between pairs (a ∷ []) bs p q || arcs_between pairs (a ∷ []) cs p q
  unfolding arcs_between any
  between-right a bs cs p q =
      ap (λ (s : Bool). not (eqb p q) && ((eqb a.part p && s) || false)) (any_append test bs cs)
      ∙ go (not (eqb p q)) (eqb a.part p) (any test bs) (any test cs)
    where
      test : Atom → Bool
      test b = eqb b.part q && gives_arc pairs a b

      go : (n e u v : Bool) →
          n && ((e && (u || v)) || false) ≡ (n && ((e && u) || false)) || (n && ((e && v) || false))
      go false e u v = refl
      go true false u v = refl
      go true true true v = refl
      go true true false v = refl

  between_left : (xs ys bs : List Atom) (p q : ℕ) → arcs_between pairs (xs ++ ys) bs p q ≡
      arcs_between pairs xs bs p q || arcs_between pairs ys bs p q
  unfolding arcs_between
  between_left xs ys bs p q =
      ap (λ (s : Bool). not (eqb p q) && s) (any_append test xs ys) ∙ go (not (eqb p q)) (any test xs) (any test ys)
    where
      test : Atom → Bool
      test a = eqb a.part p && any (λ b. eqb b.part q && gives_arc pairs a b) bs

      go : (n u v : Bool) → n && (u || v) ≡ (n && u) || (n && v)
      go false u v = refl
      go true u v = refl

  -- ---- atoms that no arc joins
  pub no-arc : (a b : Atom) → role_before a.role b.role ≡ false → gives_arc pairs a b ≡ false
  unfolding gives_arc
  no-arc a b e = rw e (and-false (eqb a.pred b.pred))

  none-join : (a : Atom) (bs : List Atom) → ((b : Atom) → In b bs → gives_arc pairs a b ≡ false) → (sets : List ℕ) →
      Joins (arcs_between pairs (a ∷ []) bs) sets sets
  unfolding arcs_between any
  none-join a bs h sets =
      joins-none (arcs_between pairs (a ∷ []) bs) sets
      (λ p q. false-if (arcs_between pairs (a ∷ []) bs p q) (λ e.
      let test : Atom → Bool = λ b. eqb b.part q && gives_arc pairs a b in
      let r = and_right (not (eqb p q)) _ e in
      let s = and_right (eqb a.part p) (any test bs) (sym (or-false (eqb a.part p && any test bs)) ∙ r) in
      let (b, m, y) = any-in test bs s in
      both-ft (and_right (eqb b.part q) _ y) (h b m)))

  pub none_after : (w : List ℕ) (a : Atom) (from to : ℕ) → NoneAfter w a.role from to → (sets : List ℕ) →
      Joins (arcs_between pairs (a ∷ []) (stretch_in w from to)) sets sets
  none_after w a from to h sets = none-join a (stretch_in w from to) (λ b i.
      let (k, l, m, e) = stretch-in w from to b i in
      no-arc a b (ap (λ (b : Atom). role_before a.role b.role) e ∙ h k l m)) sets

  -- the arcs of all atoms have joined empty sets
  pub arcs-joined : (atoms : List Atom) (n : ℕ) (sets : List ℕ) →
      Joins (arcs_between pairs atoms atoms) (replicate n 0) sets → AreArcs pairs atoms sets
  unfolding arcs_between arc
  arcs-joined atoms n sets h = all-joined (arc pairs atoms) n sets h

  -- ---- two atoms
  module _ (a b : Atom) where
    -- what an arc between two atoms says
    arc-says : (p q : ℕ) → arcs_between pairs (a ∷ []) (b ∷ []) p q ≡ true →
        (p ≡ q → ⊥) × (a.part ≡ p) × (b.part ≡ q) × (gives_arc pairs a b ≡ true)
    unfolding arcs_between any
    arc-says p q h =
        let n = and_left (not (eqb p q)) _ h in
        let r = one (and_right (not (eqb p q)) _ h) in
        let s = one (and_right (eqb a.part p) _ r) in (
          eqb-false p q (not-true (eqb p q) n),
          eqb-true a.part p (and_left (eqb a.part p) _ r),
          eqb-true b.part q (and_left (eqb b.part q) _ s),
          and_right (eqb b.part q) _ s,
        )
      where
        one : {s : Bool} → s || false ≡ true → s ≡ true
        one {s} h = sym (or-false s) ∙ h

    -- atoms of one part
    pub one-part-joins : a.part ≡ b.part → (sets : List ℕ) → Joins (arcs_between pairs (a ∷ []) (b ∷ [])) sets sets
    one-part-joins z sets =
        joins-none (arcs_between pairs (a ∷ []) (b ∷ [])) sets
        (λ p q. false-if (arcs_between pairs (a ∷ []) (b ∷ []) p q) (λ e.
        let (n, x, y, g) = arc-says p q e in n (sym x ∙ (z ∙ y))))

    -- atoms of which is told that they give no arc
    pub no-arc-joins : {told : Bool} → told ≡ gives_arc pairs a b → told ≡ false → (sets : List ℕ) →
        Joins (arcs_between pairs (a ∷ []) (b ∷ [])) sets sets
    no-arc-joins e f sets =
        joins-none (arcs_between pairs (a ∷ []) (b ∷ [])) sets
        (λ p q. false-if (arcs_between pairs (a ∷ []) (b ∷ []) p q) (λ k.
        let (n, x, y, g) = arc-says p q k in both-ft (e ∙ g) f))

    -- atoms of two parts of which is told that they give one
    pub arc-joins : {told : Bool} → told ≡ gives_arc pairs a b → told ≡ true → (sets : List ℕ) (r from to : ℕ) →
        from ≡ a.part → to ≡ b.part → to < length sets → (from ≡ to → ⊥) →
        ((p : ℕ) → member r p ≡ member (get_or sets to 0) p || eqb from p) →
        Joins (arcs_between pairs (a ∷ []) (b ∷ [])) sets (set sets to r)
    unfolding arcs_between any
    arc-joins e g sets r from to f t l n h =
        joins-same (λ p q. eqb from p && eqb to q) (arcs_between pairs (a ∷ []) (b ∷ [])) sets (set sets to r)
        (joins-one sets from to r l h)
        (λ p q. bool-ext (arcs_between pairs (a ∷ []) (b ∷ []) p q) (eqb from p && eqb to q) (says p q) (said p q))
      where
        says : (p q : ℕ) → arcs_between pairs (a ∷ []) (b ∷ []) p q ≡ true → eqb from p && eqb to q ≡ true
        says p q k =
            let (_, x, y, _) = arc-says p q k in
            and_both _ _ (eq-eqb from p (f ∙ x)) (eq-eqb to q (t ∙ y))

        said : (p q : ℕ) → eqb from p && eqb to q ≡ true → arcs_between pairs (a ∷ []) (b ∷ []) p q ≡ true
        said p q k =
            let x = eqb-true from p (and_left (eqb from p) _ k) in
            let y = eqb-true to q (and_right (eqb from p) _ k) in
            rw (
              ne_eqb p q (λ z. n (x ∙ (z ∙ sym y))),
              eq-eqb a.part p (sym f ∙ x),
              eq-eqb b.part q (sym t ∙ y),
              ← e,
              g,
            )
            refl

  -- ---- a stretch, and one behind it
  module _ (w : List ℕ) (from i to : ℕ) (l : from ≤ i) (m : i ≤ to) where
    pub to-more : (a : Atom) (x y z : List ℕ) → Joins (arcs_between pairs (a ∷ []) (stretch_in w from i)) x y →
        Joins (arcs_between pairs (a ∷ []) (stretch_in w i to)) y z →
        Joins (arcs_between pairs (a ∷ []) (stretch_in w from to)) x z
    to-more a x y z h k =
        joins-more (arcs_between pairs (a ∷ []) (stretch_in w from i)) (arcs_between pairs (a ∷ []) (stretch_in w i to))
        (arcs_between pairs (a ∷ []) (stretch_in w from to)) x y z h k
        (λ p q. rw (rows_append (atom_in w) from i to l m)
        (between-right a (stretch_in w from i) (stretch_in w i to) p q))

    pub from_more : (bs : List Atom) (x y z : List ℕ) → Joins (arcs_between pairs (stretch_in w from i) bs) x y →
        Joins (arcs_between pairs (stretch_in w i to) bs) y z → Joins (arcs_between pairs (stretch_in w from to) bs) x z
    from_more bs x y z h k =
        joins-more (arcs_between pairs (stretch_in w from i) bs) (arcs_between pairs (stretch_in w i to) bs)
        (arcs_between pairs (stretch_in w from to) bs) x y z h k
        (λ p q. rw (rows_append (atom_in w) from i to l m)
        (between_left (stretch_in w from i) (stretch_in w i to) bs p q))

  pub from-none : (w : List ℕ) (from : ℕ) (bs : List Atom) (sets : List ℕ) →
      Joins (arcs_between pairs (stretch_in w from from) bs) sets sets
  from-none w from bs sets =
      joins-none (arcs_between pairs (stretch_in w from from) bs) sets
      (λ p q. rw (rows_none (atom_in w) from) (between_none bs p q))

  -- an atom's arcs to a stretch are those to what lies within, where its role has none to what lies before and behind
  pub within-reach : (w : List ℕ) (a : Atom) (from first end to : ℕ) → from ≤ first → first ≤ end → end ≤ to →
      NoneAfter w a.role from first → NoneAfter w a.role end to → (x y : List ℕ) →
      Joins (arcs_between pairs (a ∷ []) (stretch_in w first end)) x y →
      Joins (arcs_between pairs (a ∷ []) (stretch_in w from to)) x y
  within-reach w a from first end to l m n h k x y j =
      to-more w from end to (omega arith) n a x y y
      (to-more w from first end l m a x x y (none_after w a from first h x) j) (none_after w a end to k y)
