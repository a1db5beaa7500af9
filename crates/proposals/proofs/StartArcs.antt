-- The arcs that the atoms of a stretch give, predicate by predicate: atoms of different predicates give none, so each
-- set of atoms with one predicate has its arcs among itself.
use Prim.Native.Nat.{ℕ, ◌+◌, ◌-◌, ◌≤◌, ◌<◌}
use mathlib.Core.Path.{◌≡◌, refl, sym, ◌∙◌, ap, ap₂, subst}
use mathlib.Core.Bool.{Bool, true, false, not, ◌&&◌}
use mathlib.Core.List.{List}
use native.Mathlib.Omega.{arith}
use lib.ListN.{length, set}
use lib.Dec.{eqb, ltb}
use borrow.Author.Tests.{eqb-true, eqb-false, eq-eqb, lt-ltb, ltb-true, not-false, not-true}
use Rattle.words.specs.Sets.{Loses, Lowest, SetBelow, member, members, set_bits}
use Rattle.words.proofs.Lists.{and_both, and_left, and_right, both-ft, false-if}
use Rattle.words.proofs.SetLoops.{left_in, others-stay, within-fewer}
use Rattle.task.specs.Task.{Atom, Pair}
use Rattle.arcs.specs.Order.{gives_arc, hold_pair, role_before}
use Rattle.arcs.specs.Stretches.{IsSchemaAtom, IsStretch}
use Rattle.arcs.proofs.Arcs.{gives-arc}
use Rattle.arcs.proofs.Stretches.{stretch-atom}
use Rattle.proposals.specs.Outcome.{scratch_words}
use Rattle.proposals.specs.Scratch.{KeepsBehind, arcs_in, arcs_to}
use Rattle.proposals.proofs.Scratches.{arcs-set-here, arcs-set-keeps, arcs-set-other}
use Rattle.proposals.proofs.Scratches.{keeps-refl, keeps-room, keeps-trans}

-- ---- an atom of a stretch, by its number
pub atom-of : {w : List ℕ} {from to : ℕ} → IsStretch w from to → (p : ℕ) → p < to - from → IsSchemaAtom w (from + p)
atom-of {w} {from} s p l = stretch-atom s (from + p) (omega arith)

-- ---- one predicate
-- of two atoms with one predicate the roles and the pairs decide
gives-alike : (pairs : List Pair) (a b : Atom) → a.pred ≡ b.pred →
    gives_arc pairs a b ≡ role_before a.role b.role && not (hold_pair pairs a.args b.args)
unfolding gives_arc
gives-alike pairs a b e = rw (eq-eqb a.pred b.pred e) refl

-- atom a may be in a set of atoms with the predicate of b; `had` says whether its role comes before that of b
pub arc-among : (pairs : List Pair) (a b : Atom) (is_in known had : Bool) → (is_in ≡ true → known ≡ true) →
    (is_in ≡ true → a.pred ≡ b.pred) → had ≡ known && role_before a.role b.role →
    (is_in && had) && not (hold_pair pairs a.args b.args) ≡ is_in && gives_arc pairs a b
arc-among pairs a b false known had inside same e = refl
arc-among pairs a b true known had inside same e =
    ap (λ (t : Bool). t && not (hold_pair pairs a.args b.args))
    (e ∙ ap (λ (t : Bool). t && role_before a.role b.role) (inside refl)) ∙
    sym (gives-alike pairs a b (same refl))

-- the words of a set of atoms are put but for its rest, and nothing else has changed
pub record AmongPut (Is : ℕ → ℕ → Type 0) (alike rest : ℕ) (lent scratch : List ℕ) : Type 0 where
  pub left : (q : ℕ) → member rest q ≡ true → member alike q ≡ true
  pub keeps : KeepsBehind lent scratch
  pub others : (q : ℕ) → member alike q ≡ false → arcs_to scratch q ≡ arcs_to lent q
  pub words : (q : ℕ) → member alike q ≡ true → member rest q ≡ false → Is q (arcs_to scratch q)

pub among_none : (Is : ℕ → ℕ → Type 0) (alike : ℕ) (lent : List ℕ) → AmongPut Is alike alike lent lent
among_none Is alike lent = record {
  left = λ q m. m;
  keeps = keeps-refl lent;
  others = λ q m. refl;
  words = λ q m out. absurd (both-ft m out);
}

-- one more
pub among-more : {Is : ℕ → ℕ → Type 0} {alike rest q : ℕ} {lent scratch : List ℕ} → scratch_words ≤ length lent →
    AmongPut Is alike rest lent scratch → Lowest rest q → (less : ℕ) → Loses rest q less → (word : ℕ) → Is q word →
    AmongPut Is alike less lent (set scratch q word)
among-more {Is} {alike} {rest} {q} {lent} {scratch} room h l less loses word is = record {
  left = λ p m. h.left p (left_in rest q less loses p m);
  keeps = keeps-trans h.keeps (arcs-set-keeps scratch q l.below word);
  others = λ p out. stays p (λ e. both-ft (h.left q l.is-in) (ap (member alike) (sym e) ∙ out)) ∙ h.others p out;
  words = λ p m out. go p m out (eqb q p) refl;
}
  where
    stays : (p : ℕ) → (p ≡ q → ⊥) → arcs_to (set scratch q word) p ≡ arcs_to scratch p
    stays p d = arcs-set-other scratch q l.below word p d

    go : (p : ℕ) → member alike p ≡ true → member less p ≡ false → (b : Bool) → eqb q p ≡ b →
        Is p (arcs_to (set scratch q word) p)
    go p m out true e =
        subst (λ (k : ℕ). Is k (arcs_to (set scratch q word) k)) (eqb-true q p e)
        (subst (Is q) (sym (arcs-set-here scratch q l.below word (keeps-room h.keeps room))) is)
    go p m out false e =
        let d = eqb-false q p e in
        subst (Is p) (sym (stays p (λ o. d (sym o))))
        (h.words p m (sym (others-stay rest q less loses p d) ∙ out))

-- ---- predicate after predicate
-- the arcs to n atoms are put but for the rest of them, of which none has the predicate of another atom
pub record ArcsPut (pairs : List Pair) (atom : ℕ → Atom) (n rest : ℕ) (lent scratch : List ℕ) : Type 0 where
  pub keeps : KeepsBehind lent scratch
  pub below : SetBelow n rest
  pub apart : (p q : ℕ) → p < n → member rest p ≡ false → member rest q ≡ true → (atom p).pred ≡ (atom q).pred → ⊥
  pub arcs : (p q : ℕ) → p < n → q < n → member rest q ≡ false →
      arcs_in scratch p q ≡ gives_arc pairs (atom p) (atom q)

pub arcs-none : (pairs : List Pair) (atom : ℕ → Atom) {n : ℕ} (rest : ℕ) (lent : List ℕ) →
    ((p : ℕ) → member rest p ≡ ltb p n) → ArcsPut pairs atom n rest lent lent
arcs-none pairs atom {n} rest lent all = record {
  keeps = keeps-refl lent;
  below = λ p m. ltb-true p n (sym (all p) ∙ m);
  apart = λ p q l out m e. still p l out;
  arcs = λ p q l k out. absurd (still q k out);
}
  where
    still : (p : ℕ) → p < n → member rest p ≡ false → ⊥
    still p l out = both-ft (all p ∙ lt-ltb p n l) out

-- those of one predicate more: of the rest, `alike` has that of atom k
module _ {pairs : List Pair} {atom : ℕ → Atom} {n rest : ℕ} {lent scratch : List ℕ}
    (h : ArcsPut pairs atom n rest lent scratch) (k alike : ℕ)
    (chosen : (p : ℕ) → member alike p ≡ member rest p && eqb (atom p).pred (atom k).pred) where
  was-in : (p : ℕ) → member alike p ≡ true → member rest p ≡ true
  was-in p m = and_left (member rest p) _ (sym (chosen p) ∙ m)

  same : (p : ℕ) → member alike p ≡ true → (atom p).pred ≡ (atom k).pred
  same p m = eqb-true _ _ (and_right (member rest p) _ (sym (chosen p) ∙ m))

  taken : (p : ℕ) → member rest p ≡ true → (atom p).pred ≡ (atom k).pred → member alike p ≡ true
  taken p m e = chosen p ∙ and_both _ _ m (eq-eqb (atom p).pred (atom k).pred e)

  pub alike-below : SetBelow n alike
  alike-below p m = h.below p (was-in p m)

  pub alike_same : (p q : ℕ) → member alike p ≡ true → member alike q ≡ true → (atom p).pred ≡ (atom q).pred
  alike_same p q m i = same p m ∙ sym (same q i)

  -- an atom that is not among them has another predicate
  others-differ : (p q : ℕ) → p < n → member alike p ≡ false → member alike q ≡ true → (atom p).pred ≡ (atom q).pred → ⊥
  others-differ p q l out m e = go (member rest p) refl
    where
      go : (b : Bool) → member rest p ≡ b → ⊥
      go true r = both-ft (taken p r (e ∙ same q m)) out
      go false r = h.apart p q l r (was-in q m) e

  -- they are taken out of the rest
  module _ (less : ℕ) (minus : (p : ℕ) → member less p ≡ member rest p && not (member alike p)) where
    still-in : (p : ℕ) → member less p ≡ true → member rest p ≡ true
    still-in p m = and_left (member rest p) _ (sym (minus p) ∙ m)

    not_taken : (p : ℕ) → member less p ≡ true → member alike p ≡ false
    not_taken p m = not-true (member alike p) (and_right (member rest p) _ (sym (minus p) ∙ m))

    gone : (p : ℕ) → member rest p ≡ true → member less p ≡ false → member alike p ≡ true
    gone p m out =
        not-false (member alike p) (ap (λ (b : Bool). b && not (member alike p)) (sym m) ∙ (sym (minus p) ∙ out))

    -- fewer are left, as atom k itself is taken
    pub arcs-fewer : Lowest rest k → length (members less set_bits) < length (members rest set_bits)
    arcs-fewer l =
        within-fewer rest less still-in k set_bits l.below l.is-in
        (minus k ∙ ap₂ (λ (a b : Bool). a && not b) l.is-in (taken k l.is-in refl))

    pub arcs-more : {after : List ℕ} → KeepsBehind scratch after →
        ((q : ℕ) → member alike q ≡ false → arcs_to after q ≡ arcs_to scratch q) →
        ((p q : ℕ) → member alike q ≡ true →
        arcs_in after p q ≡ member alike p && gives_arc pairs (atom p) (atom q)) → ArcsPut pairs atom n less lent after
    arcs-more {after} keeps stay among = record {
      keeps = keeps-trans h.keeps keeps;
      below = λ p m. h.below p (still-in p m);
      apart = λ p q l out m e. apart p q l out m e (member rest p) refl;
      arcs = λ p q l j out. arcs p q l j out (member alike q) refl;
    }
      where
        apart : (p q : ℕ) → p < n → member less p ≡ false → member less q ≡ true → (atom p).pred ≡ (atom q).pred →
            (b : Bool) → member rest p ≡ b → ⊥
        apart p q l out m e true r =
            both-ft (taken q (still-in q m) (sym e ∙ same p (gone p r out))) (not_taken q m)
        apart p q l out m e false r = h.apart p q l r (still-in q m) e

        own : (p q : ℕ) → p < n → member alike q ≡ true → (b : Bool) → member alike p ≡ b →
            b && gives_arc pairs (atom p) (atom q) ≡ gives_arc pairs (atom p) (atom q)
        own p q l m true r = refl
        own p q l m false r =
            sym (false-if (gives_arc pairs (atom p) (atom q))
            (λ t. others-differ p q l r m ((gives-arc pairs (atom p) (atom q)).0 t).0))

        arcs : (p q : ℕ) → p < n → q < n → member less q ≡ false → (b : Bool) → member alike q ≡ b →
            arcs_in after p q ≡ gives_arc pairs (atom p) (atom q)
        arcs p q l j out true m = among p q m ∙ own p q l m (member alike p) refl
        arcs p q l j out false m =
            ap (λ (set : ℕ). member set p) (stay q m) ∙
            h.arcs p q l j (false-if (member rest q) (λ r. both-ft (gone q r out) m))
