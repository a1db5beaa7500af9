-- The words of a part's atoms as its loops put them: one atom or one par further, a word run is longer by that atom's
-- words where the test takes it, and the same where it doesn't. Roles ascend, so the atoms of one stand in a row: those
-- before and behind it put nothing.
use Prim.Native.Nat.{ℕ, zero, suc, ◌+◌, ◌-◌, ◌≤◌, ◌<◌}
use mathlib.Core.Path.{◌≡◌, refl, sym, ◌∙◌, ap, subst}
use mathlib.Core.Bool.{Bool, true, false, ◌&&◌}
use mathlib.Core.List.{List, [], ◌∷◌, ◌++◌, map, append-nil}
use native.Mathlib.Omega.{arith}
use native.Mathlib.Decide.{dec_lt}
use lib.ListN.{length, take, replicate, length-map}
use lib.Seq.{take_all}
use lib.Dec.{eqb, ltb}
use borrow.Author.Tests.{ltb-true, lt-ltb, ne_eqb}
use Rattle.words.specs.Lists.{filter, keep_if, concat_map, up_to, padded}
use Rattle.task.specs.Task.{Atom, precondition}
use Rattle.task.specs.Run.{of_role}
use Rattle.task.specs.Table.{atom_in, atom_words}
use Rattle.task.specs.Turns.{RoleEnds}
use Rattle.words.proofs.Lists.{and_right, up_to-in, map-append, append-concat_map, filter-append, filter_none}
use Rattle.words.proofs.Lists.{length-padded, filter_same}
use Rattle.words.specs.Sets.{member, members, word_bits}
use Rattle.arcs.specs.Stretches.{IsStretch, stretch_in}
use Rattle.words.proofs.BitSets.{member-zero}
use Rattle.arcs.proofs.Stretches.{rows_none, rows_more}
use Rattle.words.specs.Putting.{Puts}
use Rattle.tokens.specs.Writing.{new_number, renumbered, old_in, old_words, par_in, RoleBegins}
use Rattle.tokens.specs.declared.part_atoms.PartPlace.{PartPlace}
use Rattle.words.proofs.Puts.{puts_then}
use Rattle.words.proofs.SetMembers.{members-more, filter-below}

-- ---- a parameter's new number
-- the members of a set below x, as a set
pub members-below : (own x below : ℕ) → x ≤ word_bits → ((k : ℕ) → member below k ≡ member own k && ltb k x) →
    members below word_bits ≡ members own x
unfolding members
members-below own x below l h =
    filter-below (member below) x word_bits l
    (λ k e. ltb-true k x (and_right (member own k) (ltb k x) (sym (h k) ∙ e))) ∙
    filter_same (member below) (member own) (up_to x) (λ k i. h k ∙ inside k (member own k) (up_to-in x k i))
  where
    inside : (k : ℕ) (b : Bool) → k < x → b && ltb k x ≡ b
    inside k true m = lt-ltb k x m
    inside k false m = refl

-- all arguments, and zeros up to four words
pub arguments-end : (w : List ℕ) (at own : ℕ) (args : List ℕ) (k : ℕ) (out : List ℕ) (count : ℕ)
    {after : List ℕ} {end : ℕ} →
    Puts w at (map (new_number own) (take k args)) out (at + k) → k ≡ count → count ≡ length args → length args ≤ 4 →
    Puts out (at + count) (replicate (4 - count) 0) after end →
    Puts w at (padded 4 (map (new_number own) args)) after end × (end ≡ at + 4)
unfolding padded
arguments-end w at own args k out count front e n l zeros =
    let m = length-map args (new_number own) in
    let a : Puts w at (map (new_number own) args) out (at + count) =
    subst (λ (j : ℕ). Puts w at (map (new_number own) args) out (at + j)) e
    (subst (λ (xs : List ℕ). Puts w at (map (new_number own) xs) out (at + k)) (take_all k args (omega arith)) front) in
    let z : length (map (new_number own) args) ≡ count = omega arith in
    let all = puts_then a zeros (padded 4 (map (new_number own) args))
    (ap (λ (j : ℕ). map (new_number own) args ++ replicate (4 - j) 0) z) in
    (all, omega (arith, all.place, length-padded 4 (map (new_number own) args) (omega arith)))

-- ---- words of atoms
module _ {A : Type 0} (f : A → List ℕ) (xs : List A) (x : A) where
  words-taken : (b : Bool) → b ≡ true → concat_map f (xs ++ keep_if b x []) ≡ concat_map f xs ++ f x
  unfolding keep_if concat_map
  words-taken b e =
      ap (λ (b : Bool). concat_map f (xs ++ keep_if b x [])) e ∙ append-concat_map f xs (x ∷ []) ∙
      ap (λ (l : List ℕ). concat_map f xs ++ l) (append-nil (f x))

  words_left : (b : Bool) → b ≡ false → concat_map f (xs ++ keep_if b x []) ≡ concat_map f xs
  unfolding keep_if
  words_left b e = ap (λ (b : Bool). concat_map f (xs ++ keep_if b x [])) e ∙ ap (concat_map f) (append-nil xs)

-- ---- old atoms
module _ (own r p : ℕ) where
  abbrev pub is_here : Atom → Bool
  is_here a = eqb r a.role && eqb p a.part

  old-append : (xs : List Atom) (a : Atom) →
      old_in own r p (xs ++ (a ∷ [])) ≡ old_in own r p xs ++ keep_if (is_here a) (renumbered own r a) []
  unfolding old_in of_role filter keep_if
  old-append xs a =
      let role : Atom → Bool = λ a. eqb r a.role in
      let part : Atom → Bool = λ a. eqb p a.part in
      ap (λ (l : List Atom). map (renumbered own r) (filter part l)) (filter-append role xs (a ∷ [])) ∙
      ap (map (renumbered own r)) (filter-append part (filter role xs) (filter role (a ∷ []))) ∙
      map-append (renumbered own r) (filter part (filter role xs)) (filter part (filter role (a ∷ []))) ∙
      ap (λ (l : List Atom). map (renumbered own r) (filter part (filter role xs)) ++ l) (last (role a) (part a) refl)
    where
      last : (b d : Bool) → eqb p a.part ≡ d →
          map (renumbered own r) (filter (λ a. eqb p a.part) (keep_if b a [])) ≡
          keep_if (b && d) (renumbered own r a) []
      last true true e = ap (λ (b : Bool). map (renumbered own r) (keep_if b a [])) e
      last true false e = ap (λ (b : Bool). map (renumbered own r) (keep_if b a [])) e
      last false d e = refl

  module _ (w : List ℕ) (number from : ℕ) where
    abbrev pub old_up_to : ℕ → List ℕ
    old_up_to i = concat_map (atom_words number) (old_in own r p (stretch_in w from i))

    pub old-none : old_up_to from ≡ []
    unfolding concat_map old_in of_role filter
    old-none = ap (λ (xs : List Atom). concat_map (atom_words number) (old_in own r p xs)) (rows_none (atom_in w) from)

    old-step : (i : ℕ) → from ≤ i → old_in own r p (stretch_in w from (i + 1)) ≡
        old_in own r p (stretch_in w from i) ++ keep_if (is_here (atom_in w i)) (renumbered own r (atom_in w i)) []
    old-step i l = ap (old_in own r p) (rows_more (atom_in w) from i l) ∙ old-append (stretch_in w from i) (atom_in w i)

    pub old-taken : (i : ℕ) → from ≤ i → is_here (atom_in w i) ≡ true →
        old_up_to (i + 1) ≡ old_up_to i ++ atom_words number (renumbered own r (atom_in w i))
    old-taken i l h =
        ap (concat_map (atom_words number)) (old-step i l) ∙
        words-taken (atom_words number) (old_in own r p (stretch_in w from i)) (renumbered own r (atom_in w i)) _ h

    pub old-left : (i : ℕ) → from ≤ i → is_here (atom_in w i) ≡ false → old_up_to (i + 1) ≡ old_up_to i
    old-left i l h =
        ap (concat_map (atom_words number)) (old-step i l) ∙
        words_left (atom_words number) (old_in own r p (stretch_in w from i)) (renumbered own r (atom_in w i)) _ h

    -- atoms that are not here put nothing
    old-skips : (i n : ℕ) → from ≤ i → ((k : ℕ) → i ≤ k → k < i + n → is_here (atom_in w k) ≡ false) →
        old_up_to (i + n) ≡ old_up_to i
    old-skips i zero l h = ap old_up_to (let e : i + 0 ≡ i = omega arith in e)
    old-skips i (suc n) l h =
        ap old_up_to (let e : i + suc n ≡ i + n + 1 = omega arith in e) ∙
        old-left (i + n) (omega arith) (h (i + n) (omega arith) (omega arith)) ∙
        old-skips i n l (λ k a b. h k a (omega arith))

-- ---- the old atoms of a role stand in a row
pub roles-begin : {w : List ℕ} {here : PartPlace} → IsStretch w here.from here.to →
    ((j k : ℕ) → here.from ≤ j → j ≤ k → k < here.to → (atom_in w j).role ≤ (atom_in w k).role) →
    RoleBegins w here precondition here.from
roles-begin s h = record {
  stretch = s;
  rise = h;
  from = omega arith;
  within = s.forward;
  before = λ k a b. absurd (omega arith);
  behind = λ k a b. omega arith;
}

module _ {w : List ℕ} {here : PartPlace} {r first : ℕ} (B : RoleBegins w here r first) where
  abbrev up_to-atom : ℕ → List ℕ
  up_to-atom = old_up_to here.own r here.part.0 w here.number here.from

  not-here : (k : ℕ) → (r ≡ (atom_in w k).role → ⊥) → is_here here.own r here.part.0 (atom_in w k) ≡ false
  not-here k n = ap (λ (b : Bool). b && eqb here.part.0 (atom_in w k).part) (ne_eqb r (atom_in w k).role n)

  -- none stands before the first
  pub old-begun : up_to-atom first ≡ []
  old-begun =
      let n = first - here.from in
      let l = B.from in
      ap up_to-atom (let e : first ≡ here.from + n = omega arith in e) ∙
      old-skips here.own r here.part.0 w here.number here.from here.from n (omega arith)
      (λ k a b. not-here k (λ e. let z = B.before k a (omega arith) in omega arith)) ∙
      old-none here.own r here.part.0 w here.number here.from

  module _ {i : ℕ} (E : RoleEnds w first here.to r i) where
    -- where they end the next role begins
    pub next-begins : RoleBegins w here (r + 1) i
    next-begins = record {
      stretch = B.stretch;
      rise = B.rise;
      from = let a = B.from in let b = E.from in omega arith;
      within = E.within;
      before = λ k a b. elim (dec_lt k first) [
        | yes m ↦ let z = B.before k a m in omega arith
        | no m ↦ let z = E.has k (omega arith) b in omega arith
      ];
      behind = λ k a b.
          let l = B.from in
          let m = E.from in
          let x = B.behind i m (omega arith) in
          let y = B.rise i k (omega arith) a b in
          elim (dec_lt r (atom_in w i).role) [
            | yes p ↦ omega arith
            | no p ↦ absurd (E.stops (omega arith) (omega arith))
          ];
    }

    -- and all of them were put
    pub old-ended : old_words w here r ≡ up_to-atom i
    old-ended =
        let n = here.to - i in
        let l = next-begins.from in
        let m = E.within in
        ap up_to-atom (let e : here.to ≡ i + n = omega arith in e) ∙
        old-skips here.own r here.part.0 w here.number here.from i n l
        (λ k a b. not-here k (λ e. let z = next-begins.behind k a (omega arith) in omega arith))

-- ---- pars
module _ (own par r number which : ℕ) where
  abbrev pub pars_up_to : ℕ → List ℕ
  pars_up_to x = concat_map (atom_words number) (map (par_in own par r) (members which x))

  pub pars-none : pars_up_to 0 ≡ []
  unfolding concat_map members filter up_to
  pars-none = refl

  pub pars-empty : which ≡ 0 → (x : ℕ) → pars_up_to x ≡ []
  unfolding concat_map members
  pars-empty e x =
      ap (λ (ks : List ℕ). concat_map (atom_words number) (map (par_in own par r) ks))
      (filter_none (member which) (up_to x) (λ k i. ap (λ (n : ℕ). member n k) e ∙ member-zero k))

  pars-step : (x : ℕ) → map (par_in own par r) (members which (x + 1)) ≡
      map (par_in own par r) (members which x) ++ keep_if (member which x) (par_in own par r x) []
  unfolding keep_if
  pars-step x =
      ap (map (par_in own par r)) (members-more which x) ∙
      map-append (par_in own par r) (members which x) (keep_if (member which x) x []) ∙
      ap (λ (l : List Atom). map (par_in own par r) (members which x) ++ l) (last (member which x))
    where
      last : (b : Bool) → map (par_in own par r) (keep_if b x []) ≡ keep_if b (par_in own par r x) []
      last true = refl
      last false = refl

  pub pars-taken : (x : ℕ) → member which x ≡ true →
      pars_up_to (x + 1) ≡ pars_up_to x ++ atom_words number (par_in own par r x)
  pars-taken x h =
      ap (concat_map (atom_words number)) (pars-step x) ∙
      words-taken (atom_words number) (map (par_in own par r) (members which x)) (par_in own par r x) _ h

  pub pars-left : (x : ℕ) → member which x ≡ false → pars_up_to (x + 1) ≡ pars_up_to x
  pars-left x h =
      ap (concat_map (atom_words number)) (pars-step x) ∙
      words_left (atom_words number) (map (par_in own par r) (members which x)) (par_in own par r x) _ h
