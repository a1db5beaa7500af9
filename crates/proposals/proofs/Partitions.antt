-- Part numbers of atoms: how many parts they make, when they have no gap, and what a schema keeps when its atoms take
-- other part numbers. Each law of `parted` goes by the atoms and the numbers together, of which there are as many.
use Prim.Native.Nat.{ℕ, zero, suc, ◌≤◌, ◌<◌, max}
use mathlib.Core.Path.{◌≡◌, refl, ◌∙◌, ap, ap₂}
use mathlib.Core.Bool.{Bool, true, not, ◌&&◌, ◌||◌}
use mathlib.Core.List.{List, [], ◌∷◌, map}
use mathlib.Core.Logic.{◌↔◌}
use native.Mathlib.Omega.{arith}
use native.Mathlib.Decide.{dec_lt}
use lib.ListN.{length, get_or}
use lib.Dec.{eqb, ltb, leb}
use borrow.Author.Tests.{eq-eqb, eqb-true, lt-ltb, ltb-true}
use Rattle.words.specs.Lists.{all, any, up_to}
use Rattle.words.proofs.Lists.{In, here, there, in-eq, in-any, any-in, all_in, in_all, in-up_to, up_to-in}
use Rattle.task.specs.Limits.{most_parts}
use Rattle.task.specs.Task.{Atom, Schema, part_count, no_gap, roles_ascend, same_atom, distinct, args_fit, names}
use Rattle.task.specs.Task.{schema_fits}
use Rattle.task.proofs.Tests.{schema-tests, tests-schema}
use Rattle.task.proofs.AtomsStand.{no_atom}
use Rattle.proposals.specs.Proposal.{with_part, parted, with_parts, count_of}
use Rattle.proposals.specs.Scratch.{Numbered}

-- ---- part numbers without a gap
-- the numbers of n parts, "numbered without a gap"
pub record GapFree (n : ℕ) (ps : List ℕ) : Type 0 where
  pub below : (p : ℕ) → In p ps → p < n
  pub filled : (p : ℕ) → p < n → In p ps

-- the same by the tests of part numbers
pub numbered-gap-free : {n : ℕ} {ps : List ℕ} → (Numbered n ps) ↔ (GapFree n ps)
numbered-gap-free {n} {ps} = (forth, back)
  where
    forth : Numbered n ps → GapFree n ps
    forth h = record {
      below = λ p i. ltb-true p n (all_in (λ p. ltb p n) h.below i);
      filled = λ p l.
          let (q, i, e) = any-in (eqb p) ps (all_in (λ p. any (eqb p) ps) h.filled (in-up_to n p l)) in
          in-eq (eqb-true p q e) i;
    }

    back : GapFree n ps → Numbered n ps
    back g = record {
      below = in_all (λ p. ltb p n) ps (λ p i. lt-ltb p n (g.below p i));
      filled = in_all (λ p. any (eqb p) ps) (up_to n) (λ p i.
          in-any (eqb p) (g.filled p (up_to-in n p i)) (eq-eqb p p refl));
    }

count_most : (n : ℕ) (ps : List ℕ) → ((p : ℕ) → In p ps → p < n) → count_of ps ≤ n
unfolding count_of
count_most n [] h = omega arith
count_most n (p ∷ ps) h =
    let e = h p (here refl) in
    let f = count_most n ps (λ q i. h q (there i)) in
    omega arith

part-counted : {p : ℕ} {ps : List ℕ} → In p ps → p < count_of ps
unfolding count_of
part-counted (here e) = omega arith
part-counted (there i) = omega (arith, part-counted i)

pub gap-free-count : (n : ℕ) (ps : List ℕ) → GapFree n ps → count_of ps ≡ n
gap-free-count n ps g =
    let l = count_most n ps g.below in
    elim (dec_lt (count_of ps) n) [
      | yes h ↦ absurd (let z = part-counted (g.filled (count_of ps) h) in omega arith)
      | no h ↦ omega arith
    ]

-- ---- atoms with other part numbers
-- what an atom becomes when the parts are renumbered
abbrev pub renumbered : (ℕ → ℕ) → Atom → Atom
renumbered f a = with_part (f a.part) a

pub parted-renumbered : (f : ℕ → ℕ) (atoms : List Atom) (ps : List ℕ) → length ps ≡ length atoms →
    parted atoms (map f ps) ≡ map (renumbered f) (parted atoms ps)
unfolding parted with_part
parted-renumbered f [] [] l = refl
parted-renumbered f [] (p ∷ ps) l = absurd (omega arith)
parted-renumbered f (a ∷ atoms) [] l = absurd (omega arith)
parted-renumbered f (a ∷ atoms) (p ∷ ps) l =
    ap {B = List Atom} (λ bs. with_part (f p) a ∷ bs) (parted-renumbered f atoms ps (omega arith))

pub parted-length : (atoms : List Atom) (ps : List ℕ) → length (parted atoms ps) ≡ length atoms
unfolding parted
parted-length [] ps = refl
parted-length (a ∷ atoms) [] = ap suc (parted-length atoms [])
parted-length (a ∷ atoms) (p ∷ ps) = ap suc (parted-length atoms ps)

-- atom i is that of the schema, in the part of that number
pub parted-at : (atoms : List Atom) (ps : List ℕ) (i : ℕ) → i < length atoms →
    get_or (parted atoms ps) i no_atom ≡ with_part (get_or ps i 0) (get_or atoms i no_atom)
unfolding parted
parted-at [] ps i l = absurd (omega arith)
parted-at (a ∷ atoms) [] zero l = refl
parted-at (a ∷ atoms) [] (suc i) l = parted-at atoms [] i (omega arith)
parted-at (a ∷ atoms) (p ∷ ps) zero l = refl
parted-at (a ∷ atoms) (p ∷ ps) (suc i) l = parted-at atoms ps i (omega arith)

pub parted-count : (atoms : List Atom) (ps : List ℕ) → length ps ≡ length atoms →
    part_count (parted atoms ps) ≡ count_of ps
unfolding parted with_part part_count count_of
parted-count [] [] l = refl
parted-count [] (p ∷ ps) l = absurd (omega arith)
parted-count (a ∷ atoms) [] l = absurd (omega arith)
parted-count (a ∷ atoms) (p ∷ ps) l = ap (max (suc p)) (parted-count atoms ps (omega arith))

parted-part : (q : ℕ) (atoms : List Atom) (ps : List ℕ) → length ps ≡ length atoms →
    any (λ a. eqb q a.part) (parted atoms ps) ≡ any (eqb q) ps
unfolding parted with_part any
parted-part q [] [] l = refl
parted-part q [] (p ∷ ps) l = absurd (omega arith)
parted-part q (a ∷ atoms) [] l = absurd (omega arith)
parted-part q (a ∷ atoms) (p ∷ ps) l = ap (λ (b : Bool). eqb q p || b) (parted-part q atoms ps (omega arith))

-- numbers without a gap give parts without a gap
pub gap-free-parts : (n : ℕ) (atoms : List Atom) (ps : List ℕ) → length ps ≡ length atoms → GapFree n ps →
    no_gap (parted atoms ps) ≡ true
unfolding no_gap
gap-free-parts n atoms ps l g =
    in_all (λ p. any (λ a. eqb p a.part) (parted atoms ps)) (up_to (part_count (parted atoms ps))) (λ p i.
    let c = parted-count atoms ps l in
    let d = gap-free-count n ps g in
    let m = up_to-in (part_count (parted atoms ps)) p i in
    parted-part p atoms ps l ∙ in-any (eqb p) (g.filled p (omega arith)) (eq-eqb p p refl))

-- ---- what the other tests of a schema say doesn't depend on its parts
-- a test that doesn't look at the part
abbrev PartBlind : (Atom → Bool) → Type 0
PartBlind test = (p : ℕ) (a : Atom) → test (with_part p a) ≡ test a

pub parted-any : (test : Atom → Bool) → PartBlind test → (atoms : List Atom) (ps : List ℕ) →
    any test (parted atoms ps) ≡ any test atoms
unfolding parted any
parted-any test h [] ps = refl
parted-any test h (a ∷ atoms) [] = ap₂ (λ (b c : Bool). b || c) (h 0 a) (parted-any test h atoms [])
parted-any test h (a ∷ atoms) (p ∷ ps) = ap₂ (λ (b c : Bool). b || c) (h p a) (parted-any test h atoms ps)

parted-all : (test : Atom → Bool) → PartBlind test → (atoms : List Atom) (ps : List ℕ) →
    all test (parted atoms ps) ≡ all test atoms
unfolding parted all
parted-all test h [] ps = refl
parted-all test h (a ∷ atoms) [] = ap₂ (λ (b c : Bool). b && c) (h 0 a) (parted-all test h atoms [])
parted-all test h (a ∷ atoms) (p ∷ ps) = ap₂ (λ (b c : Bool). b && c) (h p a) (parted-all test h atoms ps)

parted-roles : (atoms : List Atom) (ps : List ℕ) → roles_ascend (parted atoms ps) ≡ roles_ascend atoms
unfolding parted with_part roles_ascend
parted-roles [] ps = refl
parted-roles (a ∷ []) [] = refl
parted-roles (a ∷ []) (p ∷ ps) = refl
parted-roles (a ∷ b ∷ atoms) [] = ap (λ (c : Bool). leb a.role b.role && c) (parted-roles (b ∷ atoms) [])
parted-roles (a ∷ b ∷ atoms) (p ∷ []) = ap (λ (c : Bool). leb a.role b.role && c) (parted-roles (b ∷ atoms) [])
parted-roles (a ∷ b ∷ atoms) (p ∷ q ∷ ps) =
    ap (λ (c : Bool). leb a.role b.role && c) (parted-roles (b ∷ atoms) (q ∷ ps))

parted-distinct : (atoms : List Atom) (ps : List ℕ) → distinct (parted atoms ps) ≡ distinct atoms
unfolding parted with_part distinct same_atom
parted-distinct [] ps = refl
parted-distinct (a ∷ atoms) [] = ap₂ (λ (b c : Bool). not b && c)
    (parted-any (λ b. same_atom a b) (λ p b. refl) atoms []) (parted-distinct atoms [])
parted-distinct (a ∷ atoms) (p ∷ ps) = ap₂ (λ (b c : Bool). not b && c)
    (parted-any (λ b. same_atom a b) (λ p b. refl) atoms ps) (parted-distinct atoms ps)

-- with few enough parts and no gap a schema is as well formed as it was
pub parted-fits : (arities : List ℕ) (s : Schema) (ps : List ℕ) → schema_fits arities s ≡ true →
    leb (part_count (parted s.atoms ps)) most_parts ≡ true → no_gap (parted s.atoms ps) ≡ true →
    schema_fits arities (with_parts s ps) ≡ true
unfolding with_parts no_gap with_part names
parted-fits arities s ps h few filled =
    let c = schema-tests arities s h in
    let bs = parted s.atoms ps in
    let l = parted-length s.atoms ps in
    tests-schema arities (with_parts s ps) (record {
      params = c.params;
      some-atom = rw l c.some-atom;
      few = rw l c.few;
      roles = parted-roles s.atoms ps ∙ c.roles;
      fit = parted-all (λ a. args_fit arities s.params a.pred a.args) blind-fit s.atoms ps ∙ c.fit;
      apart = parted-distinct s.atoms ps ∙ c.apart;
      used = in_all (λ x. any (names x) bs) (up_to s.params) (λ x i.
          parted-any (names x) (blind-names x) s.atoms ps ∙ all_in (λ x. any (names x) s.atoms) c.used i);
      parts = few;
      filled = filled;
      pairs = c.pairs;
      pairs-order = c.pairs-order;
    })
  where
    blind-fit : (p : ℕ) (a : Atom) →
        args_fit arities s.params (with_part p a).pred (with_part p a).args ≡
        args_fit arities s.params a.pred a.args
    blind-fit p a = refl

    blind-names : (x p : ℕ) (a : Atom) → names x (with_part p a) ≡ names x a
    blind-names x p a = refl
