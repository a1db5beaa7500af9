-- Atoms without their parts, as they are while their schema is read: the tests that do not look at parts say the same
-- of them, and a `part` line gives each its own again.
use Prim.Native.Nat.{ℕ, ◌≤◌, ◌<◌}
use mathlib.Core.Path.{◌≡◌, refl, sym, ◌∙◌, ap, ap₂}
use mathlib.Core.Bool.{Bool, true, not, ◌&&◌, ◌||◌}
use mathlib.Core.List.{List, [], ◌∷◌, map}
use native.Mathlib.Omega.{arith}
use native.Mathlib.Decide.{dec_lt}
use lib.ListN.{length}
use lib.Dec.{ltb, leb}
use borrow.Author.Tests.{ltb-true, leb-true, lt-ltb, le-leb}
use Rattle.words.specs.Lists.{all, any, up_to}
use Rattle.task.specs.Task.{Atom, same_atom, distinct, roles_ascend, names, part_count}
use Rattle.words.proofs.Lists.{In, here, there, all_in, in_all, in_map, map-in}
use Rattle.task.proofs.SchemaWords.{part_small}
use Rattle.text.specs.Text.{with_parts}

abbrev pub bare : Atom → Atom
bare a = record { role = a.role; pred = a.pred; part = 0; args = a.args }

abbrev pub part_of : Atom → ℕ
part_of a = a.part

-- ---- tests that do not look at parts
module _ {A B : Type 0} where
  pub all_map : (p : B → Bool) (f : A → B) (xs : List A) → all p (map f xs) ≡ all (λ x. p (f x)) xs
  unfolding all
  all_map p f [] = refl
  all_map p f (x ∷ xs) = ap (λ (b : Bool). p (f x) && b) (all_map p f xs)

  pub any-map : (p : B → Bool) (f : A → B) (xs : List A) → any p (map f xs) ≡ any (λ x. p (f x)) xs
  unfolding any
  any-map p f [] = refl
  any-map p f (x ∷ xs) = ap (λ (b : Bool). p (f x) || b) (any-map p f xs)

pub roles-bare : (bs : List Atom) → roles_ascend (map bare bs) ≡ roles_ascend bs
unfolding roles_ascend
roles-bare [] = refl
roles-bare (a ∷ []) = refl
roles-bare (a ∷ b ∷ bs) = ap (λ (c : Bool). leb a.role b.role && c) (roles-bare (b ∷ bs))

pub distinct-bare : (bs : List Atom) → distinct (map bare bs) ≡ distinct bs
unfolding distinct
distinct-bare [] = refl
distinct-bare (a ∷ bs) = ap₂ (λ (x y : Bool). not x && y) (any-map (same_atom (bare a)) bare bs) (distinct-bare bs)

-- whether each of n parameters stands in some atom
abbrev pub all_named_in : ℕ → List Atom → Bool
all_named_in n bs = all (λ x. any (names x) bs) (up_to n)

pub named-bare : (n : ℕ) (bs : List Atom) → all_named_in n (map bare bs) ≡ all_named_in n bs
unfolding names
named-bare n bs = λ i. all (λ x. any-map (names x) bare bs i) (up_to n)

-- ---- a part for each atom
pub parts-bare : (bs : List Atom) (ps : List ℕ) → length ps ≡ length bs → map bare (with_parts bs ps) ≡ map bare bs
unfolding with_parts
parts-bare [] ps h = refl
parts-bare (a ∷ bs) [] h = absurd (omega arith)
parts-bare (a ∷ bs) (p ∷ ps) h =
    ap {B = List Atom} (λ (xs : List Atom). bare a ∷ xs) (parts-bare bs ps (omega arith))

pub parts_are : (bs : List Atom) (ps : List ℕ) → length ps ≡ length bs → map part_of (with_parts bs ps) ≡ ps
unfolding with_parts
parts_are [] [] h = refl
parts_are [] (p ∷ ps) h = absurd (omega arith)
parts_are (a ∷ bs) [] h = absurd (omega arith)
parts_are (a ∷ bs) (p ∷ ps) h = ap {B = List ℕ} (λ (xs : List ℕ). p ∷ xs) (parts_are bs ps (omega arith))

pub parts-back : (bs : List Atom) → with_parts (map bare bs) (map part_of bs) ≡ bs
unfolding with_parts
parts-back [] = refl
parts-back (a ∷ bs) = ap {B = List Atom} (λ (xs : List Atom). a ∷ xs) (parts-back bs)

-- what does not look at parts stays when the parts come in
pub parts_same : {B : Type 0} (f : List Atom → B) → ((xs : List Atom) → f (map bare xs) ≡ f xs) →
    (xs : List Atom) (ps : List ℕ) → length ps ≡ length xs → f (with_parts xs ps) ≡ f xs
parts_same f h xs ps l = sym (h (with_parts xs ps)) ∙ (ap f (parts-bare xs ps l) ∙ h xs)

-- ---- the highest part
pub part-reached : (bs : List Atom) (p : ℕ) → p < part_count bs → (a : Atom) × In a bs × (p ≤ a.part)
unfolding part_count
part-reached [] p h = absurd (omega arith)
part-reached (a ∷ bs) p h = elim (dec_lt a.part p) [
  | yes l ↦ let (b, i, k) = part-reached bs p (omega arith) in (b, there i, k)
  | no l ↦ (a, here refl, omega arith)
]

-- there are at most n parts exactly when each part number is below n
pub count-below : (n : ℕ) (bs : List Atom) → leb (part_count bs) n ≡ true → all (λ p. ltb p n) (map part_of bs) ≡ true
count-below n bs h =
    in_all (λ p. ltb p n) (map part_of bs) (λ p i.
    let (a, j, e) = map-in part_of bs p i in
    let k = part_small j in
    let l = leb-true (part_count bs) n h in
    lt-ltb p n (omega arith))

pub below-count : (n : ℕ) (bs : List Atom) → all (λ p. ltb p n) (map part_of bs) ≡ true → leb (part_count bs) n ≡ true
below-count n bs h = le-leb (part_count bs) n (go (dec_lt n (part_count bs)))
  where
    go : Dec (n < part_count bs) → part_count bs ≤ n
    go (yes l) =
        let (a, i, e) = part-reached bs n l in
        let m = ltb-true a.part n (all_in (λ p. ltb p n) h (in_map part_of i)) in
        absurd (omega arith)
    go (no l) = omega arith
