-- The atoms of a schema are its preconditions, then its adds, then its deletes, since no role behind an atom is lower:
-- so a schema without its partition is told by what it has in each role.
use Prim.Native.Nat.{ℕ, zero, suc, ◌≤◌, ◌<◌}
use mathlib.Core.Path.{◌≡◌, refl, sym, ◌∙◌, ap, ap₂}
use mathlib.Core.Bool.{Bool, true, false}
use mathlib.Core.List.{List, [], ◌∷◌, ◌++◌, map}
use native.Mathlib.Omega.{arith}
use lib.Dec.{eqb, leb}
use borrow.Author.Tests.{eqb-true, ne_eqb}
use Rattle.words.specs.Lists.{filter, keep_if}
use Rattle.words.proofs.Lists.{and_right, In, get_or-in, filter-in, filter_none, map-append}
use Rattle.task.specs.Task.{Atom, roles_ascend, precondition, addition, deletion}
use Rattle.task.specs.Run.{of_role}
use Rattle.task.proofs.AtomsStand.{no_atom}
use Rattle.task.proofs.SchemaAtoms.{roles-places, last-role}
use Rattle.defines.specs.Parts.{without_part}

-- ---- role after role
roles-behind : (a : Atom) (rest : List Atom) → roles_ascend (a ∷ rest) ≡ true → roles_ascend rest ≡ true
unfolding roles_ascend
roles-behind a [] h = refl
roles-behind a (b ∷ rest) h = and_right (leb a.role b.role) (roles_ascend (b ∷ rest)) h

none-lower : (a : Atom) (rest : List Atom) → roles_ascend (a ∷ rest) ≡ true → (r : ℕ) → r < a.role →
    of_role r rest ≡ []
unfolding of_role
none-lower a rest h r l = filter_none (λ b. eqb r b.role) rest (λ b i. ne_eqb r b.role (λ e.
    let (j, m, q) = get_or-in no_atom i in
    let s = roles-places (a ∷ rest) h 0 (suc j) (omega arith) (omega arith) in
    let t = ap (λ (c : Atom). c.role) q in
    omega arith))

abbrev pub by_roles : List Atom → List Atom
by_roles atoms = of_role precondition atoms ++ (of_role addition atoms ++ of_role deletion atoms)

-- an atom of role r before those of each role, with none of a lower one
in-turn : (r : ℕ) (a : Atom) (ps qs ds : List Atom) → r ≤ 2 → (0 < r → ps ≡ []) → (1 < r → qs ≡ []) →
    a ∷ (ps ++ (qs ++ ds)) ≡ keep_if (eqb 0 r) a ps ++ (keep_if (eqb 1 r) a qs ++ keep_if (eqb 2 r) a ds)
unfolding keep_if
in-turn zero a ps qs ds l e f = refl
in-turn (suc zero) a ps qs ds l e f = rw (e (omega arith)) refl
in-turn (suc (suc zero)) a ps qs ds l e f = rw (e (omega arith), f (omega arith)) refl
in-turn (suc (suc (suc r))) a ps qs ds l e f = absurd (omega arith)

pub by-roles : (atoms : List Atom) → roles_ascend atoms ≡ true → atoms ≡ by_roles atoms
unfolding of_role filter
by-roles [] h = refl
by-roles (a ∷ rest) h =
    ap {B = List Atom} (λ bs. a ∷ bs) (by-roles rest (roles-behind a rest h)) ∙
    in-turn a.role a (of_role precondition rest) (of_role addition rest) (of_role deletion rest)
    (last-role (a ∷ rest) h 0 (omega arith)) (none-lower a rest h 0) (none-lower a rest h 1)

pub has-role : (r : ℕ) (atoms : List Atom) (a : Atom) → In a (of_role r atoms) → In a atoms × (a.role ≡ r)
unfolding of_role
has-role r atoms a i =
    let (j, e) = filter-in (λ b. eqb r b.role) atoms a i in
    (j, sym (eqb-true r a.role e))

-- ---- without parts
-- what there is in each role tells all
pub roles-tell : (xs ys : List Atom) → roles_ascend xs ≡ true → roles_ascend ys ≡ true →
    map without_part (of_role precondition xs) ≡ map without_part (of_role precondition ys) →
    map without_part (of_role addition xs) ≡ map without_part (of_role addition ys) →
    map without_part (of_role deletion xs) ≡ map without_part (of_role deletion ys) →
    map without_part xs ≡ map without_part ys
roles-tell xs ys h k pre add del =
    spread xs h ∙ (ap₂ joint pre (ap₂ joint add del) ∙ sym (spread ys k))
  where
    joint : List Atom → List Atom → List Atom
    joint bs cs = bs ++ cs

    spread : (atoms : List Atom) → roles_ascend atoms ≡ true →
        map without_part atoms ≡
        map without_part (of_role precondition atoms) ++
        (map without_part (of_role addition atoms) ++ map without_part (of_role deletion atoms))
    spread atoms h = ap (map without_part) (by-roles atoms h) ∙ simp map-append

-- clearing parts changes no role
pub role-without : (r : ℕ) (atoms : List Atom) → of_role r (map without_part atoms) ≡ map without_part (of_role r atoms)
unfolding of_role filter without_part
role-without r [] = refl
role-without r (a ∷ atoms) = go (eqb r a.role) (role-without r atoms)
  where
    go : (b : Bool) → of_role r (map without_part atoms) ≡ map without_part (of_role r atoms) →
        keep_if b (without_part a) (of_role r (map without_part atoms)) ≡ map without_part (keep_if b a (of_role r atoms))
    go true e = ap {B = List Atom} (λ bs. without_part a ∷ bs) e
    go false e = e
