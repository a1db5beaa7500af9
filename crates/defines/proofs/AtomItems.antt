-- Names and atoms by the words of a table are those of its task: a mark with its space and a number is a space and the
-- name, so what is put of an atom, its role deciding, is a space and the atom's text.
use Prim.Native.Nat.{ℕ, suc, ◌<◌}
use Prim.Native.String.{String}
use mathlib.Core.Path.{◌≡◌, refl, sym, ◌∙◌, ap}
use mathlib.Core.List.{List, [], ◌∷◌, ◌++◌, map}
use Rattle.words.specs.Lists.{up_to, up_from}
use Rattle.task.specs.Layout.{arity_in, atom_base}
use Rattle.task.specs.Task.{deletion}
use Rattle.task.specs.Table.{atom_in, fact_in}
use Rattle.text.specs.Lines.{bytes, digits}
use Rattle.text.proofs.Pieces.{pieces-map}
use Rattle.defines.specs.Pddl.{space, closing, object, parameter, following, neighbours, named, names_up_to}
use Rattle.defines.specs.Pddl.{atomic_formula, predicate_text, schema_atom_text, fact_text}
use Rattle.defines.specs.ByWords.{marked, formula, formula_at, item_at, item_in, predicate_in}
use Rattle.defines.proofs.Pieces.{atom-pieces, delete_text, negated-pieces}
use Rattle.defines.proofs.Formulas.{item-first, item-delete, item-other}

-- ---- names
pub marked-names : (kind : String) (ns : List ℕ) → marked (space ∷ bytes kind) ns ≡ following (map (named kind) ns)
unfolding marked following named
marked-names kind ns = sym (pieces-map (λ item. space ∷ item) (named kind) ns)

pub names_marked : (kind : String) (n : ℕ) → following (names_up_to kind n) ≡ marked (space ∷ bytes kind) (up_to n)
unfolding names_up_to
names_marked kind n = sym (marked-names kind (up_to n))

-- "none stands just inside a bracket": the first name has no space before it
pub no-neighbours : (kind : String) → neighbours (names_up_to kind 0) ≡ []
unfolding neighbours names_up_to up_to
no-neighbours kind = refl

pub first-neighbour : (kind : String) (n : ℕ) →
    neighbours (names_up_to kind (suc n)) ≡ named kind 0 ++ marked (space ∷ bytes kind) (up_from 1 n)
unfolding neighbours names_up_to up_to up_from
first-neighbour kind n = ap (λ (names : List ℕ). named kind 0 ++ names) (sym (marked-names kind (up_from 1 n)))

-- ---- predicates and their arguments
pub formula-is : (kind : String) (p : ℕ) (ns : List ℕ) →
    formula (space ∷ bytes kind) p ns ≡ space ∷ atomic_formula kind p ns
unfolding formula bytes
formula-is kind p ns =
    ap (λ (names : List ℕ). bytes " (p" ++ (digits p ++ (names ++ (closing ∷ [])))) (marked-names kind ns) ∙
    ap {B = List ℕ} (λ text. space ∷ text) (sym (atom-pieces kind p ns))

pub predicate-is : (w : List ℕ) (p : ℕ) → predicate_in w p ≡ space ∷ predicate_text p (arity_in w p)
unfolding predicate_in predicate_text bytes
predicate-is w p = formula-is parameter p (up_to (arity_in w p))

-- ---- the atoms of a table
over-parameters : (w : List ℕ) (i : ℕ) →
    formula_at (bytes " ?x") w (atom_base w i) ≡ space ∷ schema_atom_text (atom_in w i)
unfolding formula_at schema_atom_text atom_in bytes
over-parameters w i = formula-is parameter (atom_in w i).pred (atom_in w i).args

over-objects : (w : List ℕ) (i : ℕ) → formula_at (bytes " o") w (atom_base w i) ≡ space ∷ fact_text (fact_in w i)
unfolding formula_at fact_text fact_in atom_in bytes
over-objects w i = formula-is object (fact_in w i).pred (fact_in w i).args

-- preconditions and adds
pub item-plain : (w : List ℕ) (i : ℕ) → (atom_in w i).role < deletion → item_in w i ≡ space ∷ schema_atom_text (atom_in w i)
unfolding item_in
item-plain w i l = item-first w (atom_base w i) (atom_in w i).role l ∙ over-parameters w i

-- deletes
pub item-negated : (w : List ℕ) (i : ℕ) → (atom_in w i).role ≡ deletion →
    item_in w i ≡ space ∷ delete_text (atom_in w i)
unfolding item_in bytes
item-negated w i e =
    ap (λ (role : ℕ). item_at role w (atom_base w i)) e ∙
    (item-delete w (atom_base w i) ∙
    (ap (λ (item : List ℕ). bytes " (not" ++ (item ++ (closing ∷ []))) (over-parameters w i) ∙
    ap {B = List ℕ} (λ text. space ∷ text) (sym (negated-pieces (schema_atom_text (atom_in w i))))))

-- initial and goal atoms
pub item-fact : (w : List ℕ) (i : ℕ) → deletion < (atom_in w i).role → item_in w i ≡ space ∷ fact_text (fact_in w i)
unfolding item_in
item-fact w i l = item-other w (atom_base w i) (atom_in w i).role l ∙ over-objects w i
