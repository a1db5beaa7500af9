-- Atoms in brackets are items, and tell their predicate and their arguments, as far as five digits hold the numbers;
-- and so do pairs.
use Prim.Native.Nat.{ℕ, ◌<◌}
use Prim.Native.Char.{code}
use Prim.Native.String.{String}
use mathlib.Core.Path.{◌≡◌, refl}
use mathlib.Core.Bool.{true}
use mathlib.Core.List.{List, [], ◌∷◌, map}
use native.Mathlib.Omega.{arith}
use Rattle.words.specs.Lists.{up_to}
use Rattle.words.proofs.Lists.{In}
use Rattle.task.specs.Task.{Atom, Fact, Pair}
use Rattle.task.proofs.States.{fact-path}
use Rattle.text.specs.Lines.{bytes}
use Rattle.defines.specs.Pddl.{parameter, object, predicate, named, atomic_formula, predicate_text, schema_atom_text}
use Rattle.defines.specs.Pddl.{fact_text, negated, conjunction, equality, pair_text}
use Rattle.defines.proofs.Items.{Item, Items, none, more, bracket-item, bracket-same, items_map}
use Rattle.defines.proofs.Told.{map-fixes, count-told}
use Rattle.defines.proofs.NamesTold.{is_word, behind-word, headed-item, headed-same, named-item, named-items}
use Rattle.defines.proofs.NamesTold.{named-same}

-- numbers that five digits hold
pub record Writable (p : ℕ) (xs : List ℕ) : Type 0 where
  pub pred : p < 100000
  pub args : (x : ℕ) → In x xs → x < 100000

-- ---- a predicate and its arguments
module _ (kind : String) (h : is_word kind ≡ true) where
  formula-items : (p : ℕ) (args : List ℕ) → Items (named predicate p ∷ map (named kind) args)
  unfolding is_word
  formula-items p args = more (named-item predicate refl p) (named-items kind h args)

  formula-item : (p : ℕ) (args : List ℕ) → Item (atomic_formula kind p args)
  unfolding atomic_formula
  formula-item p args = bracket-item (formula-items p args)

  names-told : (p q : ℕ) (xs ys : List ℕ) → atomic_formula kind p xs ≡ atomic_formula kind q ys →
      (named predicate p ≡ named predicate q) × (map (named kind) xs ≡ map (named kind) ys)
  unfolding atomic_formula
  names-told p q xs ys e = let same = bracket-same (formula-items p xs) (formula-items q ys) e in (cc, cc)

  formula-same : (p q : ℕ) (xs ys : List ℕ) → Writable p xs → Writable q ys →
      atomic_formula kind p xs ≡ atomic_formula kind q ys → (p ≡ q) × (xs ≡ ys)
  formula-same p q xs ys a b e =
      let (name, args) = names-told p q xs ys e in (
        named-same predicate p q a.pred b.pred name,
        map-fixes (named kind) xs ys (λ x y i j. named-same kind x y (a.args x i) (b.args y j)) args,
      )

-- ---- predicates, atoms of schemas, initial and goal atoms
pub predicate-item : (p arity : ℕ) → Item (predicate_text p arity)
unfolding predicate_text is_word
predicate-item p arity = formula-item parameter refl p (up_to arity)

pub predicate-same : (p m n : ℕ) → predicate_text p m ≡ predicate_text p n → m ≡ n
unfolding predicate_text is_word
predicate-same p m n e = count-told (named parameter) m n (names-told parameter refl p p (up_to m) (up_to n) e).1

pub atom-item : (a : Atom) → Item (schema_atom_text a)
unfolding schema_atom_text is_word
atom-item a = formula-item parameter refl a.pred a.args

pub atom-same : (a b : Atom) → Writable a.pred a.args → Writable b.pred b.args →
    schema_atom_text a ≡ schema_atom_text b → (a.pred ≡ b.pred) × (a.args ≡ b.args)
unfolding schema_atom_text is_word
atom-same a b h k e = formula-same parameter refl a.pred b.pred a.args b.args h k e

pub facts-items : (fs : List Fact) → Items (map fact_text fs)
unfolding fact_text is_word
facts-items fs = items_map fact_text (λ f. formula-item object refl f.pred f.args) fs

fact-same : (f g : Fact) → Writable f.pred f.args → Writable g.pred g.args → fact_text f ≡ fact_text g → f ≡ g
unfolding fact_text is_word
fact-same f g h k e =
    let (pred, args) = formula-same object refl f.pred g.pred f.args g.args h k e in fact-path pred args

pub facts-same : (fs gs : List Fact) → ((f : Fact) → In f fs → Writable f.pred f.args) →
    ((g : Fact) → In g gs → Writable g.pred g.args) → map fact_text fs ≡ map fact_text gs → fs ≡ gs
facts-same fs gs h k e = map-fixes fact_text fs gs (λ f g i j. fact-same f g (h f i) (k g j)) e

-- ---- `not` and `and`
pub negated-item : {x : List ℕ} → Item x → Item (negated x)
unfolding negated is_word
negated-item i = headed-item "not" refl (more i none)

pub negated-same : {x y : List ℕ} → Item x → Item y → negated x ≡ negated y → x ≡ y
unfolding negated is_word
negated-same {x} {y} i j e = let same = headed-same "not" refl (more i none) (more j none) e in cc

-- an atom is no negation: its first name begins with another letter
pub atom-not-negated : (a : Atom) {x : List ℕ} → Item x → schema_atom_text a ≡ negated x → ⊥
unfolding schema_atom_text atomic_formula negated is_word named bytes
atom-not-negated a {x} i e =
    let same = bracket-same (formula-items parameter refl a.pred a.args) (behind-word "not" refl (more i none)) e
    in
    let first : named predicate a.pred ≡ bytes "not" = cc in
    let letter : code "p" ≡ code "n" = cc in
    omega arith

pub conjunction-item : {xs : List (List ℕ)} → Items xs → Item (conjunction xs)
unfolding conjunction is_word
conjunction-item is = headed-item "and" refl is

pub conjunction-same : {xs ys : List (List ℕ)} → Items xs → Items ys → conjunction xs ≡ conjunction ys → xs ≡ ys
unfolding conjunction is_word
conjunction-same is js e = headed-same "and" refl is js e

-- ---- pairs
-- numbers that five digits hold
pub record WritablePair (q : Pair) : Type 0 where
  pub lower : q.lower < 100000
  pub higher : q.higher < 100000

equality-items : (q : Pair) → Items (named parameter q.lower ∷ named parameter q.higher ∷ [])
unfolding is_word
equality-items q = more (named-item parameter refl q.lower) (more (named-item parameter refl q.higher) none)

equality-item : (q : Pair) → Item (equality q)
unfolding equality is_word
equality-item q = headed-item "=" refl (equality-items q)

pub pair-item : (q : Pair) → Item (pair_text q)
unfolding pair_text
pair-item q = negated-item (equality-item q)

pub pair_same : (q r : Pair) → WritablePair q → WritablePair r → pair_text q ≡ pair_text r → q ≡ r
unfolding pair_text equality is_word
pair_same q r h k e =
    let same = headed-same "=" refl (equality-items q) (equality-items r)
    (negated-same (equality-item q) (equality-item r) e) in
    let lower = named-same parameter q.lower r.lower h.lower k.lower (cc) in
    let higher = named-same parameter q.higher r.higher h.higher k.higher (cc) in
    λ i. record { lower = lower i; higher = higher i }

pub atom-no-pair : (a : Atom) (q : Pair) → schema_atom_text a ≡ pair_text q → ⊥
unfolding pair_text
atom-no-pair a q e = atom-not-negated a (equality-item q) e
