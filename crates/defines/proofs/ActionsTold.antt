-- A schema's action is an item, tells the schema but for its partition, and does not depend on it: roles come in turn,
-- an add is no delete, and the text of an atom leaves out its part alone.
use Prim.Native.Nat.{ℕ}
use mathlib.Core.Path.{◌≡◌, refl, sym, ◌∙◌, ap, ap₂}
use mathlib.Core.Bool.{true}
use mathlib.Core.List.{List, [], ◌∷◌, ◌++◌, map}
use Rattle.words.proofs.Lists.{In, map-map, map_same}
use Rattle.task.specs.Task.{Atom, Pair, Schema, precondition, addition, deletion, roles_ascend}
use Rattle.task.specs.Run.{of_role}
use Rattle.text.specs.Lines.{bytes}
use Rattle.defines.specs.Pddl.{parameter, schema, bracket, named, names_up_to, schema_atom_text, negated, conjunction}
use Rattle.defines.specs.Pddl.{pair_text, preconditions, effects, action_text}
use Rattle.defines.specs.Parts.{without_part, undivided}
use Rattle.defines.proofs.Items.{Item, Items, none, more, bracket-item, bracket-same, items-append, items_map}
use Rattle.defines.proofs.Told.{map-tells, map-fixes, kinds-told}
use Rattle.defines.proofs.NamesTold.{is_word, behind-word, named-item, names-items, names_same}
use Rattle.defines.proofs.AtomsTold.{Writable, atom-item, atom-same, negated-item, negated-same}
use Rattle.defines.proofs.AtomsTold.{atom-not-negated, conjunction-item, conjunction-same, WritablePair}
use Rattle.defines.proofs.AtomsTold.{pair-item, pair_same, atom-no-pair}
use Rattle.defines.proofs.Pieces.{delete_text}
use Rattle.defines.proofs.Roles.{has-role, roles-tell, role-without}

-- ---- an action is an item
preconditions-items : (s : Schema) → Items (preconditions s)
unfolding preconditions
preconditions-items s =
    items-append (items_map schema_atom_text atom-item (of_role precondition s.atoms))
    (items_map pair_text pair-item s.pairs)

effects-items : (s : Schema) → Items (effects s)
unfolding effects
effects-items s =
    items-append (items_map schema_atom_text atom-item (of_role addition s.atoms))
    (items_map delete_text (λ a. negated-item (atom-item a)) (of_role deletion s.atoms))

action-items : (k : ℕ) (s : Schema) →
    Items (bytes ":action" ∷ named schema k ∷
    bytes ":parameters" ∷ bracket (names_up_to parameter s.params) ∷
    bytes ":precondition" ∷ conjunction (preconditions s) ∷
    bytes ":effect" ∷ conjunction (effects s) ∷ [])
unfolding is_word
action-items k s =
    behind-word ":action" refl (more (named-item schema refl k)
    (behind-word ":parameters" refl (more (bracket-item (names-items parameter refl s.params))
    (behind-word ":precondition" refl (more (conjunction-item (preconditions-items s))
    (behind-word ":effect" refl (more (conjunction-item (effects-items s)) none)))))))

pub action-item : (k : ℕ) (s : Schema) → Item (action_text k s)
unfolding action_text
action-item k s = bracket-item (action-items k s)

-- ---- what an action tells
-- what is asked of a schema: roles that ascend, and numbers that five digits hold, in atoms and in pairs
pub record Tame (s : Schema) : Type 0 where
  pub roles : roles_ascend s.atoms ≡ true
  pub atoms : (a : Atom) → In a s.atoms → Writable a.pred a.args
  pub pairs : (q : Pair) → In q s.pairs → WritablePair q

module _ (s u : Schema) (h : Tame s) (k : Tame u) where
  -- texts that tell an atom's text tell the atoms of a role, but for their parts
  role-told : (r : ℕ) (f : Atom → List ℕ) → ((a b : Atom) → f a ≡ f b → schema_atom_text a ≡ schema_atom_text b) →
      map f (of_role r s.atoms) ≡ map f (of_role r u.atoms) →
      map without_part (of_role r s.atoms) ≡ map without_part (of_role r u.atoms)
  unfolding without_part
  role-told r f tells = map-tells f without_part (of_role r s.atoms) (of_role r u.atoms) (λ a b i j e.
      let (m, x) = has-role r s.atoms a i in
      let (n, y) = has-role r u.atoms b j in
      let same = atom-same a b (h.atoms a m) (k.atoms b n) (tells a b e) in
      let role : a.role ≡ b.role = x ∙ sym y in
      let pred : a.pred ≡ b.pred = same.0 in
      let args : a.args ≡ b.args = same.1 in
      λ i. record { role = role i; pred = pred i; part = 0; args = args i })

  -- preconditions tell their atoms and the pairs: no atom is a pair
  tests-told : preconditions s ≡ preconditions u →
      (map schema_atom_text (of_role precondition s.atoms) ≡ map schema_atom_text (of_role precondition u.atoms)) ×
      (map pair_text s.pairs ≡ map pair_text u.pairs)
  unfolding preconditions
  tests-told e =
      kinds-told schema_atom_text pair_text atom-no-pair (of_role precondition s.atoms)
      (of_role precondition u.atoms) s.pairs u.pairs e

  pairs-told : preconditions s ≡ preconditions u → s.pairs ≡ u.pairs
  pairs-told e =
      map-fixes pair_text s.pairs u.pairs (λ q r i j. pair_same q r (h.pairs q i) (k.pairs r j))
      (tests-told e).1

  atoms-told : preconditions s ≡ preconditions u → effects s ≡ effects u →
      map without_part s.atoms ≡ map without_part u.atoms
  unfolding effects
  atoms-told e f =
      let (adds, deletes) = kinds-told schema_atom_text delete_text (λ a b. atom-not-negated a (atom-item b))
      (of_role addition s.atoms) (of_role addition u.atoms) (of_role deletion s.atoms)
      (of_role deletion u.atoms) f in
      roles-tell s.atoms u.atoms h.roles k.roles
      (role-told precondition schema_atom_text (λ a b q. q) (tests-told e).0)
      (role-told addition schema_atom_text (λ a b q. q) adds)
      (role-told deletion delete_text (λ a b q. negated-same (atom-item a) (atom-item b) q) deletes)

  pub action-same : (n : ℕ) → action_text n s ≡ action_text n u → undivided s ≡ undivided u
  unfolding action_text undivided is_word
  action-same n e =
      let same = bracket-same (action-items n s) (action-items n u) e in
      let names : names_up_to parameter s.params ≡ names_up_to parameter u.params =
      bracket-same (names-items parameter refl s.params) (names-items parameter refl u.params) (cc) in
      let params = names_same parameter s.params u.params names in
      let tests = conjunction-same (preconditions-items s) (preconditions-items u) (cc) in
      let pairs = pairs-told tests in
      let atoms = atoms-told tests (conjunction-same (effects-items s) (effects-items u) (cc)) in
      λ i. record { params = params i; pairs = pairs i; atoms = atoms i }

-- ---- the partition does not matter
role-without-text : (f : Atom → List ℕ) → ((a : Atom) → f (without_part a) ≡ f a) → (r : ℕ) (atoms : List Atom) →
    map f (of_role r (map without_part atoms)) ≡ map f (of_role r atoms)
role-without-text f h r atoms =
    ap (map f) (role-without r atoms) ∙
    (map-map f without_part (of_role r atoms) ∙
    map_same (λ a. f (without_part a)) f (of_role r atoms) (λ a i. h a))

atom-without : (a : Atom) → schema_atom_text (without_part a) ≡ schema_atom_text a
unfolding schema_atom_text without_part
atom-without a = refl

preconditions-without : (s : Schema) → preconditions (undivided s) ≡ preconditions s
unfolding preconditions undivided
preconditions-without s =
    ap (λ (xs : List (List ℕ)). xs ++ map pair_text s.pairs)
    (role-without-text schema_atom_text atom-without precondition s.atoms)

effects-without : (s : Schema) → effects (undivided s) ≡ effects s
unfolding effects undivided
effects-without s =
    ap₂ (λ (xs ys : List (List ℕ)). xs ++ ys)
    (role-without-text schema_atom_text atom-without addition s.atoms)
    (role-without-text delete_text (λ a. ap negated (atom-without a)) deletion s.atoms)

params-without : (s : Schema) → (undivided s).params ≡ s.params
unfolding undivided
params-without s = refl

pub action-without : (k : ℕ) (s : Schema) → action_text k (undivided s) ≡ action_text k s
unfolding action_text
action-without k s = rw (params-without s, preconditions-without s, effects-without s) refl
