-- The text as code puts it: fixed bytes, and between them the items that follow one another, each behind a space. What
-- stands in a bracket is followed by the bracket's end and by what stands behind that, so texts are read as items and
-- the rest behind them. How long a text is follows from its pieces.
use Prim.Native.Nat.{ℕ, ◌+◌, ◌-◌}
use Prim.Native.String.{String}
use mathlib.Core.Path.{◌≡◌, refl, sym, ◌∙◌, ap}
use mathlib.Core.List.{List, [], ◌∷◌, ◌++◌, map, append_assoc, append-nil}
use native.Mathlib.Omega.{arith}
use lib.ListN.{length, length-append}
use Rattle.words.specs.Lists.{concat_map}
use Rattle.words.proofs.Lists.{append-concat_map}
use Rattle.task.specs.Task.{Atom, Schema, Task, schema_pairs}
use Rattle.text.specs.Lines.{bytes, digits, newline}
use Rattle.defines.specs.Pddl.{space, opening, closing, object, parameter, following, neighbours, bracket, named}
use Rattle.defines.specs.Pddl.{names_up_to, numbered, atomic_formula, predicate_text, schema_atom_text, fact_text}
use Rattle.defines.specs.Pddl.{negated, conjunction, preconditions, effects, action_text, requirements}
use Rattle.defines.specs.Pddl.{domain_text, problem_text, pddl}

-- ---- items one behind another
pub following-append : (xs ys : List (List ℕ)) → following (xs ++ ys) ≡ following xs ++ following ys
unfolding following
following-append xs ys = append-concat_map (λ item. space ∷ item) xs ys

-- ---- items, and what comes behind them
record Onto (items : List (List ℕ)) (rest all : List ℕ) : Type 0 where
  is : following items ++ rest ≡ all

-- no more items, and items that are not looked into
nothing : {rest : List ℕ} → Onto [] rest rest
unfolding following concat_map
nothing = record { is = refl }

these : {items : List (List ℕ)} {rest : List ℕ} → Onto items rest (following items ++ rest)
these = record { is = refl }

-- items that are not looked into, then what follows them
items-then : {ys : List (List ℕ)} {rest z : List ℕ} (xs : List (List ℕ)) → Onto ys rest z →
    Onto (xs ++ ys) rest (following xs ++ z)
items-then {ys} {rest} xs e = record {
  is =
      ap (λ (zs : List ℕ). zs ++ rest) (following-append xs ys) ∙
      (append_assoc (following xs) (following ys) rest ∙ ap (λ (zs : List ℕ). following xs ++ zs) e.is);
}

-- a word, then what follows it
word-then : {xs : List (List ℕ)} {rest z : List ℕ} (x : List ℕ) → Onto xs rest z →
    Onto (x ∷ xs) rest (space ∷ (x ++ z))
unfolding following concat_map
word-then {xs} {rest} x e = record {
  is = ap {B = List ℕ} (λ y. space ∷ y) (append_assoc x (following xs) rest ∙ ap (λ (y : List ℕ). x ++ y) e.is);
}

-- a bracket of anything, then what follows it
names-then : {xs : List (List ℕ)} {rest z : List ℕ} (ys : List (List ℕ)) → Onto xs rest z →
    Onto (bracket ys ∷ xs) rest (space ∷ opening ∷ (neighbours ys ++ (closing ∷ z)))
unfolding bracket
names-then {z = z} ys e = record {
  is =
      (word-then (bracket ys) e).is ∙
      ap {B = List ℕ} (λ y. space ∷ opening ∷ y) (append_assoc (neighbours ys) (closing ∷ []) z);
}

-- a bracket that begins with a word, then what follows it
group-then : {xs ys : List (List ℕ)} {rest z u : List ℕ} (y : List ℕ) → Onto xs rest z → Onto ys (closing ∷ z) u →
    Onto (bracket (y ∷ ys) ∷ xs) rest (space ∷ opening ∷ (y ++ u))
unfolding neighbours
group-then {ys = ys} {z = z} y e f = record {
  is =
      (names-then (y ∷ ys) e).is ∙
      ap {B = List ℕ} (λ x. space ∷ opening ∷ x)
      (append_assoc y (following ys) (closing ∷ z) ∙ ap (λ (x : List ℕ). y ++ x) f.is);
}

-- a whole bracket
whole_is : {ys : List (List ℕ)} {rest u : List ℕ} (y : List ℕ) → Onto ys (closing ∷ rest) u →
    bracket (y ∷ ys) ++ rest ≡ opening ∷ (y ++ u)
unfolding bracket neighbours
whole_is {ys} {rest} y e =
    ap {B = List ℕ} (λ x. opening ∷ x)
    (append_assoc (y ++ following ys) (closing ∷ []) rest ∙
    (append_assoc y (following ys) (closing ∷ rest) ∙ ap (λ (x : List ℕ). y ++ x) e.is))

-- ---- an atom
pub atom-pieces : (kind : String) (p : ℕ) (args : List ℕ) →
    atomic_formula kind p args ≡ bytes "(p" ++ (digits p ++ (following (map (named kind) args) ++ bytes ")"))
unfolding atomic_formula bracket neighbours named bytes
atom-pieces kind p args = simp append_assoc

-- a delete
abbrev pub delete_text : Atom → List ℕ
delete_text a = negated (schema_atom_text a)

pub negated-pieces : (item : List ℕ) → negated item ≡ bytes "(not " ++ (item ++ bytes ")")
unfolding negated bracket neighbours following concat_map bytes
negated-pieces item = simp append_assoc

-- ---- an action
-- a name, names in a bracket, and two conjunctions
action-of : (name : List ℕ) (names pres effs : List (List ℕ)) →
    bracket (bytes ":action" ∷ (bytes "a" ++ name) ∷ bytes ":parameters" ∷ bracket names ∷
    bytes ":precondition" ∷ bracket (bytes "and" ∷ pres) ∷ bytes ":effect" ∷ bracket (bytes "and" ∷ effs) ∷ []) ++ [] ≡
    bytes "(:action a" ++ (name ++ (bytes " :parameters (" ++ (neighbours names ++
    (bytes ") :precondition (and" ++ (following pres ++ (bytes ") :effect (and" ++ (following effs ++ bytes "))")))))))
unfolding bytes
action-of name names pres effs =
    whole_is (bytes ":action") (word-then (bytes "a" ++ name) (word-then (bytes ":parameters") (names-then names
    (word-then (bytes ":precondition") (group-then (bytes "and") (word-then (bytes ":effect")
    (group-then (bytes "and") nothing these)) these)))))

pub action-pieces : (k : ℕ) (s : Schema) → action_text k s ≡
    bytes "(:action a" ++ (digits k ++ (bytes " :parameters (" ++ (neighbours (names_up_to parameter s.params) ++
    (bytes ") :precondition (and" ++ (following (preconditions s) ++
    (bytes ") :effect (and" ++ (following (effects s) ++ bytes "))")))))))
unfolding action_text conjunction named
action-pieces k s =
    sym (append-nil (action_text k s)) ∙
    action-of (digits k) (names_up_to parameter s.params) (preconditions s) (effects s)

-- ---- the two defines, each with its byte 10
-- requirements, predicates and actions
domain-of : (rs ps qs : List (List ℕ)) →
    bracket (bytes "define" ∷ bracket (bytes "domain" ∷ bytes "d" ∷ []) ∷
    (rs ++ (bracket (bytes ":predicates" ∷ ps) ∷ qs))) ++ (newline ∷ []) ≡
    bytes "(define (domain d)" ++ (following rs ++ (bytes " (:predicates" ++ (following ps ++
    (bytes ")" ++ (following qs ++ bytes ")\n")))))
unfolding bytes
domain-of rs ps qs =
    whole_is (bytes "define") (group-then (bytes "domain") (items-then rs
    (group-then (bytes ":predicates") these these)) (word-then (bytes "d") nothing))

pub domain-pieces : (t : Task) → domain_text t ++ (newline ∷ []) ≡
    bytes "(define (domain d)" ++ (following (requirements (schema_pairs t.schemas)) ++
    (bytes " (:predicates" ++ (following (numbered predicate_text 0 t.arities) ++
    (bytes ")" ++ (following (numbered action_text 0 t.schemas) ++ bytes ")\n")))))
unfolding domain_text
domain-pieces t =
    domain-of (requirements (schema_pairs t.schemas)) (numbered predicate_text 0 t.arities)
    (numbered action_text 0 t.schemas)

-- objects, initial and goal atoms
problem-of : (os is gs : List (List ℕ)) →
    bracket (bytes "define" ∷ bracket (bytes "problem" ∷ bytes "q" ∷ []) ∷
    bracket (bytes ":domain" ∷ bytes "d" ∷ []) ∷ bracket (bytes ":objects" ∷ os) ∷ bracket (bytes ":init" ∷ is) ∷
    bracket (bytes ":goal" ∷ bracket (bytes "and" ∷ gs) ∷ []) ∷ []) ++ (newline ∷ []) ≡
    bytes "(define (problem q) (:domain d) (:objects" ++ (following os ++
    (bytes ") (:init" ++ (following is ++ (bytes ") (:goal (and" ++ (following gs ++ bytes ")))\n")))))
unfolding bytes
problem-of os is gs =
    whole_is (bytes "define") (group-then (bytes "problem") (group-then (bytes ":domain") (group-then (bytes ":objects")
    (group-then (bytes ":init") (group-then (bytes ":goal") nothing (group-then (bytes "and") nothing
    these)) these) these) (word-then (bytes "d") nothing)) (word-then (bytes "q") nothing))

pub problem-pieces : (t : Task) → problem_text t ++ (newline ∷ []) ≡
    bytes "(define (problem q) (:domain d) (:objects" ++ (following (names_up_to object t.objects) ++
    (bytes ") (:init" ++ (following (map fact_text t.init) ++
    (bytes ") (:goal (and" ++ (following (map fact_text t.goal) ++ bytes ")))\n")))))
unfolding problem_text conjunction
problem-pieces t = problem-of (names_up_to object t.objects) (map fact_text t.init) (map fact_text t.goal)

-- one behind the other
pub pddl-pieces : (t : Task) → pddl t ≡ (domain_text t ++ (newline ∷ [])) ++ (problem_text t ++ (newline ∷ []))
unfolding pddl
pddl-pieces t = sym (append_assoc (domain_text t) (newline ∷ []) (problem_text t ++ (newline ∷ [])))

-- ---- how long they are
three-long : (xs ys zs : List ℕ) → length (xs ++ (ys ++ zs)) ≡ length xs + (length ys + length zs)
three-long xs ys zs = let a = length-append xs (ys ++ zs) in let b = length-append ys zs in omega arith

-- neighbours have no space before the first
pub neighbours-long : (items : List (List ℕ)) → length (neighbours items) ≡ length (following items) - 1
unfolding neighbours following concat_map
neighbours-long [] = refl
neighbours-long (item ∷ items) = omega arith

pub action-long : (k : ℕ) (s : Schema) → length (action_text k s) ≡
    60 + length (digits k) + length (neighbours (names_up_to parameter s.params)) +
    length (following (preconditions s)) + length (following (effects s))
unfolding bytes
action-long k s =
    let names = neighbours (names_up_to parameter s.params) in
    let pres = following (preconditions s) in
    let effs = following (effects s) in
    let behind = bytes ") :effect (and" ++ (effs ++ bytes "))") in
    let e = ap length (action-pieces k s) in
    let a = three-long (bytes "(:action a") (digits k)
    (bytes " :parameters (" ++ (names ++ (bytes ") :precondition (and" ++ (pres ++ behind)))) in
    let b = three-long (bytes " :parameters (") names (bytes ") :precondition (and" ++ (pres ++ behind)) in
    let c = three-long (bytes ") :precondition (and") pres behind in
    let d = three-long (bytes ") :effect (and") effs (bytes "))") in
    omega arith

pub pddl-long : (t : Task) → length (pddl t) ≡
    100 + length (following (requirements (schema_pairs t.schemas))) +
    length (following (numbered predicate_text 0 t.arities)) +
    length (following (numbered action_text 0 t.schemas)) + length (following (names_up_to object t.objects)) +
    length (following (map fact_text t.init)) + length (following (map fact_text t.goal))
unfolding bytes
pddl-long t =
    let required = following (requirements (schema_pairs t.schemas)) in
    let predicates = following (numbered predicate_text 0 t.arities) in
    let actions = following (numbered action_text 0 t.schemas) in
    let listed = bytes " (:predicates" ++ (predicates ++ (bytes ")" ++ (actions ++ bytes ")\n"))) in
    let objects = following (names_up_to object t.objects) in
    let inits = following (map fact_text t.init) in
    let goals = following (map fact_text t.goal) in
    let aims = bytes ") (:goal (and" ++ (goals ++ bytes ")))\n") in
    let e = ap length (pddl-pieces t) in
    let two = length-append (domain_text t ++ (newline ∷ [])) (problem_text t ++ (newline ∷ [])) in
    let domain = ap length (domain-pieces t) in
    let r = three-long (bytes "(define (domain d)") required listed in
    let a = three-long (bytes " (:predicates") predicates (bytes ")" ++ (actions ++ bytes ")\n")) in
    let b = three-long (bytes ")") actions (bytes ")\n") in
    let problem = ap length (problem-pieces t) in
    let c = three-long (bytes "(define (problem q) (:domain d) (:objects") objects
    (bytes ") (:init" ++ (inits ++ aims)) in
    let d = three-long (bytes ") (:init") inits aims in
    let f = three-long (bytes ") (:goal (and") goals (bytes ")))\n") in
    omega arith
