-- Note 1 of document 02: "a writer of a domain and a problem in the STRIPS fragment, without partitions", with note 4:
-- "The PDDL writer states each pair as a `(not (= ..))` precondition after the atoms".
-- All is made of bracketed lists, so that "One space parts neighbours, none stands just inside a bracket" is said once.
use Rattle.std.specs.Prelude.{ℕ, suc, cond, List, [], ◌∷◌, ◌++◌, map, eqb}
use Prim.Native.Char.{code}
use Prim.Native.String.{String}
use Rattle.words.specs.Lists.{sum, up_to, concat_map}
use Rattle.task.specs.Task.{Atom, Fact, Pair, Schema, Task, precondition, addition, deletion, schema_pairs}
use Rattle.task.specs.Run.{of_role}
use Rattle.text.specs.Lines.{bytes, digits, newline}

-- ---- brackets
abbrev pub space : ℕ
space = code " "

abbrev pub opening : ℕ
opening = code "("

abbrev pub closing : ℕ
closing = code ")"

-- items that follow another, each behind a space
unfoldable pub following : List (List ℕ) → List ℕ
unfolding concat_map
following items = concat_map (λ item. space ∷ item) items

-- "One space parts neighbours"
unfoldable pub neighbours : List (List ℕ) → List ℕ
unfolding following
neighbours [] = []
neighbours (item ∷ items) = item ++ following items

-- ".., none stands just inside a bracket"
unfoldable pub bracket : List (List ℕ) → List ℕ
unfolding neighbours
bracket items = opening ∷ (neighbours items ++ (closing ∷ []))

-- ---- names
-- "objects o0, o1 and on, predicates p0 and on, schemas a0 and on, parameters ?x0 and on": what stands before a number
abbrev pub object : String
object = "o"

abbrev pub predicate : String
predicate = "p"

abbrev pub schema : String
schema = "a"

abbrev pub parameter : String
parameter = "?x"

-- the name of number n
unfoldable pub named : String → ℕ → List ℕ
unfolding bytes digits
named kind n = bytes kind ++ digits n

-- the names of all n of a kind
unfoldable pub names_up_to : String → ℕ → List (List ℕ)
unfolding named up_to
names_up_to kind n = map (named kind) (up_to n)

-- the items of things that are numbered "in table order", from i on
unfoldable pub numbered : {A : Type 0} → (ℕ → A → List ℕ) → ℕ → List A → List (List ℕ)
numbered item i [] = []
numbered item i (x ∷ xs) = item i x ∷ numbered item (suc i) xs

-- ---- atoms
-- a predicate and its arguments; a bare one is `(p0)`
unfoldable pub atomic_formula : String → ℕ → List ℕ → List ℕ
unfolding bracket named
atomic_formula kind p args = bracket (named predicate p ∷ map (named kind) args)

-- "`(p0 ?x0)`": a predicate of an arity
unfoldable pub predicate_text : ℕ → ℕ → List ℕ
unfolding atomic_formula up_to
predicate_text p arity = atomic_formula parameter p (up_to arity)

-- an atom of a schema, over parameters
unfoldable pub schema_atom_text : Atom → List ℕ
unfolding atomic_formula
schema_atom_text a = atomic_formula parameter a.pred a.args

-- an initial or a goal atom, over objects
unfoldable pub fact_text : Fact → List ℕ
unfolding atomic_formula
fact_text f = atomic_formula object f.pred f.args

-- "`(not (..))`"
unfoldable pub negated : List ℕ → List ℕ
unfolding bracket bytes
negated item = bracket (bytes "not" ∷ item ∷ [])

-- "`(and ..)`"
unfoldable pub conjunction : List (List ℕ) → List ℕ
unfolding bracket bytes
conjunction items = bracket (bytes "and" ∷ items)

-- ---- schemas
-- "`(not (= ..))`": the parameters of a pair, the lower first
unfoldable pub equality : Pair → List ℕ
unfolding bracket bytes named
equality q = bracket (bytes "=" ∷ named parameter q.lower ∷ named parameter q.higher ∷ [])

unfoldable pub pair_text : Pair → List ℕ
unfolding negated equality
pair_text q = negated (equality q)

-- the precondition atoms, and "after the atoms" the pairs
unfoldable pub preconditions : Schema → List (List ℕ)
unfolding schema_atom_text pair_text of_role
preconditions s = map schema_atom_text (of_role precondition s.atoms) ++ map pair_text s.pairs

-- adds, then deletes, one `(not (..))` each
unfoldable pub effects : Schema → List (List ℕ)
unfolding schema_atom_text negated of_role
effects s =
    map schema_atom_text (of_role addition s.atoms) ++
    map (λ a. negated (schema_atom_text a)) (of_role deletion s.atoms)

-- "`(:action a0 :parameters (..) :precondition (and ..) :effect (and .. (not (..))))`"
unfoldable pub action_text : ℕ → Schema → List ℕ
unfolding bracket bytes named names_up_to conjunction preconditions effects
action_text k s = bracket
    (bytes ":action" ∷ named schema k ∷
    bytes ":parameters" ∷ bracket (names_up_to parameter s.params) ∷
    bytes ":precondition" ∷ conjunction (preconditions s) ∷
    bytes ":effect" ∷ conjunction (effects s) ∷ [])

-- ---- the two defines
-- "with any pair `(:requirements :strips :equality :negative-preconditions)` before the predicates"
unfoldable pub needs_text : List ℕ
unfolding bracket bytes
needs_text = bracket
    (bytes ":requirements" ∷ bytes ":strips" ∷ bytes ":equality" ∷ bytes ":negative-preconditions" ∷ [])

unfoldable pub requirements : ℕ → List (List ℕ)
unfolding needs_text
requirements pairs = cond (eqb pairs 0) [] (needs_text ∷ [])

-- "`(define (domain d) (:predicates (p0 ?x0) ..) (:action ..) ..)`"
unfoldable pub domain_text : Task → List ℕ
unfolding bracket bytes requirements sum numbered predicate_text action_text
domain_text t = bracket
    (bytes "define" ∷
    bracket (bytes "domain" ∷ bytes "d" ∷ []) ∷
    (requirements (schema_pairs t.schemas) ++
    (bracket (bytes ":predicates" ∷ numbered predicate_text 0 t.arities) ∷
    numbered action_text 0 t.schemas)))

-- "`(define (problem q) (:domain d) (:objects o0 ..) (:init ..) (:goal (and ..)))`"
unfoldable pub problem_text : Task → List ℕ
unfolding bracket bytes names_up_to fact_text conjunction
problem_text t = bracket
    (bytes "define" ∷
    bracket (bytes "problem" ∷ bytes "q" ∷ []) ∷
    bracket (bytes ":domain" ∷ bytes "d" ∷ []) ∷
    bracket (bytes ":objects" ∷ names_up_to object t.objects) ∷
    bracket (bytes ":init" ∷ map fact_text t.init) ∷
    bracket (bytes ":goal" ∷ conjunction (map fact_text t.goal) ∷ []) ∷ [])

-- ".. and then ..": "byte 10 follows each define"
unfoldable pub pddl : Task → List ℕ
unfolding domain_text problem_text
pddl t = domain_text t ++ (newline ∷ (problem_text t ++ (newline ∷ [])))
