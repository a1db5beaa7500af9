-- The text tells the task but for its partitions, and does not depend on them: a define is an item that ends at its
-- byte 10, so the text tells the two defines, each of them its items, and so on down to the names. Numbers of a
-- well-formed task have at most five digits, and its roles ascend.
use Prim.Native.Nat.{ℕ, suc, ◌≤◌}
use Prim.Native.Char.{code}
use mathlib.Core.Path.{◌≡◌, refl, sym, ◌∙◌, ap, ap₂}
use mathlib.Core.Bool.{Bool, true, false, cond}
use mathlib.Core.List.{List, [], ◌∷◌, ◌++◌, map}
use native.Mathlib.Omega.{arith}
use lib.ListN.{length}
use lib.Dec.{eqb}
use borrow.Author.Tests.{leb-true}
use Rattle.words.proofs.Lists.{In, all_in}
use Rattle.task.specs.Limits.{most_objects, most_predicates, most_parameters}
use Rattle.task.specs.Task.{Fact, Schema, Task, args_fit, pair_fits, schema_fits, schema_pairs, well_formed}
use Rattle.task.proofs.States.{Fitting, args_fit-fitting, facts_fit-state, pair_fits-fits}
use Rattle.task.proofs.Tests.{schema-tests, task-tests}
use Rattle.text.specs.Lines.{bytes, newline}
use Rattle.defines.specs.Pddl.{object, bracket, names_up_to, numbered, predicate_text, fact_text, conjunction}
use Rattle.defines.specs.Pddl.{needs_text, requirements, action_text, domain_text, problem_text, pddl}
use Rattle.defines.specs.Parts.{undivided, without_parts}
use Rattle.defines.proofs.Items.{Item, Items, none, more, bracket-same, line-ends, item-same, items-append}
use Rattle.defines.proofs.Items.{items-numbered}
use Rattle.defines.proofs.Told.{numbered-tells, list-told}
use Rattle.defines.proofs.NamesTold.{is_word, behind-word, headed-item, headed-same, names-items, names_same}
use Rattle.defines.proofs.AtomsTold.{Writable, predicate-item, predicate-same, facts-items, facts-same}
use Rattle.defines.proofs.AtomsTold.{conjunction-item, conjunction-same}
use Rattle.defines.proofs.ActionsTold.{Tame, action-item, action-same, action-without}
use Rattle.defines.proofs.PartsCleared.{pairs-without}

-- ---- the numbers of a well-formed task
fitting-writable : {bound p : ℕ} {arities args : List ℕ} → bound ≤ most_objects → length arities ≤ most_predicates →
    Fitting bound arities p args → Writable p args
fitting-writable low few c = record {
  pred = let l = c.known in omega arith;
  args = λ x i. let l = c.small x i in omega arith;
}

record TameTask (t : Task) : Type 0 where
  schema : (s : Schema) → In s t.schemas → Tame s
  init : (f : Fact) → In f t.init → Writable f.pred f.args
  goal : (f : Fact) → In f t.goal → Writable f.pred f.args

tame : (t : Task) → well_formed t ≡ true → TameTask t
tame t h =
    let c = task-tests t h in
    let low = leb-true t.objects most_objects c.objects in
    let few = leb-true (length t.arities) most_predicates c.preds in
    record {
      schema = λ s i.
          let z = schema-tests t.arities s (all_in (schema_fits t.arities) c.fit i) in
          let slim = leb-true s.params most_parameters z.params in
          record {
            roles = z.roles;
            atoms = λ a j. fitting-writable {bound = s.params} (omega arith) few
                (args_fit-fitting s.params t.arities a.pred a.args
                (all_in (λ a. args_fit t.arities s.params a.pred a.args) z.fit j));
            pairs = λ q j.
                let fits = pair_fits-fits s.params q (all_in (pair_fits s.params) z.pairs j) in
                let low = fits.ascends in
                let high = fits.known in
                record { lower = omega arith; higher = omega arith };
          };
      init = λ f i. fitting-writable low few ((facts_fit-state t t.init c.init).fit f i);
      goal = λ f i. fitting-writable low few ((facts_fit-state t t.goal c.goal).fit f i);
    }

-- ---- the domain
abbrev domain_items : ℕ → List ℕ → List (List ℕ) → List (List ℕ)
domain_items pairs arities actions =
    bracket (bytes "domain" ∷ bytes "d" ∷ []) ∷
    (requirements pairs ++ (bracket (bytes ":predicates" ∷ numbered predicate_text 0 arities) ∷ actions))

predicates-items : (arities : List ℕ) → Items (numbered predicate_text 0 arities)
predicates-items arities = items-numbered predicate_text predicate-item 0 arities

needs-item : Item needs_text
unfolding needs_text is_word
needs-item =
    headed-item ":requirements" refl (behind-word ":strips" refl (behind-word ":equality" refl
    (behind-word ":negative-preconditions" refl none)))

needs-items : (pairs : ℕ) → Items (requirements pairs)
unfolding requirements
needs-items pairs = go (eqb pairs 0)
  where
    go : (b : Bool) → Items (cond b [] (needs_text ∷ []))
    go true = none
    go false = more needs-item none

-- the predicates are no requirements: their key begins with another letter
predicates-no-needs : (arities : List ℕ) →
    bracket (bytes ":predicates" ∷ numbered predicate_text 0 arities) ≡ needs_text → ⊥
unfolding needs_text is_word bytes
predicates-no-needs arities e =
    let same = bracket-same (behind-word ":predicates" refl (predicates-items arities))
    (behind-word ":requirements" refl (behind-word ":strips" refl (behind-word ":equality" refl
    (behind-word ":negative-preconditions" refl none)))) e in
    let first : bytes ":predicates" ≡ bytes ":requirements" = cc in
    let letter : code "p" ≡ code "r" = cc in
    omega arith

-- so what comes behind them is told
behind-needs : (m n : ℕ) {x y : List ℕ} {xs ys : List (List ℕ)} → (x ≡ needs_text → ⊥) → (y ≡ needs_text → ⊥) →
    requirements m ++ (x ∷ xs) ≡ requirements n ++ (y ∷ ys) → (x ≡ y) × (xs ≡ ys)
unfolding requirements
behind-needs m n {x} {y} {xs} {ys} h k = go (eqb m 0) (eqb n 0)
  where
    go : (b c : Bool) → cond b [] (needs_text ∷ []) ++ (x ∷ xs) ≡ cond c [] (needs_text ∷ []) ++ (y ∷ ys) →
        (x ≡ y) × (xs ≡ ys)
    go true true e = (cc, cc)
    go true false e = absurd (h (cc))
    go false true e = absurd (k (cc))
    go false false e = (cc, cc)

domain-items : (t : Task) →
    Items (domain_items (schema_pairs t.schemas) t.arities (numbered action_text 0 t.schemas))
unfolding is_word
domain-items t =
    more (headed-item "domain" refl (behind-word "d" refl none))
    (items-append (needs-items (schema_pairs t.schemas))
    (more (headed-item ":predicates" refl (predicates-items t.arities))
    (items-numbered action_text action-item 0 t.schemas)))

domain-item : (t : Task) → Item (domain_text t)
unfolding domain_text is_word
domain-item t = headed-item "define" refl (domain-items t)

domain-told : (t u : Task) → TameTask t → TameTask u → domain_text t ≡ domain_text u →
    (t.arities ≡ u.arities) × (map undivided t.schemas ≡ map undivided u.schemas)
unfolding domain_text is_word
domain-told t u h k e =
    let same = headed-same "define" refl (domain-items t) (domain-items u) e in
    let (named, actions) = behind-needs (schema_pairs t.schemas) (schema_pairs u.schemas)
    {xs = numbered action_text 0 t.schemas} {ys = numbered action_text 0 u.schemas}
    (predicates-no-needs t.arities) (predicates-no-needs u.arities) (cc) in
    let predicates = headed-same ":predicates" refl (predicates-items t.arities) (predicates-items u.arities)
    named in (
      list-told (numbered-tells predicate_text (λ (n : ℕ). n) 0 t.arities u.arities
          (λ p x y i j. predicate-same p x y) predicates),
      numbered-tells action_text undivided 0 t.schemas u.schemas
          (λ n x y i j. action-same x y (h.schema x i) (k.schema y j) n) actions,
    )

-- ---- the problem
problem-items : (t : Task) →
    Items (bracket (bytes "problem" ∷ bytes "q" ∷ []) ∷ bracket (bytes ":domain" ∷ bytes "d" ∷ []) ∷
    bracket (bytes ":objects" ∷ names_up_to object t.objects) ∷ bracket (bytes ":init" ∷ map fact_text t.init) ∷
    bracket (bytes ":goal" ∷ conjunction (map fact_text t.goal) ∷ []) ∷ [])
unfolding is_word
problem-items t =
    more (headed-item "problem" refl (behind-word "q" refl none))
    (more (headed-item ":domain" refl (behind-word "d" refl none))
    (more (headed-item ":objects" refl (names-items object refl t.objects))
    (more (headed-item ":init" refl (facts-items t.init))
    (more (headed-item ":goal" refl (more (conjunction-item (facts-items t.goal)) none)) none))))

problem-item : (t : Task) → Item (problem_text t)
unfolding problem_text is_word
problem-item t = headed-item "define" refl (problem-items t)

problem-told : (t u : Task) → TameTask t → TameTask u → problem_text t ≡ problem_text u →
    (t.objects ≡ u.objects) × (t.init ≡ u.init) × (t.goal ≡ u.goal)
unfolding problem_text is_word
problem-told t u h k e =
    let same = headed-same "define" refl (problem-items t) (problem-items u) e in
    let objects = headed-same ":objects" refl (names-items object refl t.objects)
    (names-items object refl u.objects) (cc) in
    let init = headed-same ":init" refl (facts-items t.init) (facts-items u.init) (cc) in
    let conjunctions = headed-same ":goal" refl (more (conjunction-item (facts-items t.goal)) none)
    (more (conjunction-item (facts-items u.goal)) none) (cc) in
    let goal = conjunction-same (facts-items t.goal) (facts-items u.goal) (cc) in (
      names_same object t.objects u.objects objects,
      facts-same t.init u.init h.init k.init init,
      facts-same t.goal u.goal h.goal k.goal goal,
    )

-- ---- the text
pub pddl-tells : (t u : Task) → well_formed t ≡ true → well_formed u ≡ true → pddl t ≡ pddl u →
    without_parts t ≡ without_parts u
unfolding pddl without_parts
pddl-tells t u h k e =
    let (domain, behind) = item-same (newline ∷ (problem_text t ++ (newline ∷ [])))
    (newline ∷ (problem_text u ++ (newline ∷ []))) (domain-item t) (domain-item u) (line-ends _) (line-ends _) e in
    let (problem, end) = item-same (newline ∷ []) (newline ∷ []) (problem-item t) (problem-item u) (line-ends [])
    (line-ends []) (cc) in
    let (arities, schemas) = domain-told t u (tame t h) (tame u k) domain in
    let (objects, init, goal) = problem-told t u (tame t h) (tame u k) problem in
    λ i. record { objects = objects i; arities = arities i; schemas = schemas i; init = init i; goal = goal i }

-- ---- the partitions do not matter
actions-without : (i : ℕ) (ss : List Schema) → numbered action_text i (map undivided ss) ≡ numbered action_text i ss
unfolding numbered
actions-without i [] = refl
actions-without i (s ∷ ss) =
    ap₂ (λ (x : List ℕ) (xs : List (List ℕ)). x ∷ xs) (action-without i s) (actions-without (suc i) ss)

pddl-without : (t : Task) → pddl (without_parts t) ≡ pddl t
unfolding pddl without_parts domain_text problem_text
pddl-without t =
    ap₂ (λ (pairs : ℕ) (actions : List (List ℕ)).
    bracket (bytes "define" ∷ domain_items pairs t.arities actions) ++ (newline ∷ (problem_text t ++ (newline ∷ []))))
    (pairs-without t.schemas) (actions-without 0 t.schemas)

-- so two tasks that differ in their partitions alone have one text
pub same-pddl : (t u : Task) → without_parts t ≡ without_parts u → pddl t ≡ pddl u
same-pddl t u e = sym (pddl-without t) ∙ (ap pddl e ∙ pddl-without u)
