-- How long the text of a task can be, by its pieces. A number below 10 ^ d has at most d digits: predicates, schemas
-- and objects have three, parameters two, those in `:predicates` one. With four arguments at most, an atom takes 26
-- bytes, a delete 32, a pair 19, a predicate 22, a schema without its atoms and pairs 122; the limits on how many there
-- are bound the whole.
use Prim.Native.Nat.{ℕ, suc, ◌+◌, ◌*◌, ◌^◌, ◌≤◌, ◌<◌}
use Prim.Native.String.{String}
use mathlib.Core.Path.{◌≡◌, refl, ◌∙◌, ap}
use mathlib.Core.Bool.{true}
use mathlib.Core.List.{List, [], ◌∷◌, ◌++◌, map}
use native.Mathlib.Nat.{mul-suc, mul-add}
use native.Mathlib.Omega.{arith}
use lib.ListN.{length, length-append}
use lib.Dec.{leb}
use borrow.Author.Tests.{leb-true}
use Rattle.words.specs.Lists.{up_to, sum, concat_map}
use Rattle.words.proofs.Lists.{In, here, there, all_in}
use Rattle.task.specs.Limits.{most_objects, most_predicates, most_schemas, most_schema_atoms, most_initial, most_goal}
use Rattle.task.specs.Limits.{most_arity, most_parameters, most_pairs}
use Rattle.task.specs.Task.{Atom, Fact, Pair, Schema, Task, precondition, addition, deletion, args_fit, facts_fit}
use Rattle.task.specs.Task.{roles_ascend, pair_fits, schema_fits, schema_atoms, schema_pairs, well_formed}
use Rattle.task.specs.Table.{task_of, is_table}
use Rattle.task.specs.Run.{of_role}
use Rattle.task.proofs.Tests.{SchemaTests, schema-tests, fits, fact-tests, TaskTests, task-tests}
use Rattle.task.proofs.States.{args_fit-fitting, pair_fits-fits}
use Rattle.task.proofs.AtomsStand.{sized}
use Rattle.task.proofs.Tables.{of-table}
use Rattle.text.specs.Lines.{bytes}
use Rattle.text.proofs.DigitSteps.{digits-most}
use Rattle.text.proofs.Pieces.{pieces-map, pieces-most}
use Rattle.defines.specs.Pddl.{space, object, parameter, following, names_up_to, numbered, atomic_formula}
use Rattle.defines.specs.Pddl.{predicate_text, schema_atom_text, fact_text, negated, preconditions, effects}
use Rattle.defines.specs.Pddl.{pair_text, action_text, pddl}
use Rattle.defines.specs.ByWords.{longest_pddl}
use Rattle.defines.proofs.Pieces.{following-append, delete_text, negated-pieces, action-long, pddl-long}
use Rattle.defines.proofs.MarkedNames.{names-long, below-long}
use Rattle.defines.proofs.Formulas.{formula-most}
use Rattle.defines.proofs.AtomItems.{names_marked, formula-is}
use Rattle.defines.proofs.Frames.{parameters-few, predicate-long}
use Rattle.defines.proofs.PairItems.{both, apart-is, apart-long, two_digits, needs-said, needs-few}
use Rattle.defines.proofs.Roles.{has-role, by-roles}

-- ---- items
-- items that take at most so many bytes each, their spaces counted
following-most : {A : Type 0} (f : A → List ℕ) (most : ℕ) (xs : List A) → ((x : A) → In x xs → length (f x) < most) →
    length (following (map f xs)) ≤ most * length xs
unfolding following
following-most f most xs h =
    let e = ap length (pieces-map (λ item. space ∷ item) f xs) in
    let m = pieces-most (λ x. space ∷ f x) most xs h in
    omega arith

-- .. and numbered items that besides take bytes for each of two kinds of what they hold
numbered-most : {A : Type 0} (f : ℕ → A → List ℕ) (most more extra : ℕ) (held kept : A → ℕ) (i : ℕ) (xs : List A) →
    ((k : ℕ) → k < i + length xs → (x : A) → In x xs → length (f k x) < most + more * held x + extra * kept x) →
    length (following (numbered f i xs)) ≤ most * length xs + more * sum (map held xs) + extra * sum (map kept xs)
unfolding numbered following concat_map sum
numbered-most f most more extra held kept i [] h = omega arith
numbered-most f most more extra held kept i (x ∷ xs) h =
    let a = h i (omega arith) x (here refl) in
    let r = numbered-most f most more extra held kept (suc i) xs (λ k l y j. h k (omega arith) y (there j)) in
    let l = length-append (f i x) (following (numbered f (suc i) xs)) in
    let m = mul-suc most (length xs) in
    let d = mul-add more (held x) (sum (map held xs)) in
    let e = mul-add extra (kept x) (sum (map kept xs)) in
    omega arith

-- ---- a predicate, and a delete
predicate-most : (p : ℕ) → p < most_predicates → (arity : ℕ) → arity ≤ most_arity → length (predicate_text p arity) < 23
unfolding predicate_text bytes
predicate-most p known arity short =
    let e = ap length (formula-is parameter p (up_to arity)) in
    let l = predicate-long p arity in
    let n = digits-most 3 (omega arith) p (omega arith) in
    let b = below-long arity (omega arith) in
    omega arith

deleted-most : (item : List ℕ) → length item < 27 → length (negated item) < 33
unfolding bytes
deleted-most item h =
    let e = ap length (negated-pieces item) in
    let l = length-append item (bytes ")") in
    omega arith

-- a pair, its parameters of two digits each
pair-most : (q : Pair) → q.lower < 100 → q.higher < 100 → length (pair_text q) < 20
unfolding bytes
pair-most q low high =
    let e = ap length (apart-is q) in
    let l = apart-long (both q) in
    let a = digits-most 2 (omega arith) q.lower (omega arith) in
    let b = digits-most 2 (omega arith) q.higher (omega arith) in
    let c = two_digits q.lower q.higher in
    omega arith

-- ---- the atoms of a schema, of at most 26 bytes each, and its pairs, of at most 19
atoms-most : (s : Schema) → roles_ascend s.atoms ≡ true →
    ((a : Atom) → In a s.atoms → length (schema_atom_text a) < 27) →
    ((q : Pair) → In q s.pairs → length (pair_text q) < 20) →
    length (following (preconditions s)) + length (following (effects s)) ≤
    33 * length s.atoms + 20 * length s.pairs
unfolding preconditions effects
atoms-most s roles short slim =
    let of : ℕ → List Atom = λ r. of_role r s.atoms in
    let each : (r : ℕ) (a : Atom) → In a (of r) → length (schema_atom_text a) < 27 =
    λ r a i. short a (has-role r s.atoms a i).0 in
    let adds = map schema_atom_text (of addition) in
    let dels = map delete_text (of deletion) in
    let all = ap length (by-roles s.atoms roles) in
    let a₀ = length-append (of precondition) (of addition ++ of deletion) in
    let a₁ = length-append (of addition) (of deletion) in
    let pre = following-most schema_atom_text 27 (of precondition) (each precondition) in
    let add = following-most schema_atom_text 27 (of addition) (each addition) in
    let del = following-most delete_text 33 (of deletion) (λ a i. deleted-most (schema_atom_text a) (each deletion a i)) in
    let both = ap length (following-append adds dels) ∙ length-append (following adds) (following dels) in
    let tests = map schema_atom_text (of precondition) in
    let apart = map pair_text s.pairs in
    let pairs = following-most pair_text 20 s.pairs slim in
    let all-tests = ap length (following-append tests apart) ∙ length-append (following tests) (following apart) in
    omega arith

module _ (t : Task) (c : TaskTests t) where
  -- ---- atoms that fit
  fitting-most : (kind : String) (d : ℕ) → 1 ≤ d → (n : ℕ) → n ≤ 10 ^ d → (p : ℕ) (args : List ℕ) →
      args_fit t.arities n p args ≡ true →
      length (atomic_formula kind p args) ≤ 6 + (1 + length (bytes kind) + d) * most_arity
  fitting-most kind d some n few p args h =
      let preds = leb-true (length t.arities) most_predicates c.preds in
      let fit = args_fit-fitting n t.arities p args h in
      let known = fit.known in
      let e = ap length (formula-is kind p args) in
      let name = digits-most 3 (omega arith) p (omega arith) in
      let m = formula-most (space ∷ bytes kind) p args d (sized n t.arities p args c.arities h).short
      (λ x i. let l = fit.small x i in digits-most d some x (omega arith)) in
      omega arith

  atom-most : (s : Schema) → SchemaTests t.arities s → (a : Atom) → In a s.atoms → length (schema_atom_text a) < 27
  unfolding schema_atom_text bytes
  atom-most s q a i =
      let few = leb-true s.params most_parameters q.params in
      let m = fitting-most parameter 2 (omega arith) s.params (omega arith) a.pred a.args
      (all_in (λ a. args_fit t.arities s.params a.pred a.args) q.fit i) in
      omega arith

  fact-most : (fs : List Fact) → facts_fit t.objects t.arities fs ≡ true → (f : Fact) → In f fs →
      length (fact_text f) < 27
  unfolding fact_text bytes
  fact-most fs h f i =
      let few = leb-true t.objects most_objects c.objects in
      let m = fitting-most object 3 (omega arith) t.objects (omega arith) f.pred f.args
      (all_in (fits t.objects t.arities) (fact-tests t.objects t.arities fs h).fit i) in
      omega arith

  -- ---- a schema
  action-most : (k : ℕ) → k < most_schemas → (s : Schema) → schema_fits t.arities s ≡ true →
      length (action_text k s) < 123 + 33 * length s.atoms + 20 * length s.pairs
  unfolding bytes
  action-most k few s h =
      let q = schema-tests t.arities s h in
      let params = leb-true s.params most_parameters q.params in
      let l = action-long k s in
      let name = digits-most 3 (omega arith) k (omega arith) in
      let names = parameters-few s.params params in
      let atoms = atoms-most s q.roles (atom-most s q) (λ p i.
      let fits = pair_fits-fits s.params p (all_in (pair_fits s.params) q.pairs i) in
      let low = fits.ascends in
      let high = fits.known in
      pair-most p (omega arith) (omega arith)) in
      omega arith

  -- ---- all of a kind
  predicates-most : length (following (numbered predicate_text 0 t.arities)) ≤ 23 * length t.arities
  predicates-most =
      let preds = leb-true (length t.arities) most_predicates c.preds in
      let m = numbered-most predicate_text 23 0 0 (λ n. 0) (λ n. 0) 0 t.arities (λ p l n i.
      let arity = leb-true n most_arity (all_in (λ n. leb n most_arity) c.arities i) in
      let m = predicate-most p (omega arith) n arity in
      omega arith) in
      omega arith

  actions-most : length (following (numbered action_text 0 t.schemas)) ≤
      123 * length t.schemas + 33 * schema_atoms t.schemas + 20 * schema_pairs t.schemas
  actions-most =
      let many = leb-true (length t.schemas) most_schemas c.schemas in
      numbered-most action_text 123 33 20 (λ s. length s.atoms) (λ s. length s.pairs) 0 t.schemas
      (λ k l s i. action-most k (omega arith) s (all_in (schema_fits t.arities) c.fit i))

  objects-most : length (following (names_up_to object t.objects)) ≤ 5 * t.objects
  unfolding bytes
  objects-most =
      let e = ap length (names_marked object t.objects) in
      let l = names-long (bytes " o") t.objects in
      let b = below-long t.objects (leb-true t.objects most_objects c.objects) in
      omega arith

-- ---- the whole
pddl-most : (t : Task) → well_formed t ≡ true → length (pddl t) ≤ longest_pddl
unfolding longest_pddl
pddl-most t well =
    let c = task-tests t well in
    let long = pddl-long t in
    let n = ap length (needs-said (schema_pairs t.schemas)) in
    let r = needs-few (schema_pairs t.schemas) in
    let pairs = leb-true (schema_pairs t.schemas) most_pairs c.pairs in
    let p = predicates-most t c in
    let a = actions-most t c in
    let o = objects-most t c in
    let i = following-most fact_text 27 t.init (fact-most t c t.init c.init) in
    let g = following-most fact_text 27 t.goal (fact-most t c t.goal c.goal) in
    let objects = leb-true t.objects most_objects c.objects in
    let preds = leb-true (length t.arities) most_predicates c.preds in
    let many = leb-true (length t.schemas) most_schemas c.schemas in
    let atoms = leb-true (schema_atoms t.schemas) most_schema_atoms c.atoms in
    let first = leb-true (length t.init) most_initial c.inits in
    let last = leb-true (length t.goal) most_goal c.goals in
    omega arith

pub table-most : (w : List ℕ) → is_table w ≡ true → length (pddl (task_of w)) ≤ longest_pddl
table-most w h = pddl-most (task_of w) (of-table w h).0
