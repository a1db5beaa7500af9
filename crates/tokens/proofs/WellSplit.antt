-- The split of a well-formed task is well formed just where it is within the limits, so 10 is given exactly when the
-- split passes one of them. Every other test holds of every split: a part's schema fits (`part-fits`), and procnone,
-- higher than every old predicate, keeps initial and goal atoms ascending.
use Prim.Native.Nat.{ℕ, ◌<◌}
use mathlib.Core.Path.{◌≡◌, sym, ◌∙◌, subst}
use mathlib.Core.Bool.{true}
use mathlib.Core.List.{List, [], ◌∷◌, ◌++◌, map}
use mathlib.Core.Logic.{◌⊎◌, inl, inr}
use native.Mathlib.Omega.{arith}
use lib.ListN.{length, replicate}
use lib.Dec.{leb}
use borrow.Author.Tests.{le-leb}
use Rattle.words.specs.Lists.{all, up_to}
use Rattle.task.specs.Task.{Fact, Schema, Task, args_fit, facts_fit, schema_fits, schema_atoms, schema_pairs, well_formed}
use Rattle.task.specs.Task.{no_schema}
use Rattle.task.specs.Limits.{most_predicates, most_schemas, most_schema_atoms, most_atoms, most_initial, most_goal, most_arity}
use Rattle.task.specs.Limits.{most_pairs}
use Rattle.task.specs.Run.{schema_at}
use Rattle.tokens.specs.Split.{parts, later_parts, par_count, procnone, orders, free, split_schema, split_task}
use Rattle.tokens.specs.Split.{limit_tests, within_limits, split_as, split}
use Rattle.words.proofs.Lists.{and_both, bool-ext, every-at, met-none, met-more, met_every, In, here, there, in-empty}
use Rattle.words.proofs.Lists.{in-append, all_in, in_all, map-in, in-get_or, up_to-in, concat_map-in, replicate-in}
use Rattle.task.proofs.Tests.{TaskTests, task-tests, tests-task, schema-tests}
use Rattle.task.proofs.States.{asc-snoc, asc-ascending, Fitting, fitting-args_fit, State, facts_fit-state, less-pred}
use Rattle.arcs.proofs.OrderTaken.{order_of-laws}
use Rattle.tokens.proofs.Accepted.{Ordered, split-is, split-within, split-orders}
use Rattle.tokens.proofs.Predicates.{predicate-count, old-arity, bare-arity}
use Rattle.tokens.proofs.PartRoles.{PartOf}
use Rattle.tokens.proofs.PartSchemas.{part-fits}

-- ---- the limits, by name
pub record Within (t : Task) : Type 0 where
  pub preds : leb (length t.arities) most_predicates ≡ true
  pub schemas : leb (length t.schemas) most_schemas ≡ true
  pub atoms : leb (schema_atoms t.schemas) most_schema_atoms ≡ true
  pub few : all (λ s. leb (length s.atoms) most_atoms) t.schemas ≡ true
  pub inits : leb (length t.init) most_initial ≡ true
  pub goals : leb (length t.goal) most_goal ≡ true
  pub pairs : leb (schema_pairs t.schemas) most_pairs ≡ true

pub within : (t : Task) → within_limits t ≡ true → Within t
unfolding within_limits
within t h =
    let at = every-at (limit_tests t) h in
    record { preds = at 0; schemas = at 1; atoms = at 2; few = at 3; inits = at 4; goals = at 5; pairs = at 6 }

pub limits : (t : Task) → Within t → within_limits t ≡ true
unfolding within_limits
limits t c =
    met_every {bs = limit_tests t}
    (met-more c.preds (met-more c.schemas (met-more c.atoms (met-more c.few (met-more c.inits
    (met-more c.goals (met-more c.pairs met-none)))))))

-- a well-formed task is within the limits
pub well-within : (t : Task) → well_formed t ≡ true → Within t
well-within t h =
    let c = task-tests t h in
    record {
      preds = c.preds;
      schemas = c.schemas;
      atoms = c.atoms;
      few = in_all (λ s. leb (length s.atoms) most_atoms) t.schemas
          (λ s i. (schema-tests t.arities s (all_in (schema_fits t.arities) c.fit i)).few);
      inits = c.inits;
      goals = c.goals;
      pairs = c.pairs;
    }

-- ---- arities, and the facts that gain procnone
arities-small : (t : Task) → all (λ n. leb n most_arity) t.arities ≡ true →
    all (λ n. leb n most_arity) (split_task t).arities ≡ true
unfolding split_task
arities-small t h = in_all (λ n. leb n most_arity) (split_task t).arities (λ n i. go n (in-append t.arities i))
  where
    dos : List ℕ
    dos = replicate (later_parts t.schemas) 0

    ones : List ℕ
    ones = replicate (par_count t) 1

    new : (n : ℕ) → In n dos ⊎ In n ones → leb n most_arity ≡ true
    new n (inl i) = let e = replicate-in (later_parts t.schemas) 0 n i in le-leb n most_arity (omega arith)
    new n (inr i) = let e = replicate-in (par_count t) 1 n i in le-leb n most_arity (omega arith)

    go : (n : ℕ) → In n t.arities ⊎ In n (0 ∷ (dos ++ ones)) → leb n most_arity ≡ true
    go n (inl i) = all_in (λ n. leb n most_arity) h i
    go n (inr (here e)) = le-leb n most_arity (omega arith)
    go n (inr (there i)) = new n (in-append dos i)

-- "Initial and goal atoms gain procnone", and so may every state
pub facts-with-free : (t : Task) (fs : List Fact) → facts_fit t.objects t.arities fs ≡ true →
    facts_fit t.objects (split_task t).arities (fs ++ (free t ∷ [])) ≡ true
unfolding facts_fit free procnone
facts-with-free t fs h =
    and_both _ _
    (in_all (λ f. args_fit (split_task t).arities t.objects f.pred f.args) (fs ++ (free t ∷ []))
    (λ f i. fitting-args_fit t.objects (split_task t).arities f.pred f.args (go f (in-append fs i))))
    (asc-ascending (fs ++ (free t ∷ []))
    (asc-snoc (free t) st.asc (λ g i. less-pred g (free t) (st.fit g i).known)))
  where
    st : State t fs
    st = facts_fit-state t fs h

    go : (f : Fact) → In f fs ⊎ In f (free t ∷ []) → Fitting t.objects (split_task t).arities f.pred f.args
    go f (inl i) = let k = st.fit f i in record {
      known = omega (arith, predicate-count t, k.known);
      count = k.count ∙ sym (old-arity t f.pred k.known);
      small = k.small;
    }
    go f (inr (there x4)) = elim x4 [ ]
    go f (inr (here e)) = rw e (record {
      known = omega (arith, predicate-count t);
      count = sym (bare-arity t (procnone t) (omega arith) (omega arith));
      small = λ x n. absurd (in-empty n);
    })

-- ---- the tests of the split
-- each schema is that of a part
pub schema-of-part : (t : Task) (u : Schema) → In u (split_task t).schemas →
    (s : ℕ) × (j : ℕ) × (s < length t.schemas) × (j < length (orders t s)) × (u ≡ split_schema t s (orders t s) j)
unfolding split_task
schema-of-part t u i =
    let part_schemas : ℕ → List Schema = λ s. map (split_schema t s (orders t s)) (up_to (length (orders t s))) in
    let (s, k, m) = concat_map-in part_schemas (up_to (length t.schemas)) u i in
    let (j, n, e) = map-in (split_schema t s (orders t s)) (up_to (length (orders t s))) u m in
    (s, j, up_to-in (length t.schemas) s k, up_to-in (length (orders t s)) j n, e)

module _ (t : Task) (well : well_formed t ≡ true) (ordered : Ordered t) where
  abbrev tests : TaskTests t
  tests = task-tests t well

  pub part_of : (s j : ℕ) → s < length t.schemas → j < length (orders t s) → PartOf t s (orders t s) j
  unfolding schema_at parts
  part_of s j l h = record {
    known = l;
    fits = all_in (schema_fits t.arities) tests.fit (in-get_or t.schemas s no_schema l);
    order = order_of-laws (schema_at t s) (orders t s) (ordered s l);
    inside = h;
  }

  schemas-fit : all (λ s. leb (length s.atoms) most_atoms) (split_task t).schemas ≡ true →
      all (schema_fits (split_task t).arities) (split_task t).schemas ≡ true
  schemas-fit few = in_all (schema_fits (split_task t).arities) (split_task t).schemas (λ u i.
      let (s, j, l, h, e) = schema-of-part t u i in
      let k = all_in (λ s. leb (length s.atoms) most_atoms) few i in
      subst (λ u. schema_fits (split_task t).arities u ≡ true) (sym e)
      (part-fits t s (orders t s) j (part_of s j l h) (subst (λ u. leb (length u.atoms) most_atoms ≡ true) e k)))

  pub within-well : Within (split_task t) → well_formed (split_task t) ≡ true
  unfolding split_task
  within-well c = tests-task (split_task t) (record {
    some-object = tests.some-object;
    objects = tests.objects;
    some-pred = le-leb 1 (length (split_task t).arities) (omega (arith, predicate-count t));
    preds = c.preds;
    arities = arities-small t tests.arities;
    schemas = c.schemas;
    atoms = c.atoms;
    inits = c.inits;
    goals = c.goals;
    fit = schemas-fit c.few;
    init = facts-with-free t t.init tests.init;
    goal = facts-with-free t t.goal tests.goal;
    pairs = c.pairs;
  })

  -- 10 is given exactly when the split passes a limit
  pub limits-only : well_formed (split_task t) ≡ within_limits (split_task t)
  limits-only =
      bool-ext (well_formed (split_task t)) (within_limits (split_task t))
      (λ h. limits (split_task t) (well-within (split_task t) h))
      (λ h. within-well (within (split_task t) h))

-- a given split is well formed
pub split-well : (t t' : Task) → well_formed t ≡ true → split t ≡ split_as t' → well_formed t' ≡ true
split-well t t' w h =
    subst (λ u. well_formed u ≡ true) (sym (split-is t t' h))
    (within-well t w (split-orders t t' h)
    (within (split_task t) (subst (λ u. within_limits u ≡ true) (split-is t t' h) (split-within t t' h))))
