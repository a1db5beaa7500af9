-- What a line adds to a draft that is known: an initial or a goal atom, a pair or an atom of a schema, the parts that
-- close it.
-- Each refusal that did not come is a test that holds of the longer list, so the grown draft is known again.
use Prim.Native.Nat.{ℕ, ◌+◌, ◌≤◌}
use mathlib.Core.Path.{◌≡◌, refl, sym, ◌∙◌, ap, ap₂}
use mathlib.Core.Bool.{Bool, true, not}
use mathlib.Core.List.{List, [], ◌∷◌, ◌++◌, append_assoc, map-map}
use native.Mathlib.Omega.{arith}
use lib.ListN.{length, length-append, length-map}
use lib.Dec.{eqb, ltb, leb}
use borrow.Author.Tests.{ltb-true, eqb-true, lt-ltb, le-leb}
use Rattle.words.specs.Lists.{all, any, sum}
use Rattle.task.specs.Limits.{most_pairs}
use Rattle.task.specs.Task.{facts_fit, Atom, Fact, Schema, Task, args_fit, same_atom, distinct, roles_ascend}
use Rattle.task.specs.Task.{schema_fits, all_named, no_gap, schema_atoms, schema_pairs, pair_fits, no_schema, with_pairs}
use Rattle.task.specs.Task.{with_atoms}
use Rattle.task.proofs.Tests.{SchemaTests, tests-schema, TaskTests}
use Rattle.text.specs.Lines.{Entry}
use Rattle.text.specs.Reading.{go_on}
use Rattle.text.specs.Text.{TaskTurn, Line, schema_line, differ_line, part_line, atom_line, init_line, goal_line}
use Rattle.text.specs.Text.{fact_entry, atom_entry, pair_list, schema_lines, Phase, between, in_differ, in_init, in_goal}
use Rattle.text.specs.Text.{role_phase, Draft, at_phase, with_schemas, with_init, with_goal, add_pair, add_atom}
use Rattle.text.specs.Text.{with_parts, close_schema, pair_follows, follows, add_fact}
use Rattle.text.specs.Holding.{pair_of}
use Rattle.text.proofs.Reading.{need-went}
use Rattle.text.proofs.Growing.{all_snoc, more_room, more-facts, last_role-snoc, roles-snoc, distinct_snoc}
use Rattle.text.proofs.Growing.{ascends-snoc, pairs-order}
use Rattle.text.proofs.Parts.{bare, all_map, roles-bare, distinct-bare, all_named_in, named-bare, parts_are}
use Rattle.text.proofs.Parts.{parts_same, below-count}
use Rattle.text.proofs.TaskWritten.{draft, atom_lines, pair_lines, schema_atoms-part, schema_pairs-part}
use Rattle.text.proofs.TaskDraft.{whole_of, opened, so_far, whole-goal, whole-init, whole-schema, opened-pair}
use Rattle.text.proofs.TaskDraft.{opened-atom, Open, Next, next, known-role, so_far-role}

-- ---- initial and goal atoms
abbrev pub fact_of : Entry → Fact
fact_of a = record { pred = a.head; args = a.list }

-- an atom that was added passed its tests
pub record FactAdded (t : Task) (most : ℕ) (fs : List Fact) (a : Entry)
    (grown : List Fact → Draft) (e : Draft) : Type 0 where
  pub room : leb (length (fs ++ (fact_of a ∷ []))) most ≡ true
  pub fits : facts_fit t.objects t.arities fs ≡ true →
      facts_fit t.objects t.arities (fs ++ (fact_of a ∷ [])) ≡ true
  pub is : ◌≡◌ {A = TaskTurn} (go_on (grown (fs ++ (fact_of a ∷ [])))) (go_on e)

pub fact-added : (t : Task) (most : ℕ) (fs : List Fact) (a : Entry) (grown : List Fact → Draft) (e : Draft) →
    add_fact t most fs a grown ≡ go_on e → FactAdded t most fs a grown e
unfolding add_fact
fact-added t most fs a grown e h =
    let (k₁, h₁) = need-went (ltb (length fs) most) 4 _ e h in
    let (k₂, h₂) = need-went (args_fit t.arities t.objects a.head a.list) 5 _ e h₁ in
    let (k₃, h₃) = need-went (follows fs (fact_of a)) 6 (go_on (grown (fs ++ (fact_of a ∷ [])))) e h₂ in
    record {
      room = more_room fs (fact_of a) most k₁;
      fits = λ fit. more-facts t.objects t.arities fs (fact_of a) fit k₂ k₃;
      is = h₃;
    }

-- the tests of a task with these initial and goal atoms
module _ (t : Task) (c : TaskTests t) where
  pub with-facts : (is gs : List Fact) → leb (length is) 500 ≡ true → leb (length gs) 100 ≡ true →
      facts_fit t.objects t.arities is ≡ true → facts_fit t.objects t.arities gs ≡ true →
      TaskTests (record { objects = t.objects; arities = t.arities; schemas = t.schemas; init = is; goal = gs })
  with-facts is gs few-is few-gs fit_is fit-gs = record {
    some-object = c.some-object;
    objects = c.objects;
    some-pred = c.some-pred;
    preds = c.preds;
    arities = c.arities;
    schemas = c.schemas;
    atoms = c.atoms;
    inits = few-is;
    goals = few-gs;
    fit = c.fit;
    init = fit_is;
    goal = fit-gs;
    pairs = c.pairs;
  }

  pub init-next : t.goal ≡ [] → (a : Entry) (e : Draft) →
      add_fact t 500 t.init a (λ fs. at_phase in_init (with_init t fs)) ≡ go_on e →
      Next e (whole_of t ++ (init_line a ∷ []))
  unfolding at_phase with_init so_far fact_entry
  init-next g a e h =
      let f = fact-added t 500 t.init a (λ fs. at_phase in_init (with_init t fs)) e h in
      let is = t.init ++ (fact_of a ∷ []) in
      let tests = with-facts is t.goal f.room c.goals (f.fits c.init) c.goal in
      next f.is (record { known = (tests, g); stands = whole-init t (fact_of a) g })

  pub goal-next : (a : Entry) (e : Draft) →
      add_fact t 100 t.goal a (λ fs. at_phase in_goal (with_goal t fs)) ≡ go_on e →
      Next e (whole_of t ++ (goal_line a ∷ []))
  unfolding at_phase with_goal so_far fact_entry
  goal-next a e h =
      let f = fact-added t 100 t.goal a (λ fs. at_phase in_goal (with_goal t fs)) e h in
      let gs = t.goal ++ (fact_of a ∷ []) in
      let tests = with-facts t.init gs c.inits f.room c.init (f.fits c.goal) in
      next f.is (record { known = tests; stands = whole-goal t (fact_of a) })

-- ---- pairs of a schema
-- two numbers are those of their pair
pub two-numbers : (ns : List ℕ) → length ns ≡ 2 → pair_list (pair_of ns) ≡ ns
two-numbers [] h = absurd (omega arith)
two-numbers (a ∷ []) h = absurd (omega arith)
two-numbers (a ∷ b ∷ []) h = refl
two-numbers (a ∷ b ∷ d ∷ ns) h = absurd (omega arith)

pub pair-next : (t : Task) (c : Schema) (ns : List ℕ) (e : Draft) → Open 0 t c → c.atoms ≡ [] →
    add_pair (draft in_differ t c) ns ≡ go_on e → Next e ((whole_of t ++ opened c) ++ (differ_line ns ∷ []))
unfolding add_pair so_far
pair-next t c ns e o none h =
    let q = pair_of ns in
    let s : Schema = with_pairs c (c.pairs ++ (q ∷ [])) in
    let (k₁, h₁) = need-went (eqb (length ns) 2) 3 _ e h in
    let (k₂, h₂) = need-went (ltb (schema_pairs t.schemas + length c.pairs) most_pairs) 21 _ e h₁ in
    let (k₃, h₃) = need-went (pair_fits c.params q) 19 _ e h₂ in
    let (k₄, h₄) = need-went (pair_follows c.pairs q) 19 (go_on (draft in_differ t s)) e h₃ in
    let total = ltb-true (schema_pairs t.schemas + length c.pairs) most_pairs k₂ in
    let z = length-append c.pairs (q ∷ []) in
    let open' : Open 0 t s = record {
      before = o.before;
      room = o.room;
      params = o.params;
      few = o.few;
      total = o.total;
      last = o.last;
      roles = o.roles;
      fit = o.fit;
      apart = o.apart;
      pairs-total = omega arith;
      pairs-fit = all_snoc (pair_fits c.params) c.pairs q o.pairs-fit k₃;
      pairs-order = ascends-snoc pairs-order c.pairs q o.pairs-order k₄;
    } in
    let lines : opened s ≡ opened c ++ (differ_line ns ∷ []) =
    opened-pair c q none ∙
    ap (λ (x : List ℕ). opened c ++ (differ_line x ∷ [])) (two-numbers ns (eqb-true (length ns) 2 k₁)) in
    next h₄ (record {
      known = (open', none);
      stands = ap (λ (ls : List Line). whole_of t ++ ls) lines ∙
          sym (append_assoc (whole_of t) (opened c) (differ_line ns ∷ []));
    })

-- ---- atoms of a schema
pub atom-next : (p : Phase) (t : Task) (c : Schema) (q r : ℕ) → q ≤ r → r ≤ 2 → (x : Entry) (e : Draft) → Open q t c →
    add_atom (draft p t c) r x ≡ go_on e → Next e ((whole_of t ++ opened c) ++ (atom_line r x ∷ []))
unfolding add_atom atom_entry
atom-next p t c q r l m x e o h =
    let a : Atom = record { role = r; pred = x.head; part = 0; args = x.list } in
    let s : Schema = with_atoms c (c.atoms ++ (a ∷ [])) in
    let (k₁, h₁) = need-went (ltb (length c.atoms) 64) 4 _ e h in
    let (k₂, h₂) = need-went (ltb (schema_atoms t.schemas + length c.atoms) 1000) 4 _ e h₁ in
    let (k₃, h₃) = need-went (args_fit t.arities c.params x.head x.list) 5 _ e h₂ in
    let (k₄, h₄) = need-went (not (any (same_atom a) c.atoms)) 6 (go_on (draft (role_phase r) t s)) e h₃ in
    let few = ltb-true (length c.atoms) 64 k₁ in
    let total = ltb-true (schema_atoms t.schemas + length c.atoms) 1000 k₂ in
    let z = length-append c.atoms (a ∷ []) in
    let last = o.last in
    let open' : Open r t s = record {
      before = o.before;
      room = o.room;
      params = o.params;
      few = omega arith;
      total = omega arith;
      last = let y = last_role-snoc c.atoms a in omega arith;
      roles = roles-snoc c.atoms a (record { front = o.roles; last = omega arith; small = m });
      fit = all_snoc (λ a. args_fit t.arities c.params a.pred a.args) c.atoms a o.fit k₃;
      apart = distinct_snoc c.atoms a o.apart k₄;
      pairs-total = o.pairs-total;
      pairs-fit = o.pairs-fit;
      pairs-order = o.pairs-order;
    } in
    next h₄ (record {
      known = known-role r m t s open';
      stands = so_far-role r t s ∙ (ap (λ (ls : List Line). whole_of t ++ ls) (opened-atom c a) ∙
          sym (append_assoc (whole_of t) (opened c) (atom_line r x ∷ [])));
    })

-- ---- a schema's parts
abbrev pub closed : Schema → List ℕ → Schema
closed c ps = with_atoms c (with_parts c.atoms ps)

pub closed-lines : (c : Schema) (ps : List ℕ) → length ps ≡ length c.atoms →
    schema_lines (closed c ps) ≡ opened c ++ (part_line ps ∷ [])
unfolding schema_lines opened atom_entry
closed-lines c ps l =
    ap₂ (λ (x : List Line) (y : List ℕ). schema_line c.params ∷ (pair_lines c.pairs ++ (x ++ (part_line y ∷ []))))
    (parts_same atom_lines (λ xs. map-map (λ a. atom_line a.role (atom_entry a)) bare xs) c.atoms ps l)
    (parts_are c.atoms ps l) ∙
    ap {B = List Line} (λ (ls : List Line). schema_line c.params ∷ ls)
    (sym (append_assoc (pair_lines c.pairs) (atom_lines c.atoms) (part_line ps ∷ [])))

module _ (t : Task) (c : Schema) (ps : List ℕ) (l : length ps ≡ length c.atoms) where
  pub length-closed : length (with_parts c.atoms ps) ≡ length c.atoms
  length-closed = parts_same length (λ xs. length-map xs bare) c.atoms ps l

  pub closed-fits : {r : ℕ} → Open r t c → leb 1 (length c.atoms) ≡ true → all_named_in c.params c.atoms ≡ true →
      all (λ p. ltb p 16) ps ≡ true → no_gap (with_parts c.atoms ps) ≡ true → SchemaTests t.arities (closed c ps)
  unfolding no_gap
  closed-fits o some named low full =
      let fit : Atom → Bool = λ a. args_fit t.arities c.params a.pred a.args in
      record {
        params = o.params;
        some-atom = rw length-closed some;
        few = rw length-closed (le-leb (length c.atoms) 64 o.few);
        roles = parts_same roles_ascend roles-bare c.atoms ps l ∙ o.roles;
        fit = parts_same (all fit) (λ xs. all_map fit bare xs) c.atoms ps l ∙ o.fit;
        apart = parts_same distinct distinct-bare c.atoms ps l ∙ o.apart;
        used = parts_same (all_named_in c.params) (named-bare c.params) c.atoms ps l ∙ named;
        parts = below-count 16 (with_parts c.atoms ps) (rw (parts_are c.atoms ps l) low);
        filled = full;
        pairs = o.pairs-fit;
        pairs-order = o.pairs-order;
      }

pub part-next : (p : Phase) (t : Task) (c : Schema) (r : ℕ) (ps : List ℕ) (e : Draft) → Open r t c →
    close_schema (draft p t c) ps ≡ go_on e → Next e ((whole_of t ++ opened c) ++ (part_line ps ∷ []))
unfolding close_schema at_phase with_schemas so_far all_named sum
part-next p t c r ps e o h =
    let s : Schema = closed c ps in
    let xs = with_parts c.atoms ps in
    let u : Task = with_schemas t (t.schemas ++ (s ∷ [])) in
    let (k₁, h₁) = need-went (leb 1 (length c.atoms)) 7 _ e h in
    let (k₂, h₂) = need-went (all_named_in c.params c.atoms) 7 _ e h₁ in
    let (k₃, h₃) = need-went (eqb (length ps) (length c.atoms)) 8 _ e h₂ in
    let (k₄, h₄) = need-went (all (λ p. ltb p 16) ps) 8 _ e h₃ in
    let (k₅, h₅) = need-went (no_gap xs) 8 (go_on (draft between u no_schema)) e h₄ in
    let l : length ps ≡ length c.atoms = eqb-true (length ps) (length c.atoms) k₃ in
    let fits = closed-fits t c ps l o k₁ k₂ k₄ k₅ in
    let v = o.before.tests in
    let total : schema_atoms (t.schemas ++ (s ∷ [])) ≤ 1000 =
    let y = o.total in
    let z = length-closed t c ps l in
    omega (arith, schema_atoms-part t.schemas s []) in
    let pairs-total : schema_pairs (t.schemas ++ (s ∷ [])) ≤ most_pairs =
    let y = o.pairs-total in omega (arith, schema_pairs-part t.schemas s []) in
    let tests : TaskTests u = record {
      some-object = v.some-object;
      objects = v.objects;
      some-pred = v.some-pred;
      preds = v.preds;
      arities = v.arities;
      schemas = more_room t.schemas s 200 (lt-ltb (length t.schemas) 200 o.room);
      atoms = le-leb (schema_atoms (t.schemas ++ (s ∷ []))) 1000 total;
      inits = v.inits;
      goals = v.goals;
      fit = all_snoc (schema_fits t.arities) t.schemas s v.fit (tests-schema t.arities s fits);
      init = v.init;
      goal = v.goal;
      pairs = le-leb (schema_pairs (t.schemas ++ (s ∷ []))) most_pairs pairs-total;
    } in
    next h₅ (record {
      known = record { tests = tests; no-init = o.before.no-init; no-goal = o.before.no-goal };
      stands = whole-schema t s o.before.no-init o.before.no-goal ∙
          (ap (λ (x : List Line). whole_of t ++ x) (closed-lines c ps l) ∙
          sym (append_assoc (whole_of t) (opened c) (part_line ps ∷ [])));
    })
