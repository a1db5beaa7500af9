-- The code holds the draft again behind a `task`, an `objects` and a `schema` line: no word is written, and the counts
-- are those of the new draft. Before a schema is opened, the current one is empty.
use Prim.Native.Nat.{ℕ, ◌≤◌, ◌<◌}
use mathlib.Core.Path.{◌≡◌, refl, sym, ◌∙◌, ap, subst}
use mathlib.Core.Bool.{Bool, true, ◌&&◌}
use mathlib.Core.List.{List}
use native.Mathlib.Omega.{arith}
use lib.ListN.{length}
use lib.Dec.{leb, ltb}
use borrow.Author.Tests.{eq-eqb, ne_eqb, le-leb, lt-leb, lt-ltb, le-ltb}
use Rattle.words.specs.Lists.{all}
use Rattle.task.specs.Task.{Schema, args_fit, no_schema, bare_schema}
use Rattle.words.proofs.Lists.{and_both}
use Rattle.words.proofs.Words.{and-false}
use Rattle.text.specs.Reading.{go_on, finish, refuse}
use Rattle.text.specs.Text.{Phase, at_objects, at_arity, in_differ, Draft, at_phase, with_objects, task_line}
use Rattle.text.specs.Text.{objects_line, schema_line, end_line, take_line, task, objects, schema}
use Rattle.text.specs.declared.keys.Key.{Key as Code}
use Rattle.text.specs.declared.keys.Key.TheVariants as code
use Rattle.text.specs.ReadCode.{first_key, number_of, phase_number, Standing}
use Rattle.text.specs.Holding.{Order, Holds, row_blocks, rows_of, Allows, rows_at}
use Rattle.text.proofs.Reading.{need-met}
use Rattle.text.proofs.LineTurns.{need-fails}
use Rattle.text.specs.declared.draft.Counts.{Counts}
use Rattle.text.proofs.Dispatch.{head-place, schema-place}
use Rattle.text.proofs.HeldPairs.{pairs-stay}

-- the counts at another place in the order
abbrev pub at_place : Counts → Code → Counts
at_place c k = record {
  phase = k;
  objects = c.objects;
  predicates = c.predicates;
  schemas = c.schemas;
  params = c.params;
  closed = c.closed;
  atoms = c.atoms;
  initial = c.initial;
  goal = c.goal;
  pairs = c.pairs;
  apart = c.apart;
}

-- the words of atoms do not depend on the place in the order
pub rows-at : (d : Draft) (p : Phase) (s : Schema) → d.current ≡ s →
    rows_of d ≡ rows_of (record { phase = p; task = d.task; current = s })
unfolding row_blocks
rows-at d p s e = ap (λ (x : Schema). rows_of (record { phase = p; task = d.task; current = x })) e

module _ {d : Draft} {w : List ℕ} {c : Counts} (h : Holds d w c) where
  -- the same draft at another place, with an empty schema
  pub held_at : (p : Phase) → d.current ≡ no_schema → (let e : Draft = at_phase p d.task in Order e (phase_number p)) →
      Holds (at_phase p d.task) w (at_place c (first_key p))
  unfolding at_phase
  held_at p e o =
      let rows = rows-at d p no_schema e in
      let few = h.few in
      record {
        phase = refl;
        objects = h.objects;
        predicates = h.predicates;
        schemas = h.schemas;
        params = h.params ∙ ap (λ (s : Schema). s.params) e;
        closed = h.closed;
        atoms = h.atoms ∙ ap (λ (s : Schema). length s.atoms) e;
        initial = h.initial;
        goal = h.goal;
        pairs = h.pairs;
        apart = h.apart ∙ ap (λ (s : Schema). length s.pairs) e;
        few = record {
          predicates = few.predicates;
          schemas = few.schemas;
          params = few.params;
          objects = few.objects;
          atoms = few.atoms;
          total = few.total;
          initial = few.initial;
          goal = few.goal;
          pairs = few.pairs;
        };
        order = o;
        low = h.low;
        fit =
            subst (λ (s : Schema). all (λ a. args_fit d.task.arities s.params a.pred a.args)
            s.atoms ≡ true)
            e h.fit;
        init-fit = h.init-fit;
        goal-fit = h.goal-fit;
        long = h.long;
        arities-stand = h.arities-stand;
        params-stand = h.params-stand;
        pairs-stand = pairs-stay d _ w _ refl (ap (λ (s : Schema). s.pairs) e) h.pairs-stand;
        rows-stand = subst (Standing w (rows_at (length d.task.arities))) rows h.rows-stand;
        rows-length = ap length (sym rows) ∙ h.rows-length;
      }

  pub task-held : Allows c task → Holds (at_phase at_objects d.task) w (at_place c code.Objects)
  unfolding at_phase
  task-held allowed =
      let z = head-place (number_of c.phase) task (omega arith) allowed in
      let o = h.order in
      held_at at_objects (o.not-open (omega arith)) (record {
        no-arity = λ l. o.no-arity (omega arith);
        no-schema = λ l. o.no-schema (omega arith);
        not-open = λ l. refl;
        closed = λ l. refl;
        no-init = λ l. o.no-init (omega arith);
        no-goal = λ l. o.no-goal (omega arith);
        room = λ l m. absurd (omega arith);
      })

  abbrev with_many : ℕ → Counts
  with_many n = record {
    phase = code.Arity;
    objects = n;
    predicates = c.predicates;
    schemas = c.schemas;
    params = c.params;
    closed = c.closed;
    atoms = c.atoms;
    initial = c.initial;
    goal = c.goal;
    pairs = c.pairs;
    apart = c.apart;
  }

  pub objects-held : (n : ℕ) → Allows c objects → n ≤ 1000 →
      Holds (at_phase at_arity (with_objects d.task n)) w (with_many n)
  unfolding at_phase with_objects row_blocks all
  objects-held n allowed l =
      let z = head-place (number_of c.phase) objects (omega arith) allowed in
      let o = h.order in
      let few = h.few in
      let e = o.not-open (omega arith) in
      let i = o.no-init (omega arith) in
      let g = o.no-goal (omega arith) in
      let rows = rows-at d at_arity no_schema e in
      record {
        phase = refl;
        objects = refl;
        predicates = h.predicates;
        schemas = h.schemas;
        params = h.params ∙ ap (λ (s : Schema). s.params) e;
        closed = h.closed;
        atoms = h.atoms ∙ ap (λ (s : Schema). length s.atoms) e;
        initial = h.initial;
        goal = h.goal;
        pairs = h.pairs;
        apart = h.apart ∙ ap (λ (s : Schema). length s.pairs) e;
        few = record {
          predicates = few.predicates;
          schemas = few.schemas;
          params = few.params;
          objects = l;
          atoms = few.atoms;
          total = few.total;
          initial = few.initial;
          goal = few.goal;
          pairs = few.pairs;
        };
        order = record {
          no-arity = λ l. o.no-arity (omega arith);
          no-schema = λ l. o.no-schema (omega arith);
          not-open = λ l. refl;
          closed = λ l. refl;
          no-init = λ l. i;
          no-goal = λ l. g;
          room = λ l m. absurd (omega arith);
        };
        low = h.low;
        fit =
            subst (λ (s : Schema). all (λ a. args_fit d.task.arities s.params a.pred a.args)
            s.atoms ≡ true)
            e h.fit;
        init-fit = rw i refl;
        goal-fit = rw g refl;
        long = h.long;
        arities-stand = h.arities-stand;
        params-stand = h.params-stand;
        pairs-stand = pairs-stay d _ w _ refl (ap (λ (s : Schema). s.pairs) e) h.pairs-stand;
        rows-stand = subst (Standing w (rows_at (length d.task.arities))) rows h.rows-stand;
        rows-length = ap length (sym rows) ∙ h.rows-length;
      }

  abbrev opening : ℕ → Counts
  opening n = record {
    phase = code.Differ;
    objects = c.objects;
    predicates = c.predicates;
    schemas = c.schemas;
    params = n;
    closed = c.closed;
    atoms = c.atoms;
    initial = c.initial;
    goal = c.goal;
    pairs = c.pairs;
    apart = c.apart;
  }

  pub schema-held : (n : ℕ) → Allows c schema → n ≤ 12 → length d.task.schemas < 200 →
      Holds (record { phase = in_differ; task = d.task; current = bare_schema n }) w (opening n)
  unfolding row_blocks all
  schema-held n allowed l r =
      let z = schema-place (number_of c.phase) allowed in
      let o = h.order in
      let few = h.few in
      let e = o.closed (omega arith) in
      let rows = rows-at d in_differ no_schema e in
      record {
        phase = refl;
        objects = h.objects;
        predicates = h.predicates;
        schemas = h.schemas;
        params = refl;
        closed = h.closed;
        atoms = h.atoms ∙ ap (λ (s : Schema). length s.atoms) e;
        initial = h.initial;
        goal = h.goal;
        pairs = h.pairs;
        apart = h.apart ∙ ap (λ (s : Schema). length s.pairs) e;
        few = record {
          predicates = few.predicates;
          schemas = few.schemas;
          params = l;
          objects = few.objects;
          atoms = few.atoms;
          total = few.total;
          initial = few.initial;
          goal = few.goal;
          pairs = few.pairs;
        };
        order = record {
          no-arity = λ l. absurd (omega arith);
          no-schema = λ l. absurd (omega arith);
          not-open = λ l. absurd (omega arith);
          closed = λ l. absurd (omega arith);
          no-init = λ l. o.no-init (omega arith);
          no-goal = λ l. o.no-goal (omega arith);
          room = λ l m. r;
        };
        low = h.low;
        fit = refl;
        init-fit = h.init-fit;
        goal-fit = h.goal-fit;
        long = h.long;
        arities-stand = h.arities-stand;
        params-stand = h.params-stand;
        pairs-stand = pairs-stay d _ w _ refl (ap (λ (s : Schema). s.pairs) e) h.pairs-stand;
        rows-stand = subst (Standing w (rows_at (length d.task.arities))) rows h.rows-stand;
        rows-length = ap length (sym rows) ∙ h.rows-length;
      }

-- ---- the turns
module _ (d : Draft) (n : ℕ) where
  pub task-refused : (n ≡ 1 → ⊥) → take_line d (task_line n) ≡ refuse 3
  unfolding take_line
  task-refused h = need-fails 3 _ (ne_eqb n 1 h)

  pub task-taken : n ≡ 1 → take_line d (task_line n) ≡ go_on (at_phase at_objects d.task)
  unfolding take_line
  task-taken h = need-met 3 (eq-eqb n 1 h) refl

  pub objects-few : n < 1 → take_line d (objects_line n) ≡ refuse 4
  unfolding take_line
  objects-few h = need-fails 4 _ (ap (λ (b : Bool). b && leb n 1000) (lt-leb 1 n h))

  pub objects-many : 1000 < n → take_line d (objects_line n) ≡ refuse 4
  unfolding take_line
  objects-many h = need-fails 4 _ (ap (λ (b : Bool). leb 1 n && b) (lt-leb n 1000 h) ∙ and-false (leb 1 n))

  pub objects-taken : 1 ≤ n → n ≤ 1000 → take_line d (objects_line n) ≡ go_on (at_phase at_arity (with_objects d.task n))
  unfolding take_line
  objects-taken h k = need-met 4 (and_both _ _ (le-leb 1 n h) (le-leb n 1000 k)) refl

  pub schema-many : 200 ≤ length d.task.schemas → take_line d (schema_line n) ≡ refuse 4
  unfolding take_line
  schema-many h = need-fails 4 _ (ap (λ (b : Bool). b && leb n 12) (le-ltb (length d.task.schemas) 200 h))

  pub params-many : 12 < n → take_line d (schema_line n) ≡ refuse 4
  unfolding take_line
  params-many h =
      let room = ltb (length d.task.schemas) 200 in
      need-fails 4 _ (ap (λ (b : Bool). room && b) (lt-leb n 12 h) ∙ and-false room)

  pub schema-taken : length d.task.schemas < 200 → n ≤ 12 → take_line d (schema_line n) ≡
      go_on (record { phase = in_differ; task = d.task; current = bare_schema n })
  unfolding take_line
  schema-taken h k = need-met 4 (and_both _ _ (lt-ltb (length d.task.schemas) 200 h) (le-leb n 12 k)) refl

  pub end_refused : (n ≡ 1 → ⊥) → take_line d (end_line n) ≡ refuse 3
  unfolding take_line
  end_refused h = need-fails 3 _ (ne_eqb n 1 h)

  pub end-taken : n ≡ 1 → take_line d (end_line n) ≡ finish d.task
  unfolding take_line
  end-taken h = need-met 3 (eq-eqb n 1 h) refl
