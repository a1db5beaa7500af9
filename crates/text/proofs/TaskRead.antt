-- What is read is a well-formed task, and its text is what was read: along the lines that lead to a result the draft
-- stands for the lines that were read, and is known. So no two accepted texts have one task, nor two tasks one text.
use Prim.Native.Nat.{ℕ, ◌+◌}
use mathlib.Core.Path.{◌≡◌, refl, sym, ◌∙◌, ap, subst}
use mathlib.Core.Bool.{Bool, true, not, ◌&&◌}
use mathlib.Core.List.{List, [], ◌∷◌, ◌++◌, append_assoc}
use native.Mathlib.Omega.{arith}
use lib.ListN.{length}
use lib.Dec.{eqb, ltb, leb}
use borrow.Author.Tests.{ltb-true, leb-true, eqb-true, le-leb}
use Rattle.words.specs.Lists.{all, any, concat_map, sum}
use Rattle.task.specs.Limits.{most_pairs}
use Rattle.task.specs.Task.{Atom, Fact, Schema, Task, args_fit, same_atom, roles_ascend, distinct, facts_fit, ascending}
use Rattle.task.specs.Task.{all_named, no_gap, well_formed, schema_atoms, schema_pairs, pair_fits, pairs_ascend, no_schema}
use Rattle.task.specs.Task.{bare_schema}
use Rattle.words.proofs.Lists.{and_left, and_right, In}
use Rattle.task.proofs.Tests.{TaskTests, tests-task}
use Rattle.text.specs.Lines.{Entry}
use Rattle.text.specs.Reading.{go_on, finish, need, read}
use Rattle.text.specs.Text.{Key, end, key_of, keys_at, Line, task_line, objects_line, schema_line, end_line, arity_line}
use Rattle.text.specs.Text.{differ_line, part_line, atom_line, init_line, goal_line, write_line, task_lines, write}
use Rattle.text.specs.Text.{Phase, at_objects, at_arity, between, in_differ, in_pre, in_add, in_del, in_init, in_goal}
use Rattle.text.specs.Text.{Draft, TaskTurn, started, at_phase, with_objects, with_arities, with_init, with_goal}
use Rattle.text.specs.Text.{add_pair, add_atom, with_parts, close_schema, pair_follows, follows, add_fact, take_line}
use Rattle.text.specs.Text.{next_line, read_text}
use Rattle.text.specs.Holding.{pair_of}
use Rattle.text.proofs.Reading.{need-went, need-finished, comes-last, goes-on, read-lines}
use Rattle.text.proofs.TaskLines.{Says, says-task, says-objects, says-arity, says-schema, says-differ, says-pre}
use Rattle.text.proofs.TaskLines.{says-add, says-del, says-part, says-init, says-goal, says-end, says-key, May}
use Rattle.text.proofs.TaskLines.{task-exact}
use Rattle.text.proofs.Growing.{last_role}
use Rattle.text.proofs.TaskWritten.{draft, LeadsTo, read-written}
use Rattle.text.proofs.TaskDraft.{header, so_far, task_lines-whole, Empty, Known, Next, next, Allowed, at_task-task}
use Rattle.text.proofs.TaskDraft.{at_objects-objects, at_arity-arity, between-schema, between-init, between-goal}
use Rattle.text.proofs.TaskDraft.{between-end, in_differ-differ, in_differ-pre, in_differ-add, in_differ-del}
use Rattle.text.proofs.TaskDraft.{in_differ-part, in_pre-pre, in_pre-add, in_pre-del, in_pre-part, in_add-add}
use Rattle.text.proofs.TaskDraft.{in_add-del, in_add-part, in_del-del, in_del-part, in_init-init, in_init-goal}
use Rattle.text.proofs.TaskDraft.{in_init-end, in_goal-goal, in_goal-end, allowed}
use Rattle.text.proofs.TaskGrows.{init-next, goal-next, pair-next, atom-next, part-next}

-- ---- lines that reading goes on behind
pub end-stops : (n : ℕ) (t : Task) (e : Draft) → ◌≡◌ {A = TaskTurn} (need (eqb n 1) 3 (finish t)) (go_on e) → ⊥
end-stops n t e h =
    let (k, h₁) = need-went (eqb n 1) 3 (finish t) e h in
    let z : ◌≡◌ {A = ℕ} 0 1 = cc in
    omega arith

-- with its arities, an empty draft is a task
pub arity-next : (t : Task) (ns : List ℕ) → Empty t → leb 1 t.objects ≡ true → leb t.objects 1000 ≡ true →
    leb 1 (length ns) ≡ true → leb (length ns) 400 ≡ true → all (λ n. leb n 4) ns ≡ true →
    Next (draft between (with_arities t ns) no_schema) (task_line 1 ∷ objects_line t.objects ∷ arity_line ns ∷ [])
unfolding with_arities so_far concat_map sum all facts_fit ascending
arity-next t ns g some few some-pred preds low = record {
  known = record {
    tests = record {
      some-object = some;
      objects = few;
      some-pred = some-pred;
      preds = preds;
      arities = low;
      schemas = rw g.no-schema refl;
      atoms = rw g.no-schema refl;
      inits = rw g.no-init refl;
      goals = rw g.no-goal refl;
      fit = rw g.no-schema refl;
      init = rw g.no-init refl;
      goal = rw g.no-goal refl;
      pairs = rw g.no-schema refl;
    };
    no-init = g.no-init;
    no-goal = g.no-goal;
  };
  stands = rw (g.no-schema, g.no-init, g.no-goal) refl;
}

pub line-next : {p : Phase} {k : Key} {l : Line} (t : Task) (c : Schema) → Allowed p k → Says k l → Known p t c →
    (e : Draft) → take_line (draft p t c) l ≡ go_on e → Next e (so_far p t c ++ (l ∷ []))
unfolding take_line so_far header concat_map sum all facts_fit ascending roles_ascend distinct pairs_ascend last_role
line-next t c at_task-task (says-task {n = n} s) g e h =
    let (k, h₁) = need-went (eqb n 1) 3 (go_on (draft at_objects t no_schema)) e h in
    next h₁ (record { known = g; stands = ap {B = List Line} (λ (m : ℕ). task_line m ∷ []) (sym (eqb-true n 1 k)) })
line-next t c at_objects-objects (says-objects {n = n} s) g e h =
    let (k, h₁) = need-went (leb 1 n && leb n 1000) 4 (go_on (draft at_arity (with_objects t n) no_schema)) e h in
    next h₁ (record {
      known = (
        record { no-schema = g.no-schema; no-init = g.no-init; no-goal = g.no-goal },
        and_left (leb 1 n) (leb n 1000) k,
        and_right (leb 1 n) (leb n 1000) k,
      );
      stands = refl;
    })
line-next t c at_arity-arity (says-arity {ns = ns} s l) (g, some, few) e h =
    let t₁ = leb (length ns) 400 in
    let t₂ = all (λ n. leb n 4) ns in
    let (k, h₁) = need-went (t₁ && t₂) 4 (go_on (draft between (with_arities t ns) no_schema)) e h in
    next h₁ (arity-next t ns g some few (le-leb 1 (length ns) l) (and_left t₁ t₂ k) (and_right t₁ t₂ k))
line-next t c between-schema (says-schema {n = n} s) g e h =
    let t₁ = ltb (length t.schemas) 200 in
    let t₂ = leb n 12 in
    let (k, h₁) = need-went (t₁ && t₂) 4 (go_on (draft in_differ t (bare_schema n))) e h in
    next h₁ (record {
      known = (
        record {
          before = g;
          room = ltb-true (length t.schemas) 200 (and_left t₁ t₂ k);
          params = and_right t₁ t₂ k;
          few = omega arith;
          total = let z = leb-true (schema_atoms t.schemas) 1000 g.tests.atoms in omega arith;
          last = omega arith;
          roles = refl;
          fit = refl;
          apart = refl;
          pairs-total = let z = leb-true (schema_pairs t.schemas) most_pairs g.tests.pairs in omega arith;
          pairs-fit = refl;
          pairs-order = refl;
        },
        refl,
      );
      stands = refl;
    })
line-next t c between-init (says-init {e = a} s) g e h = init-next t g.tests g.no-goal a e h
line-next t c between-goal (says-goal {e = a} s) g e h = goal-next t g.tests a e h
line-next t c between-end (says-end {n = n} s) g e h = absurd (end-stops n t e h)
line-next t c in_differ-differ (says-differ {ns = ns} s l) g e h = pair-next t c ns e g.0 g.1 h
line-next t c in_differ-pre (says-pre {e = a} s) g e h =
    atom-next in_differ t c 0 0 (omega arith) (omega arith) a e g.0 h
line-next t c in_differ-add (says-add {e = a} s) g e h =
    atom-next in_differ t c 0 1 (omega arith) (omega arith) a e g.0 h
line-next t c in_differ-del (says-del {e = a} s) g e h =
    atom-next in_differ t c 0 2 (omega arith) (omega arith) a e g.0 h
line-next t c in_differ-part (says-part {ns = ps} s) g e h = part-next in_differ t c 0 ps e g.0 h
line-next t c in_pre-pre (says-pre {e = a} s) g e h = atom-next in_pre t c 0 0 (omega arith) (omega arith) a e g h
line-next t c in_pre-add (says-add {e = a} s) g e h = atom-next in_pre t c 0 1 (omega arith) (omega arith) a e g h
line-next t c in_pre-del (says-del {e = a} s) g e h = atom-next in_pre t c 0 2 (omega arith) (omega arith) a e g h
line-next t c in_pre-part (says-part {ns = ps} s) g e h = part-next in_pre t c 0 ps e g h
line-next t c in_add-add (says-add {e = a} s) g e h = atom-next in_add t c 1 1 (omega arith) (omega arith) a e g h
line-next t c in_add-del (says-del {e = a} s) g e h = atom-next in_add t c 1 2 (omega arith) (omega arith) a e g h
line-next t c in_add-part (says-part {ns = ps} s) g e h = part-next in_add t c 1 ps e g h
line-next t c in_del-del (says-del {e = a} s) g e h = atom-next in_del t c 2 2 (omega arith) (omega arith) a e g h
line-next t c in_del-part (says-part {ns = ps} s) g e h = part-next in_del t c 2 ps e g h
line-next t c in_init-init (says-init {e = a} s) g e h = init-next t g.0 g.1 a e h
line-next t c in_init-goal (says-goal {e = a} s) g e h = goal-next t g.0 a e h
line-next t c in_init-end (says-end {n = n} s) g e h = absurd (end-stops n t e h)
line-next t c in_goal-goal (says-goal {e = a} s) g e h = goal-next t g a e h
line-next t c in_goal-end (says-end {n = n} s) g e h = absurd (end-stops n t e h)

-- ---- the last line
-- what ends reading passes each test in front of it
pub passes : (b : Bool) (k : ℕ) (x : TaskTurn) (u : Task) → need b k x ≡ finish u → x ≡ finish u
passes b k x u h = (need-finished b k x u h).1

pub goes-no-end : {d : Draft} {u : Task} → ◌≡◌ {A = TaskTurn} (go_on d) (finish u) → ⊥
goes-no-end h = let z : ◌≡◌ {A = ℕ} 0 1 = cc in omega arith

pub pair-no-end : (d : Draft) (ns : List ℕ) (u : Task) → add_pair d ns ≡ finish u → ⊥
unfolding add_pair
pair-no-end d ns u h =
    let t = d.task in
    let c = d.current in
    goes-no-end (passes (pair_follows c.pairs (pair_of ns)) 19 _ u
    (passes (pair_fits c.params (pair_of ns)) 19 _ u
    (passes (ltb (schema_pairs t.schemas + length c.pairs) most_pairs) 21 _ u
    (passes (eqb (length ns) 2) 3 _ u h))))

pub atom-no-end : (d : Draft) (r : ℕ) (x : Entry) (u : Task) → add_atom d r x ≡ finish u → ⊥
unfolding add_atom
atom-no-end d r x u h =
    let t = d.task in
    let c = d.current in
    let a : Atom = record { role = r; pred = x.head; part = 0; args = x.list } in
    goes-no-end (passes (not (any (same_atom a) c.atoms)) 6 _ u
    (passes (args_fit t.arities c.params x.head x.list) 5 _ u
    (passes (ltb (schema_atoms t.schemas + length c.atoms) 1000) 4 _ u
    (passes (ltb (length c.atoms) 64) 4 _ u h))))

pub part-no-end : (d : Draft) (ps : List ℕ) (u : Task) → close_schema d ps ≡ finish u → ⊥
unfolding close_schema
part-no-end d ps u h =
    let c = d.current in
    goes-no-end (passes (no_gap (with_parts c.atoms ps)) 8 _ u
    (passes (all (λ p. ltb p 16) ps) 8 _ u
    (passes (eqb (length ps) (length c.atoms)) 8 _ u
    (passes (all_named c) 7 _ u
    (passes (leb 1 (length c.atoms)) 7 _ u h)))))

pub fact-no-end : (t : Task) (most : ℕ) (fs : List Fact) (x : Entry) (grown : List Fact → Draft) (u : Task) →
    add_fact t most fs x grown ≡ finish u → ⊥
unfolding add_fact
fact-no-end t most fs x grown u h =
    let f : Fact = record { pred = x.head; args = x.list } in
    goes-no-end (passes (follows fs f) 6 _ u
    (passes (args_fit t.arities t.objects x.head x.list) 5 _ u
    (passes (ltb (length fs) most) 4 _ u h)))

-- only an `end=1` line ends reading
pub finish-end : (d : Draft) (l : Line) (u : Task) → take_line d l ≡ finish u → (l ≡ end_line 1) × (d.task ≡ u)
unfolding take_line
finish-end d (task_line n) u h = absurd (goes-no-end (passes (eqb n 1) 3 _ u h))
finish-end d (objects_line n) u h = absurd (goes-no-end (passes (leb 1 n && leb n 1000) 4 _ u h))
finish-end d (arity_line ns) u h = absurd (goes-no-end (passes (leb (length ns) 400 && all (λ n. leb n 4) ns) 4 _ u h))
finish-end d (schema_line n) u h =
    absurd (goes-no-end (passes (ltb (length d.task.schemas) 200 && leb n 12) 4 _ u h))
finish-end d (differ_line ns) u h = absurd (pair-no-end d ns u h)
finish-end d (atom_line r x) u h = absurd (atom-no-end d r x u h)
finish-end d (part_line ps) u h = absurd (part-no-end d ps u h)
finish-end d (init_line x) u h =
    absurd (fact-no-end d.task 500 d.task.init x (λ fs. at_phase in_init (with_init d.task fs)) u h)
finish-end d (goal_line x) u h =
    absurd (fact-no-end d.task 100 d.task.goal x (λ fs. at_phase in_goal (with_goal d.task fs)) u h)
finish-end d (end_line n) u h =
    let (k, h₁) = need-finished (eqb n 1) 3 (finish d.task) u h in
    (ap end_line (eqb-true n 1 k), (let q : d.task ≡ u = cc in q))

pub record Found (u : Task) (lines : List Line) : Type 0 where
  pub tests : TaskTests u
  pub are : task_lines u ≡ lines

pub end-found : {p : Phase} (t : Task) (c : Schema) → Allowed p end → Known p t c →
    Found t (so_far p t c ++ (end_line 1 ∷ []))
unfolding so_far
end-found t c between-end g = record { tests = g.tests; are = task_lines-whole t }
end-found t c in_init-end g = record { tests = g.0; are = task_lines-whole t }
end-found t c in_goal-end g = record { tests = g; are = task_lines-whole t }

-- ---- a text
abbrev pub stands_for : Draft → List Line
stands_for d = so_far d.phase d.task d.current

pub lead-found : {d : Draft} {ls : List Line} {u : Task} → LeadsTo d ls u → Known d.phase d.task d.current →
    Found u (stands_for d ++ ls)
unfolding key_of
lead-found {u = u} (comes-last {d = d} {l = l} m h) g = found m.key m.listed m.says (finish-end d l u h)
  where
    found : (k : Key) → In k (keys_at d.phase) → Says k l → (l ≡ end_line 1) × (d.task ≡ u) →
        Found u (stands_for d ++ (l ∷ []))
    found k i s (e, q) =
        let is-end : k ≡ end = sym (says-key s) ∙ ap key_of e in
        let f = end-found d.task d.current (subst (Allowed d.phase) is-end (allowed d.phase k i)) g in
        subst (λ (x : Line). Found u (stands_for d ++ (x ∷ []))) (sym e)
        (subst (λ (x : Task). Found x (stands_for d ++ (end_line 1 ∷ []))) q f)
lead-found (goes-on {d = d} {e = e} {l = l} {ls = ls} m h w) g =
    let n = line-next d.task d.current (allowed d.phase m.key m.listed) m.says g e h in
    let f = lead-found w n.known in
    record {
      tests = f.tests;
      are = f.are ∙ (ap (λ (x : List Line). x ++ ls) n.stands ∙ append_assoc (stands_for d) (l ∷ []) ls);
    }

pub text-found : (bs : List ℕ) (t : Task) → read_text bs ≡ read t → TaskTests t × (write t ≡ bs)
unfolding read_text write so_far started
text-found bs t h =
    let r = read-lines next_line take_line May write_line task-exact 1 started bs t h in
    let f = lead-found r.lead (record { no-schema = refl; no-init = refl; no-goal = refl }) in
    (f.tests, ap (concat_map write_line) f.are ∙ sym r.whole)

-- writing what was read gives the file byte for byte
pub written_read : (bs : List ℕ) (t : Task) → read_text bs ≡ read t → write t ≡ bs
written_read bs t h = (text-found bs t h).1

-- what is read is well formed
pub read_fits : (bs : List ℕ) (t : Task) → read_text bs ≡ read t → well_formed t ≡ true
read_fits bs t h = tests-task t (text-found bs t h).0

-- no two accepted texts have one task
pub one-text : (bs cs : List ℕ) (t : Task) → read_text bs ≡ read t → read_text cs ≡ read t → bs ≡ cs
one-text bs cs t h k = sym (written_read bs t h) ∙ written_read cs t k

-- no two well-formed tasks have one text
pub one-task : (t u : Task) → well_formed t ≡ true → well_formed u ≡ true → write t ≡ write u → t ≡ u
one-task t u h k e =
    let q : read t ≡ read u = sym (read-written t h) ∙ (ap read_text e ∙ read-written u k) in
    cc
