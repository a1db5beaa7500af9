-- A draft while a task is read: the lines that it stands for, what is known of it in each phase, and how both grow
-- by a pair or an atom of a schema, a schema, an initial atom or a goal atom.
use Prim.Native.Nat.{ℕ, zero, suc, ◌+◌, ◌≤◌, ◌<◌}
use mathlib.Core.Path.{◌≡◌, refl, sym, ◌∙◌, ap, subst}
use mathlib.Core.Bool.{true}
use mathlib.Core.List.{List, [], ◌∷◌, ◌++◌, append_assoc, append-nil}
use native.Mathlib.Omega.{arith}
use lib.ListN.{length}
use lib.Dec.{leb}
use Rattle.words.specs.Lists.{all, concat_map}
use Rattle.task.specs.Limits.{most_pairs}
use Rattle.task.specs.Task.{Atom, Fact, Pair, Schema, Task, args_fit, distinct, roles_ascend, schema_atoms, schema_pairs}
use Rattle.task.specs.Task.{pair_fits, pairs_ascend, with_pairs, with_atoms}
use Rattle.words.proofs.Lists.{In, here, there, append-concat_map, map-append}
use Rattle.task.proofs.Tests.{TaskTests}
use Rattle.text.specs.Reading.{go_on}
use Rattle.text.specs.Text.{differ_line, atom_line, atom_entry, pair_list, Key, task, objects, arity, schema, differ}
use Rattle.text.specs.Text.{pre, add, del, part, init, goal, end, Line, task_line, objects_line, schema_line}
use Rattle.text.specs.Text.{end_line, arity_line, init_line, goal_line, fact_entry, schema_lines, task_lines, Phase}
use Rattle.text.specs.Text.{at_task, at_objects, at_arity, between, in_differ, in_pre, in_add, in_del, in_init, in_goal}
use Rattle.text.specs.Text.{keys_at, role_phase, Draft, TaskTurn, with_schemas, with_init, with_goal}
use Rattle.text.proofs.Growing.{last_role}
use Rattle.text.proofs.TaskWritten.{init_lines, goal_lines, atom_lines, pair_lines}

-- ---- the lines of a draft
unfoldable pub header : Task → List Line
header t = task_line 1 ∷ objects_line t.objects ∷ arity_line t.arities ∷ []

-- a task's lines but its last
unfoldable pub whole_of : Task → List Line
unfolding header
whole_of t = header t ++ (concat_map schema_lines t.schemas ++ (init_lines t.init ++ goal_lines t.goal))

-- a schema's lines but its last
unfoldable pub opened : Schema → List Line
opened c = schema_line c.params ∷ (pair_lines c.pairs ++ atom_lines c.atoms)

unfoldable pub so_far : Phase → Task → Schema → List Line
unfolding whole_of opened
so_far at_task t c = []
so_far at_objects t c = task_line 1 ∷ []
so_far at_arity t c = task_line 1 ∷ objects_line t.objects ∷ []
so_far between t c = whole_of t
so_far in_differ t c = whole_of t ++ opened c
so_far in_pre t c = whole_of t ++ opened c
so_far in_add t c = whole_of t ++ opened c
so_far in_del t c = whole_of t ++ opened c
so_far in_init t c = whole_of t
so_far in_goal t c = whole_of t

pub task_lines-whole : (t : Task) → task_lines t ≡ whole_of t ++ (end_line 1 ∷ [])
unfolding task_lines whole_of
task_lines-whole t =
    go (header t) (concat_map schema_lines t.schemas) (init_lines t.init) (goal_lines t.goal) (end_line 1 ∷ [])
  where
    go : (a b c d e : List Line) → a ++ (b ++ (c ++ (d ++ e))) ≡ (a ++ (b ++ (c ++ d))) ++ e
    go a b c d e = simp append_assoc

-- schemas, initial atoms and goal atoms come in this order: one more of a kind comes last while no later kind has come
pub whole-goal : (t : Task) (f : Fact) →
    whole_of (with_goal t (t.goal ++ (f ∷ []))) ≡ whole_of t ++ (goal_line (fact_entry f) ∷ [])
unfolding whole_of with_goal
whole-goal t f =
    ap (λ (x : List Line). header t ++ (concat_map schema_lines t.schemas ++ (init_lines t.init ++ x)))
    (map-append (λ f. goal_line (fact_entry f)) t.goal (f ∷ [])) ∙
    go (header t) (concat_map schema_lines t.schemas) (init_lines t.init) (goal_lines t.goal)
    (goal_line (fact_entry f) ∷ [])
  where
    go : (a b c d w : List Line) → a ++ (b ++ (c ++ (d ++ w))) ≡ (a ++ (b ++ (c ++ d))) ++ w
    go a b c d w = simp append_assoc

pub whole-init : (t : Task) (f : Fact) → t.goal ≡ [] →
    whole_of (with_init t (t.init ++ (f ∷ []))) ≡ whole_of t ++ (init_line (fact_entry f) ∷ [])
unfolding whole_of with_init
whole-init t f h =
    ap (λ (x : List Line). header t ++ (concat_map schema_lines t.schemas ++ (x ++ goal_lines t.goal)))
    (map-append (λ f. init_line (fact_entry f)) t.init (f ∷ [])) ∙
    go (header t) (concat_map schema_lines t.schemas) (init_lines t.init) (goal_lines t.goal)
    (init_line (fact_entry f) ∷ []) (ap goal_lines h)
  where
    go : (a b c d w : List Line) → d ≡ [] → a ++ (b ++ ((c ++ w) ++ d)) ≡ (a ++ (b ++ (c ++ d))) ++ w
    go a b c d w e = rw e (simp (append_assoc, append-nil))

pub whole-schema : (t : Task) (s : Schema) → t.init ≡ [] → t.goal ≡ [] →
    whole_of (with_schemas t (t.schemas ++ (s ∷ []))) ≡ whole_of t ++ schema_lines s
unfolding whole_of with_schemas concat_map
whole-schema t s h k =
    ap (λ (x : List Line). header t ++ (x ++ (init_lines t.init ++ goal_lines t.goal)))
    (append-concat_map schema_lines t.schemas (s ∷ [])) ∙
    go (header t) (concat_map schema_lines t.schemas) (init_lines t.init) (goal_lines t.goal) (schema_lines s)
    (ap init_lines h) (ap goal_lines k)
  where
    go : (a b c d w : List Line) → c ≡ [] → d ≡ [] → a ++ ((b ++ (w ++ [])) ++ (c ++ d)) ≡ (a ++ (b ++ (c ++ d))) ++ w
    go a b c d w e f = rw (e, f) (simp (append_assoc, append-nil))

-- a schema's pairs come before its atoms
pub opened-pair : (c : Schema) (q : Pair) → c.atoms ≡ [] →
    opened (with_pairs c (c.pairs ++ (q ∷ []))) ≡ opened c ++ (differ_line (pair_list q) ∷ [])
unfolding opened
opened-pair c q h =
    ap {B = List Line} (λ (ls : List Line). schema_line c.params ∷ (ls ++ atom_lines c.atoms))
    (map-append (λ q. differ_line (pair_list q)) c.pairs (q ∷ [])) ∙
    ap {B = List Line} (λ (ls : List Line). schema_line c.params ∷ ls)
    (go (pair_lines c.pairs) (differ_line (pair_list q) ∷ []) (atom_lines c.atoms) (ap atom_lines h))
  where
    go : (a b d : List Line) → d ≡ [] → (a ++ b) ++ d ≡ (a ++ d) ++ b
    go a b d e = rw e (simp (append_assoc, append-nil))

pub opened-atom : (c : Schema) (a : Atom) →
    opened (with_atoms c (c.atoms ++ (a ∷ []))) ≡
    opened c ++ (atom_line a.role (atom_entry a) ∷ [])
unfolding opened
opened-atom c a =
    let said = atom_line a.role (atom_entry a) ∷ [] in
    ap {B = List Line} (λ (ls : List Line). schema_line c.params ∷ ls)
    (ap (λ (ls : List Line). pair_lines c.pairs ++ ls)
    (map-append (λ a. atom_line a.role (atom_entry a)) c.atoms (a ∷ [])) ∙
    sym (append_assoc (pair_lines c.pairs) (atom_lines c.atoms) said))

-- ---- what is known of a draft
pub record Empty (t : Task) : Type 0 where
  pub no-schema : t.schemas ≡ []
  pub no-init : t.init ≡ []
  pub no-goal : t.goal ≡ []

pub record NoFacts (t : Task) : Type 0 where
  pub tests : TaskTests t
  pub no-init : t.init ≡ []
  pub no-goal : t.goal ≡ []

-- a schema that is being read, its last atom of role r at most
pub record Open (r : ℕ) (t : Task) (c : Schema) : Type 0 where
  pub before : NoFacts t
  pub room : length t.schemas < 200
  pub params : leb c.params 12 ≡ true
  pub few : length c.atoms ≤ 64
  pub total : schema_atoms t.schemas + length c.atoms ≤ 1000
  pub last : last_role c.atoms ≤ r
  pub roles : roles_ascend c.atoms ≡ true
  pub fit : all (λ a. args_fit t.arities c.params a.pred a.args) c.atoms ≡ true
  pub apart : distinct c.atoms ≡ true
  pub pairs-total : schema_pairs t.schemas + length c.pairs ≤ most_pairs
  pub pairs-fit : all (pair_fits c.params) c.pairs ≡ true
  pub pairs-order : pairs_ascend c.pairs ≡ true

abbrev pub Known : Phase → Task → Schema → Type 0
Known at_task t c = Empty t
Known at_objects t c = Empty t
Known at_arity t c = Empty t × (leb 1 t.objects ≡ true) × (leb t.objects 1000 ≡ true)
Known between t c = NoFacts t
Known in_differ t c = Open 0 t c × (c.atoms ≡ [])
Known in_pre t c = Open 0 t c
Known in_add t c = Open 1 t c
Known in_del t c = Open 2 t c
Known in_init t c = TaskTests t × (t.goal ≡ [])
Known in_goal t c = TaskTests t

pub record Next (e : Draft) (lines : List Line) : Type 0 where
  pub known : Known e.phase e.task e.current
  pub stands : so_far e.phase e.task e.current ≡ lines

pub next : {d e : Draft} {lines : List Line} → ◌≡◌ {A = TaskTurn} (go_on d) (go_on e) → Next d lines → Next e lines
next {d} {e} {lines} h n = let q : d ≡ e = cc in subst (λ (x : Draft). Next x lines) q n

-- inside a schema the phase is that of a role
pub known-role : (r : ℕ) → r ≤ 2 → (t : Task) (c : Schema) → Open r t c → Known (role_phase r) t c
unfolding role_phase
known-role zero h t c o = o
known-role (suc zero) h t c o = o
known-role (suc (suc zero)) h t c o = o
known-role (suc (suc (suc r))) h t c o = absurd (omega arith)

pub so_far-role : (r : ℕ) (t : Task) (c : Schema) → so_far (role_phase r) t c ≡ whole_of t ++ opened c
unfolding role_phase so_far
so_far-role zero t c = refl
so_far-role (suc zero) t c = refl
so_far-role (suc (suc r)) t c = refl

-- ---- the keys of each phase
pub data Allowed : Phase → Key → Type 0 where
  at_task-task : Allowed at_task task
  at_objects-objects : Allowed at_objects objects
  at_arity-arity : Allowed at_arity arity
  between-schema : Allowed between schema
  between-init : Allowed between init
  between-goal : Allowed between goal
  between-end : Allowed between end
  in_differ-differ : Allowed in_differ differ
  in_differ-pre : Allowed in_differ pre
  in_differ-add : Allowed in_differ add
  in_differ-del : Allowed in_differ del
  in_differ-part : Allowed in_differ part
  in_pre-pre : Allowed in_pre pre
  in_pre-add : Allowed in_pre add
  in_pre-del : Allowed in_pre del
  in_pre-part : Allowed in_pre part
  in_add-add : Allowed in_add add
  in_add-del : Allowed in_add del
  in_add-part : Allowed in_add part
  in_del-del : Allowed in_del del
  in_del-part : Allowed in_del part
  in_init-init : Allowed in_init init
  in_init-goal : Allowed in_init goal
  in_init-end : Allowed in_init end
  in_goal-goal : Allowed in_goal goal
  in_goal-end : Allowed in_goal end

pub allowed : (p : Phase) (k : Key) → In k (keys_at p) → Allowed p k
unfolding keys_at
allowed at_task k (here e) = rw e at_task-task
allowed at_task k (there x) = elim x [ ]
allowed at_objects k (here e) = rw e at_objects-objects
allowed at_objects k (there x) = elim x [ ]
allowed at_arity k (here e) = rw e at_arity-arity
allowed at_arity k (there x) = elim x [ ]
allowed between k (here e) = rw e between-schema
allowed between k (there (here e)) = rw e between-init
allowed between k (there (there (here e))) = rw e between-goal
allowed between k (there (there (there (here e)))) = rw e between-end
allowed between k (there (there (there (there x)))) = elim x [ ]
allowed in_differ k (here e) = rw e in_differ-differ
allowed in_differ k (there (here e)) = rw e in_differ-pre
allowed in_differ k (there (there (here e))) = rw e in_differ-add
allowed in_differ k (there (there (there (here e)))) = rw e in_differ-del
allowed in_differ k (there (there (there (there (here e))))) = rw e in_differ-part
allowed in_differ k (there (there (there (there (there x))))) = elim x [ ]
allowed in_pre k (here e) = rw e in_pre-pre
allowed in_pre k (there (here e)) = rw e in_pre-add
allowed in_pre k (there (there (here e))) = rw e in_pre-del
allowed in_pre k (there (there (there (here e)))) = rw e in_pre-part
allowed in_pre k (there (there (there (there x)))) = elim x [ ]
allowed in_add k (here e) = rw e in_add-add
allowed in_add k (there (here e)) = rw e in_add-del
allowed in_add k (there (there (here e))) = rw e in_add-part
allowed in_add k (there (there (there x))) = elim x [ ]
allowed in_del k (here e) = rw e in_del-del
allowed in_del k (there (here e)) = rw e in_del-part
allowed in_del k (there (there x)) = elim x [ ]
allowed in_init k (here e) = rw e in_init-init
allowed in_init k (there (here e)) = rw e in_init-goal
allowed in_init k (there (there (here e))) = rw e in_init-end
allowed in_init k (there (there (there x))) = elim x [ ]
allowed in_goal k (here e) = rw e in_goal-goal
allowed in_goal k (there (here e)) = rw e in_goal-end
allowed in_goal k (there (there x)) = elim x [ ]
