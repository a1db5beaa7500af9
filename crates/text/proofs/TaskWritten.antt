-- What is written of a well-formed task is read as that task: its lines lead from the empty draft to it.
-- Each lemma takes the lines that are left and the draft that those before them made; the task u stays fixed, and
-- 'whole ≡ done ++ left' says how far reading has come in a list of it.
use Prim.Native.Nat.{ℕ, zero, suc, ◌+◌, ◌≤◌, ◌<◌}
use mathlib.Core.Path.{◌≡◌, refl, sym, ◌∙◌, ap, subst}
use mathlib.Core.Bool.{Bool, true}
use mathlib.Core.List.{List, [], ◌∷◌, ◌++◌, map, append_assoc, append-nil}
use native.Mathlib.Omega.{arith}
use lib.ListN.{length, length-append, length-map}
use lib.Dec.{ltb, leb}
use borrow.Author.Tests.{ltb-true, leb-true, lt-ltb, eq-eqb}
use Rattle.words.specs.Lists.{all, concat_map, sum}
use Rattle.task.specs.Limits.{most_pairs}
use Rattle.task.specs.Task.{Atom, Fact, Pair, Schema, Task, args_fit, distinct, roles_ascend, schema_fits, facts_fit}
use Rattle.task.specs.Task.{ascending, no_gap, well_formed, schema_atoms, schema_pairs, pair_fits, pairs_ascend, no_schema}
use Rattle.task.specs.Task.{with_atoms}
use Rattle.words.proofs.Lists.{and_both, In, here, there, in_right, all_in, sum-append, map-append}
use Rattle.task.proofs.States.{args_fit-fitting, pair_fits-fits}
use Rattle.task.proofs.Tests.{SchemaTests, schema-tests, fits, fact-tests, TaskTests, task-tests}
use Rattle.text.specs.Lines.{Entry}
use Rattle.text.specs.Reading.{go_on, finish, read}
use Rattle.text.specs.Text.{task, objects, arity, schema, differ, pre, add, del, part, init, goal, end, Line}
use Rattle.text.specs.Text.{schema_line, end_line, differ_line, part_line, atom_line, init_line, goal_line, write_line}
use Rattle.text.specs.Text.{fact_entry, atom_entry, pair_list, schema_lines, task_lines, write, Phase, between}
use Rattle.text.specs.Text.{in_differ, in_init, in_goal, keys_at, role_phase, Draft, started, with_parts, close_schema}
use Rattle.text.specs.Text.{pair_follows, follows, take_line, next_line, read_text}
use Rattle.text.proofs.NumberLists.{Small, SmallEntry}
use Rattle.text.proofs.Reading.{need-met, Leads, comes-last, goes-on, lines-read}
use Rattle.text.proofs.TaskLines.{says-task, says-objects, says-arity, says-schema, says-differ, says-pre}
use Rattle.text.proofs.TaskLines.{says-add, says-del, says-part, says-init, says-goal, says-end, May, task-exact}
use Rattle.text.proofs.Growing.{prefix, room_for, last_role, last_role-snoc, snoc-roles, snoc-distinct}
use Rattle.text.proofs.Growing.{snoc-ascends, facts-order, pairs-order}
use Rattle.text.proofs.Parts.{bare, part_of, all_map, roles-bare, distinct-bare, named-bare, parts-back}
use Rattle.text.proofs.Parts.{count-below}

abbrev pub draft : Phase → Task → Schema → Draft
draft p t c = record { phase = p; task = t; current = c }

abbrev pub LeadsTo : Draft → List Line → Task → Type 0
LeadsTo d ls t = Leads take_line May d ls t

pub append-eq : {A : Type 0} {xs : List A} (ys : List A) (z : A) (zs : List A) → xs ≡ ys ++ (z ∷ zs) →
    xs ≡ (ys ++ (z ∷ [])) ++ zs
append-eq ys z zs e = e ∙ sym (append_assoc ys (z ∷ []) zs)

-- ---- initial and goal atoms
pub record NextFact (n : ℕ) (ns : List ℕ) (fs : List Fact) (f : Fact) : Type 0 where
  pub fit : args_fit ns n f.pred f.args ≡ true
  pub after : follows fs f ≡ true

pub next-fact : (n : ℕ) (ns : List ℕ) (whole fs : List Fact) (f : Fact) (more : List Fact) →
    facts_fit n ns whole ≡ true → whole ≡ fs ++ (f ∷ more) → NextFact n ns fs f
next-fact n ns whole fs f more h e =
    let c = fact-tests n ns whole h in
    let upto = prefix (λ xs. ascending xs ≡ true) (λ xs x k. (snoc-ascends facts-order xs x k).0) (fs ++ (f ∷ []))
    more in
    record {
      fit = all_in (fits n ns) (rw e at c.fit) (in_right fs (here refl));
      after = (snoc-ascends facts-order fs f (upto (rw (append-eq fs f more e) at c.order))).1;
    }

-- the numbers of an atom that fits have at most 5 digits
pub small-entry : (n : ℕ) (ns : List ℕ) (e : Entry) → n ≤ 1000 → length ns ≤ 400 →
    args_fit ns n e.head e.list ≡ true → SmallEntry e
small-entry n ns e h k l =
    let c = args_fit-fitting n ns e.head e.list l in
    (let z = c.known in omega arith, λ x i. let z = c.small x i in omega arith)

-- u as far as it is read: up to some goal atoms, some initial atoms, some schemas
abbrev pub to_goals : Task → List Fact → Task
to_goals u fs = record { objects = u.objects; arities = u.arities; schemas = u.schemas; init = u.init; goal = fs }

abbrev pub to_inits : Task → List Fact → Task
to_inits u fs = record { objects = u.objects; arities = u.arities; schemas = u.schemas; init = fs; goal = [] }

abbrev pub to_schemas : Task → List Schema → Task
to_schemas u ss = record { objects = u.objects; arities = u.arities; schemas = ss; init = []; goal = [] }

abbrev pub goal_lines : List Fact → List Line
goal_lines fs = map (λ f. goal_line (fact_entry f)) fs

abbrev pub init_lines : List Fact → List Line
init_lines fs = map (λ f. init_line (fact_entry f)) fs

abbrev pub from_goals : List Fact → List Line
from_goals gs = goal_lines gs ++ (end_line 1 ∷ [])

abbrev pub from_inits : List Fact → List Fact → List Line
from_inits fs gs = init_lines fs ++ from_goals gs

module _ (u : Task) (c : TaskTests u) where
  pub fact_small : (fs : List Fact) (f : Fact) → NextFact u.objects u.arities fs f → SmallEntry (fact_entry f)
  unfolding fact_entry
  fact_small fs f n =
      small-entry u.objects u.arities (fact_entry f) (leb-true u.objects 1000 c.objects)
      (leb-true (length u.arities) 400 c.preds) n.fit

  pub goals-lead : (p : Phase) (s : Schema) (fs gs : List Fact) → u.goal ≡ fs ++ gs → In goal (keys_at p) →
      In end (keys_at p) → LeadsTo (draft p (to_goals u fs) s) (from_goals gs) u
  unfolding take_line fact_entry keys_at
  goals-lead p s fs [] e a b =
      let z : fs ≡ u.goal = sym (append-nil fs) ∙ sym e in
      comes-last (record { key = end; listed = b; says = says-end {n = 1} (omega arith) })
      (ap (λ (gs : List Fact). finish (to_goals u gs)) z)
  goals-lead p s fs (f ∷ gs) e a b =
      let n = next-fact u.objects u.arities u.goal fs f gs c.goal e in
      goes-on (record { key = goal; listed = a; says = says-goal (fact_small fs f n) })
      (need-met 4 (room_for u.goal fs f gs 100 c.goals e) (need-met 5 n.fit (need-met 6 n.after refl)))
      (goals-lead in_goal no_schema (fs ++ (f ∷ [])) gs (append-eq fs f gs e) (here refl) (there (here refl)))

  pub inits-lead : (p : Phase) (s : Schema) (fs gs : List Fact) → u.init ≡ fs ++ gs →
      In init (keys_at p) → In goal (keys_at p) → In end (keys_at p) →
      LeadsTo (draft p (to_inits u fs) s) (from_inits gs u.goal) u
  unfolding take_line fact_entry keys_at
  inits-lead p s fs [] e a b d =
      let z : fs ≡ u.init = sym (append-nil fs) ∙ sym e in
      rw z (goals-lead p s [] u.goal refl b d)
  inits-lead p s fs (f ∷ gs) e a b d =
      let n = next-fact u.objects u.arities u.init fs f gs c.init e in
      goes-on (record { key = init; listed = a; says = says-init (fact_small fs f n) })
      (need-met 4 (room_for u.init fs f gs 500 c.inits e) (need-met 5 n.fit (need-met 6 n.after refl)))
      (inits-lead in_init no_schema (fs ++ (f ∷ [])) gs (append-eq fs f gs e)
      (here refl) (there (here refl)) (there (there (here refl))))

-- ---- atoms of a schema
pub role-may : (q r : ℕ) → q ≤ r → r ≤ 2 → (e : Entry) → SmallEntry e → (t : Task) (c : Schema) →
    May (draft (role_phase q) t c) (atom_line r e)
unfolding role_phase keys_at
role-may zero zero h k e s t c = record { key = pre; listed = here refl; says = says-pre s }
role-may zero (suc zero) h k e s t c = record { key = add; listed = there (here refl); says = says-add s }
role-may zero (suc (suc zero)) h k e s t c = record { key = del; listed = there (there (here refl)); says = says-del s }
role-may (suc zero) (suc zero) h k e s t c = record { key = add; listed = here refl; says = says-add s }
role-may (suc zero) (suc (suc zero)) h k e s t c = record { key = del; listed = there (here refl); says = says-del s }
role-may (suc (suc q)) (suc (suc zero)) h k e s t c = record { key = del; listed = here refl; says = says-del s }
role-may (suc q) zero h k e s t c = absurd (omega arith)
role-may (suc (suc q)) (suc zero) h k e s t c = absurd (omega arith)
role-may q (suc (suc (suc r))) h k e s t c = absurd (omega arith)

-- behind a schema's line, or a pair, an atom of any role may come
pub first-may : (r : ℕ) → r ≤ 2 → (e : Entry) → SmallEntry e → (t : Task) (c : Schema) →
    May (draft in_differ t c) (atom_line r e)
unfolding keys_at
first-may zero k e s t c = record { key = pre; listed = there (here refl); says = says-pre s }
first-may (suc zero) k e s t c = record { key = add; listed = there (there (here refl)); says = says-add s }
first-may (suc (suc zero)) k e s t c =
    record { key = del; listed = there (there (there (here refl))); says = says-del s }
first-may (suc (suc (suc r))) k e s t c = absurd (omega arith)

-- where the reader stands in a schema, behind these atoms
unfoldable pub phase_behind : List Atom → Phase
phase_behind [] = in_differ
phase_behind (a ∷ more) = role_phase (last_role (a ∷ more))

pub phase-snoc : (xs : List Atom) (a : Atom) → phase_behind (xs ++ (a ∷ [])) ≡ role_phase a.role
unfolding phase_behind
phase-snoc [] a = ap role_phase (last_role-snoc [] a)
phase-snoc (x ∷ xs) a = ap role_phase (last_role-snoc (x ∷ xs) a)

pub atom-may : (xs : List Atom) (r : ℕ) → last_role xs ≤ r → r ≤ 2 → (e : Entry) → SmallEntry e →
    (t : Task) (c : Schema) → May (draft (phase_behind xs) t c) (atom_line r e)
unfolding phase_behind
atom-may [] r h k e s t c = first-may r k e s t c
atom-may (x ∷ xs) r h k e s t c = role-may (last_role (x ∷ xs)) r h k e s t c

pub part-listed : (xs : List Atom) → In part (keys_at (phase_behind xs))
unfolding phase_behind role_phase keys_at
part-listed [] = there (there (there (there (here refl))))
part-listed (x ∷ xs) = role-listed (last_role (x ∷ xs))
  where
    role-listed : (q : ℕ) → In part (keys_at (role_phase q))
    role-listed zero = there (there (there (here refl)))
    role-listed (suc zero) = there (there (here refl))
    role-listed (suc (suc q)) = there (here refl)

pub record AtomTests (t : Task) (n : ℕ) (whole : List Atom) : Type 0 where
  pub few : leb (length whole) 64 ≡ true
  pub total : schema_atoms t.schemas + length whole ≤ 1000
  pub roles : roles_ascend whole ≡ true
  pub fit : all (λ a. args_fit t.arities n a.pred a.args) whole ≡ true
  pub apart : distinct whole ≡ true

-- the draft while a schema with n parameters is read, behind these pairs and atoms
abbrev pub inside : Task → ℕ → List Pair → List Atom → Draft
inside t n qs xs = draft (phase_behind xs) t (record { params = n; pairs = qs; atoms = xs })

abbrev pub atom_lines : List Atom → List Line
atom_lines xs = map (λ a. atom_line a.role (atom_entry a)) xs

module _ (u t : Task) (n : ℕ) (qs : List Pair) (whole : List Atom) (c : AtomTests t n whole) (few : n ≤ 12)
    (preds : length t.arities ≤ 400) (rest : List Line) (r : LeadsTo (inside t n qs whole) rest u) where
  pub atoms-lead : (xs ys : List Atom) → whole ≡ xs ++ map bare ys → LeadsTo (inside t n qs xs) (atom_lines ys ++ rest) u
  unfolding take_line atom_entry
  atoms-lead xs [] e = let z : xs ≡ whole = sym (append-nil xs) ∙ sym e in rw z r
  atoms-lead xs (a ∷ ys) e =
      let left = map bare ys in
      let g : whole ≡ (xs ++ (bare a ∷ [])) ++ left = append-eq xs (bare a) left e in
      let upto = xs ++ (bare a ∷ []) in
      let roles = snoc-roles xs (bare a)
      (prefix (λ xs. roles_ascend xs ≡ true) (λ xs x h. (snoc-roles xs x h).front) upto left (rw g at c.roles)) in
      let apart = (snoc-distinct xs (bare a)
      (prefix (λ xs. distinct xs ≡ true) (λ xs x h. (snoc-distinct xs x h).0) upto left (rw g at c.apart))).1 in
      let fit : args_fit t.arities n a.pred a.args ≡ true =
      all_in (λ a. args_fit t.arities n a.pred a.args) (rw e at c.fit) (in_right xs (here refl)) in
      let room : schema_atoms t.schemas + length xs < 1000 =
      let z = c.total in let y = ap length e in omega (arith, length-append xs (bare a ∷ left)) in
      let s : SmallEntry (atom_entry a) = small-entry n t.arities (atom_entry a) (omega arith) preds fit in
      let now : Schema = record { params = n; pairs = qs; atoms = xs } in
      let grown : Schema = record { params = n; pairs = qs; atoms = xs ++ (bare a ∷ []) } in
      goes-on (atom-may xs a.role roles.last roles.small (atom_entry a) s t now)
      (need-met 4 (room_for whole xs (bare a) left 64 c.few e) (need-met 4 (lt-ltb _ 1000 room)
      (need-met 5 fit (need-met 6 apart
      (ap (λ (p : Phase). go_on (draft p t grown)) (sym (phase-snoc xs (bare a))))))))
      (atoms-lead (xs ++ (bare a ∷ [])) ys g)

-- ---- pairs of a schema
pub record PairTests (t : Task) (n : ℕ) (whole : List Pair) : Type 0 where
  pub total : schema_pairs t.schemas + length whole ≤ most_pairs
  pub fit : all (pair_fits n) whole ≡ true
  pub order : pairs_ascend whole ≡ true

abbrev pub pair_lines : List Pair → List Line
pair_lines qs = map (λ q. differ_line (pair_list q)) qs

-- the numbers of a pair that fits have at most 2 digits
pub small-pair : (n : ℕ) (q : Pair) → n ≤ 12 → pair_fits n q ≡ true → Small (pair_list q)
small-pair n q few h = small
  where
    small : Small (pair_list q)
    small x (here e) = let c = pair_fits-fits n q h in let l = c.ascends in let k = c.known in omega arith
    small x (there (there x7)) = elim x7 [ ]
    small x (there (here e)) = let k = (pair_fits-fits n q h).known in omega arith

module _ (u t : Task) (n : ℕ) (whole : List Pair) (c : PairTests t n whole) (few : n ≤ 12) (rest : List Line)
    (r : LeadsTo (inside t n whole []) rest u) where
  pub pairs-lead : (xs ys : List Pair) → whole ≡ xs ++ ys → LeadsTo (inside t n xs []) (pair_lines ys ++ rest) u
  unfolding take_line phase_behind keys_at
  pairs-lead xs [] e = let z : xs ≡ whole = sym (append-nil xs) ∙ sym e in rw z r
  pairs-lead xs (q ∷ ys) e =
      let g : whole ≡ (xs ++ (q ∷ [])) ++ ys = append-eq xs q ys e in
      let after : pair_follows xs q ≡ true = (snoc-ascends pairs-order xs q
      (prefix (λ xs. pairs_ascend xs ≡ true) (λ xs x h. (snoc-ascends pairs-order xs x h).0) (xs ++ (q ∷ [])) ys
      (rw g at c.order))).1 in
      let fit : pair_fits n q ≡ true = all_in (pair_fits n) (rw e at c.fit) (in_right xs (here refl)) in
      let room : schema_pairs t.schemas + length xs < most_pairs =
      let z = c.total in let y = ap length e in omega (arith, length-append xs (q ∷ ys)) in
      goes-on (record { key = differ; listed = here refl; says = says-differ (small-pair n q few fit) (omega arith) })
      (need-met 3 refl (need-met 21 (lt-ltb _ most_pairs room) (need-met 19 fit (need-met 19 after refl))))
      (pairs-lead (xs ++ (q ∷ [])) ys g)

-- ---- schemas
-- what each schema has of a kind, with one in the middle
counts-part : (count : Schema → ℕ) (xs : List Schema) (s : Schema) (ys : List Schema) →
    sum (map count (xs ++ (s ∷ ys))) ≡ sum (map count xs) + (count s + sum (map count ys))
unfolding sum
counts-part count xs s ys =
    ap sum (map-append count xs (s ∷ ys)) ∙ sum-append (map count xs) (map count (s ∷ ys))

pub schema_atoms-part : (xs : List Schema) (s : Schema) (ys : List Schema) →
    schema_atoms (xs ++ (s ∷ ys)) ≡ schema_atoms xs + (length s.atoms + schema_atoms ys)
schema_atoms-part = counts-part (λ s. length s.atoms)

pub schema_pairs-part : (xs : List Schema) (s : Schema) (ys : List Schema) →
    schema_pairs (xs ++ (s ∷ ys)) ≡ schema_pairs xs + (length s.pairs + schema_pairs ys)
schema_pairs-part = counts-part (λ s. length s.pairs)

pub schema-closes : (u : Task) (ss : List Schema) (s : Schema) → SchemaTests u.arities s →
    close_schema (inside (to_schemas u ss) s.params s.pairs (map bare s.atoms)) (map part_of s.atoms) ≡
    go_on (draft between (to_schemas u (ss ++ (s ∷ []))) no_schema)
unfolding close_schema
schema-closes u ss s c =
    let xs = map bare s.atoms in
    let ps = map part_of s.atoms in
    let n : length xs ≡ length s.atoms = length-map s.atoms bare in
    let m : length ps ≡ length xs = length-map s.atoms part_of ∙ sym n in
    let some : leb 1 (length xs) ≡ true = rw n c.some-atom in
    let back : with_parts xs ps ≡ s.atoms = parts-back s.atoms in
    let closed : List Atom → Schema = λ x. with_atoms s x in
    need-met 7 some (need-met 7 (named-bare s.params s.atoms ∙ c.used)
    (need-met 8 (eq-eqb (length ps) (length xs) m) (need-met 8 (count-below 16 s.atoms c.parts)
    (need-met 8 (ap no_gap back ∙ c.filled)
    (ap (λ (x : List Atom). go_on (draft between (to_schemas u (ss ++ (closed x ∷ []))) no_schema)) back)))))

abbrev pub from_schemas : Task → List Schema → List Line
from_schemas u ss = concat_map schema_lines ss ++ from_inits u.init u.goal

module _ (u : Task) (c : TaskTests u) where
  -- a schema's tests, of its atoms while they have no parts
  pub schema-tested : (ss : List Schema) (s : Schema) (left : List Schema) → u.schemas ≡ ss ++ (s ∷ left) →
      SchemaTests u.arities s
  schema-tested ss s left e =
      schema-tests u.arities s (all_in (schema_fits u.arities) (rw e at c.fit) (in_right ss (here refl)))

  pub bare-tested : (ss : List Schema) (s : Schema) (left : List Schema) → u.schemas ≡ ss ++ (s ∷ left) →
      AtomTests (to_schemas u ss) s.params (map bare s.atoms)
  bare-tested ss s left e =
      let q = schema-tested ss s left e in
      let n : length (map bare s.atoms) ≡ length s.atoms = length-map s.atoms bare in
      let fit : Atom → Bool = λ a. args_fit u.arities s.params a.pred a.args in
      let all-atoms = leb-true (schema_atoms u.schemas) 1000 c.atoms in
      let are = ap (λ (x : List Schema). schema_atoms x) e in
      record {
        few = rw n q.few;
        total = omega (arith, schema_atoms-part ss s left);
        roles = roles-bare s.atoms ∙ q.roles;
        fit = all_map fit bare s.atoms ∙ q.fit;
        apart = distinct-bare s.atoms ∙ q.apart;
      }

  pub pairs-tested : (ss : List Schema) (s : Schema) (left : List Schema) → u.schemas ≡ ss ++ (s ∷ left) →
      PairTests (to_schemas u ss) s.params s.pairs
  pairs-tested ss s left e =
      let q = schema-tested ss s left e in
      let all-pairs = leb-true (schema_pairs u.schemas) most_pairs c.pairs in
      let are = ap (λ (x : List Schema). schema_pairs x) e in
      record { total = omega (arith, schema_pairs-part ss s left); fit = q.pairs; order = q.pairs-order }

  pub schema-leads : (ss : List Schema) (s : Schema) (left : List Schema) → u.schemas ≡ ss ++ (s ∷ left) →
      (rest : List Line) → LeadsTo (draft between (to_schemas u (ss ++ (s ∷ []))) no_schema) rest u →
      (z : Schema) → LeadsTo (draft between (to_schemas u ss) z) (schema_lines s ++ rest) u
  unfolding take_line schema_lines keys_at phase_behind
  schema-leads ss s left e rest r z =
      let q = schema-tested ss s left e in
      let t : Task = to_schemas u ss in
      let xs : List Atom = map bare s.atoms in
      let ps : List ℕ = map part_of s.atoms in
      let low = count-below 16 s.atoms q.parts in
      let small : Small ps = λ x i. let m = ltb-true x 16 (all_in (λ p. ltb p 16) low i) in omega arith in
      let few = leb-true s.params 12 q.params in
      let preds = leb-true (length u.arities) 400 c.preds in
      let room = and_both _ _ (room_for u.schemas ss s left 200 c.schemas e) q.params in
      let closing : LeadsTo (inside t s.params s.pairs xs) (part_line ps ∷ rest) u =
      goes-on (record { key = part; listed = part-listed xs; says = says-part small })
      (schema-closes u ss s q) r in
      let atoms = atoms-lead u t s.params s.pairs xs (bare-tested ss s left e) few preds (part_line ps ∷ rest)
      closing [] s.atoms refl in
      let pairs = pairs-lead u t s.params s.pairs (pairs-tested ss s left e) few
      (atom_lines s.atoms ++ (part_line ps ∷ rest)) atoms [] s.pairs refl in
      subst (λ (ls : List Line). LeadsTo (draft between t z) (schema_line s.params ∷ ls) u)
      (joined (pair_lines s.pairs) (atom_lines s.atoms) (part_line ps ∷ []) rest)
      (goes-on (record { key = schema; listed = here refl; says = says-schema {n = s.params} (omega arith) })
      (need-met 4 room refl) pairs)
    where
      joined : (a b c d : List Line) → a ++ (b ++ (c ++ d)) ≡ (a ++ (b ++ c)) ++ d
      joined a b c d = simp append_assoc

  pub schemas-lead : (ss left : List Schema) → u.schemas ≡ ss ++ left → (z : Schema) →
      LeadsTo (draft between (to_schemas u ss) z) (from_schemas u left) u
  unfolding concat_map keys_at
  schemas-lead ss [] e z =
      let q : ss ≡ u.schemas = sym (append-nil ss) ∙ sym e in
      rw q (inits-lead u c between z [] u.init refl
      (there (here refl)) (there (there (here refl))) (there (there (there (here refl)))))
  schemas-lead ss (s ∷ left) e z =
      subst (λ (ls : List Line). LeadsTo (draft between (to_schemas u ss) z) ls u)
      (sym (append_assoc (schema_lines s) (concat_map schema_lines left) (from_inits u.init u.goal)))
      (schema-leads ss s left e (from_schemas u left)
      (schemas-lead (ss ++ (s ∷ [])) left (append-eq ss s left e) no_schema) z)

  pub task-leads : LeadsTo started (task_lines u) u
  unfolding task_lines started take_line keys_at
  task-leads =
      let few = leb-true u.objects 1000 c.objects in
      let small : Small u.arities =
      λ x i. let m = leb-true x 4 (all_in (λ n. leb n 4) c.arities i) in omega arith in
      let some = leb-true 1 (length u.arities) c.some-pred in
      goes-on (record { key = task; listed = here refl; says = says-task {n = 1} (omega arith) }) refl
      (goes-on (record { key = objects; listed = here refl; says = says-objects {n = u.objects} (omega arith) })
      (need-met 4 (and_both _ _ c.some-object c.objects) refl)
      (goes-on (record { key = arity; listed = here refl; says = says-arity small some })
      (need-met 4 (and_both _ _ c.preds c.arities) refl)
      (schemas-lead [] u.schemas refl no_schema)))

-- reading a written file gives its task
pub read-written : (t : Task) → well_formed t ≡ true → read_text (write t) ≡ read t
unfolding read_text write
read-written t h = lines-read next_line take_line May write_line task-exact (task-leads t (task-tests t h)) 1
