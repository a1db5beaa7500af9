-- The text of a table's task by the words of the table: the head, the lines of each schema where its pairs and its
-- atoms begin, and the lines of the initial and the goal atoms, which follow one another.
use Prim.Native.Nat.{ℕ, zero, suc, ◌+◌, ◌-◌, ◌*◌, ◌≤◌, ◌<◌}
use mathlib.Core.Path.{◌≡◌, refl, sym, ◌∙◌, ap, ap₂, subst}
use mathlib.Core.Bool.{true}
use mathlib.Core.List.{List, [], ◌∷◌, ◌++◌, map, append_assoc, append-nil}
use native.Mathlib.Omega.{arith}
use lib.ListN.{length, get_or}
use Rattle.words.specs.Lists.{up_to, up_from, concat_map}
use Rattle.task.specs.Limits.{head_words, atom_size}
use Rattle.task.specs.Layout.{head_in, params_in, pair_base, atom_base}
use Rattle.task.specs.Task.{Atom, Fact, Pair, Schema, Task}
use Rattle.task.specs.Run.{schema_at}
use Rattle.task.specs.Table.{pair_in, atom_in, fact_in, schema_in, task_of, is_table, arities_in}
use Rattle.words.proofs.Lists.{append-concat_map, up_from-in, up_from-append}
use Rattle.task.proofs.Tables.{start_of, indices, pair_start, pair-indices}
use Rattle.task.proofs.PairsStand.{pair_step}
use Rattle.task.proofs.TablesByIndex.{schemas-word}
use Rattle.text.specs.Lines.{digits, commaed, entry_bytes, line}
use Rattle.text.specs.Text.{Key, Line, task_line, objects_line, schema_line, end_line, arity_line, differ_line}
use Rattle.text.specs.Text.{part_line, atom_line, init_line, goal_line, key_name, key_of, role_key, write_line, fact_entry}
use Rattle.text.specs.Text.{atom_entry, pair_list, schema_lines, task_lines, write}
use Rattle.text.specs.TableLines.{spaced, entry_at, atom_key, row_text, atom_text, atoms_text, pairs_text}
use Rattle.text.specs.TableLines.{schema_text, schemas_text, head_text, facts_text}
use Rattle.text.proofs.Onwards.{onwards, onwards-all}
use Rattle.text.proofs.AtomLines.{spaced-words}
use Rattle.text.proofs.SchemaLines.{pair_line, parts_at, schema_text-is}
use Rattle.text.proofs.Pieces.{pieces-map, pieces-pieces, pieces-same, pieces-from, map-from}
use Rattle.text.proofs.TableAtoms.{frame, schema-role, init-role, goal-role}

-- ---- the text of a task, part by part
abbrev pub schema_piece : Schema → List ℕ
schema_piece s = concat_map write_line (schema_lines s)

abbrev pub pair_piece : Pair → List ℕ
pair_piece q = write_line (differ_line (pair_list q))

abbrev pub init_piece : Fact → List ℕ
init_piece f = write_line (init_line (fact_entry f))

abbrev pub goal_piece : Fact → List ℕ
goal_piece f = write_line (goal_line (fact_entry f))

pub write-is : (t : Task) → write t ≡
    write_line (task_line 1) ++ (write_line (objects_line t.objects) ++ (write_line (arity_line t.arities) ++
    (concat_map schema_piece t.schemas ++
    (concat_map init_piece t.init ++ (concat_map goal_piece t.goal ++ write_line (end_line 1))))))
unfolding write task_lines concat_map
write-is t =
    let ss = concat_map schema_lines t.schemas in
    let is : List Line = map (λ f. init_line (fact_entry f)) t.init in
    let gs : List Line = map (λ f. goal_line (fact_entry f)) t.goal in
    let end : List Line = end_line 1 ∷ [] in
    let goals : concat_map write_line (gs ++ end) ≡ concat_map goal_piece t.goal ++ write_line (end_line 1) =
    append-concat_map write_line gs end ∙
    ap₂ (λ (x y : List ℕ). x ++ y) (pieces-map write_line (λ f. goal_line (fact_entry f)) t.goal)
    (append-nil (write_line (end_line 1))) in
    let inits : concat_map write_line (is ++ (gs ++ end)) ≡
    concat_map init_piece t.init ++ (concat_map goal_piece t.goal ++ write_line (end_line 1)) =
    append-concat_map write_line is (gs ++ end) ∙
    ap₂ (λ (x y : List ℕ). x ++ y) (pieces-map write_line (λ f. init_line (fact_entry f)) t.init) goals in
    let schemas : concat_map write_line (ss ++ (is ++ (gs ++ end))) ≡
    concat_map schema_piece t.schemas ++ (concat_map init_piece t.init ++
    (concat_map goal_piece t.goal ++ write_line (end_line 1))) =
    append-concat_map write_line ss (is ++ (gs ++ end)) ∙
    ap₂ (λ (x y : List ℕ). x ++ y) (pieces-pieces write_line schema_lines t.schemas) inits in
    ap (λ (x : List ℕ). write_line (task_line 1) ++
    (write_line (objects_line t.objects) ++ (write_line (arity_line t.arities) ++ x))) schemas

-- ---- lines of atoms
-- a role of a schema's atom has one key, whether its line is said by the atom or by the table
pub role-key : (r : ℕ) → r ≤ 2 → role_key r ≡ atom_key r
unfolding role_key atom_key
role-key zero h = refl
role-key (suc zero) h = refl
role-key (suc (suc zero)) h = refl
role-key (suc (suc (suc r))) h = absurd (omega arith)

module _ (w : List ℕ) where
  -- the line of atom i
  abbrev pub line_in : ℕ → List ℕ
  line_in i = atom_text w (atom_base w i)

  -- pair i says its line as the table does
  differ-line : (i : ℕ) → pair_piece (pair_in w i) ≡ line "differ" (commaed (spaced w (pair_base w i + 1) 1 2))
  unfolding write_line pair_in spaced up_to
  differ-line i =
      let b = pair_base w i in
      let e : b + 1 ≡ b + 1 + 1 * 0 = omega arith in
      let f : b + 2 ≡ b + 1 + 1 * 1 = omega arith in
      ap₂ (λ (x y : ℕ). line "differ" (commaed (get_or w x 0 ∷ get_or w y 0 ∷ []))) e f

  pub atoms_text-from : (i n : ℕ) → concat_map line_in (up_from i n) ≡ atoms_text w (atom_base w i) n
  unfolding atoms_text atom_base up_to
  atoms_text-from i n =
      let z : i ≡ i + 0 = omega arith in
      ap (λ (j : ℕ). concat_map line_in (up_from j n)) z ∙
      pieces-from line_in (λ k. atom_text w (atom_base w i + atom_size * k)) i 0 n
      (λ j. let e : atom_base w (i + j) ≡ atom_base w i + atom_size * j = omega arith in ap (atom_text w) e)

  pub pairs_text-from : (i n : ℕ) → concat_map (λ j. pair_piece (pair_in w j)) (up_from i n) ≡ pairs_text w (pair_base w i) n
  unfolding pairs_text up_to
  pairs_text-from i n =
      let z : i ≡ i + 0 = omega arith in
      ap (λ (j : ℕ). concat_map (λ j. pair_piece (pair_in w j)) (up_from j n)) z ∙
      pieces-from (λ j. pair_piece (pair_in w j)) (pair_line w (pair_base w i)) i 0 n
      (λ j. differ-line (i + j) ∙
      ap (λ (b : ℕ). line "differ" (commaed (spaced w (b + 1) 1 2))) (pair_step w i j))

  pub parts-from : (i n : ℕ) → map (λ a. a.part) (map (atom_in w) (up_from i n)) ≡ spaced w (atom_base w i + 3) atom_size n
  unfolding spaced atom_base atom_in up_to
  parts-from i n =
      let z : i ≡ i + 0 = omega arith in
      map-map (up_from i n) ∙
      (ap (λ (j : ℕ). map (λ i. (atom_in w i).part) (up_from j n)) z ∙
      map-from (λ i. (atom_in w i).part) (λ k. get_or w (atom_base w i + 3 + atom_size * k) 0) i 0 n
      (λ j. let e : atom_base w (i + j) + 3 ≡ atom_base w i + 3 + atom_size * j = omega arith in
      ap (λ (k : ℕ). get_or w k 0) e))
    where
      map-map : (js : List ℕ) → map (λ a. a.part) (map (atom_in w) js) ≡ map (λ i. (atom_in w i).part) js
      map-map [] = refl
      map-map (j ∷ js) = ap {B = List ℕ} (λ (xs : List ℕ). (atom_in w j).part ∷ xs) (map-map js)

  -- atom i of a schema says its line as the table does
  schema-line : (i : ℕ) → (atom_in w i).role ≤ 2 →
      write_line (atom_line (atom_in w i).role (atom_entry (atom_in w i))) ≡ line_in i
  unfolding write_line key_of atom_text row_text entry_at atom_in atom_entry
  schema-line i h =
      ap (λ (k : Key). line (key_name k) (entry_bytes (atom_entry (atom_in w i)))) (role-key (atom_in w i).role h)

  init-line : (i : ℕ) → get_or w (atom_base w i + 1) 0 ≡ 3 → init_piece (fact_in w i) ≡ line_in i
  unfolding write_line key_of atom_text row_text atom_key entry_at atom_in fact_in fact_entry
  init-line i e = ap (λ (r : ℕ). line (key_name (atom_key r)) (entry_bytes (fact_entry (fact_in w i)))) (sym e)

  goal-line : (i : ℕ) → get_or w (atom_base w i + 1) 0 ≡ 4 → goal_piece (fact_in w i) ≡ line_in i
  unfolding write_line key_of atom_text row_text atom_key entry_at atom_in fact_in fact_entry
  goal-line i e = ap (λ (r : ℕ). line (key_name (atom_key r)) (entry_bytes (fact_entry (fact_in w i)))) (sym e)

-- ---- a table's schemas
-- the lines of schema s of a table
abbrev pub schema_lines_in : List ℕ → ℕ → List ℕ
schema_lines_in w s = schema_piece (schema_in w s)

pub schemas-onwards : (w : List ℕ) → onwards (schema_lines_in w) 0 (head_in w).schemas ≡ schemas_text w
unfolding schemas_text task_of
schemas-onwards w =
    onwards-all (schema_lines_in w) (head_in w).schemas ∙
    sym (pieces-map schema_piece (schema_in w) (up_to (head_in w).schemas))

schema-said : (n : ℕ) → write_line (schema_line n) ≡ line "schema" (digits n)
unfolding write_line
schema-said n = refl

part-said : (ns : List ℕ) → write_line (part_line ns) ≡ line "part" (commaed ns)
unfolding write_line
part-said ns = refl

-- the lines of a schema whose pairs are m from pair j on, and whose atoms are n from atom i on
lines_of : (w : List ℕ) (params j m i n : ℕ) → ((k : ℕ) → i ≤ k → k < i + n → (atom_in w k).role ≤ 2) →
    schema_piece (record {
      params = params;
      pairs = map (pair_in w) (up_from j m);
      atoms = map (atom_in w) (up_from i n);
    }) ≡
    schema_text w params (pair_base w j) m (atom_base w i) n
unfolding schema_lines concat_map
lines_of w params j m i n roles =
    let told : Pair → Line = λ q. differ_line (pair_list q) in
    let said : Atom → Line = λ a. atom_line a.role (atom_entry a) in
    let pairs : List Pair = map (pair_in w) (up_from j m) in
    let atoms : List Atom = map (atom_in w) (up_from i n) in
    let last : List Line = part_line (map (λ a. a.part) atoms) ∷ [] in
    let differs : concat_map write_line (map told pairs) ≡ pairs_text w (pair_base w j) m =
    pieces-map write_line told pairs ∙
    (pieces-map pair_piece (pair_in w) (up_from j m) ∙ pairs_text-from w j m) in
    let each : concat_map write_line (map said atoms) ≡ atoms_text w (atom_base w i) n =
    pieces-map write_line said atoms ∙
    (pieces-map (λ a. write_line (said a)) (atom_in w) (up_from i n) ∙
    (pieces-same (λ k. write_line (said (atom_in w k))) (line_in w) (up_from i n)
    (λ k x. let (a, b) = up_from-in i n k x in schema-line w k (roles k a b)) ∙
    atoms_text-from w i n)) in
    let parts : concat_map write_line last ≡ line "part" (parts_at w (atom_base w i) n) =
    append-nil (write_line (part_line (map (λ a. a.part) atoms))) ∙
    (part-said (map (λ a. a.part) atoms) ∙ ap (λ (ns : List ℕ). line "part" (commaed ns)) (parts-from w i n)) in
    let behind : concat_map write_line (map said atoms ++ last) ≡
    atoms_text w (atom_base w i) n ++ line "part" (parts_at w (atom_base w i) n) =
    append-concat_map write_line (map said atoms) last ∙ ap₂ (λ (x y : List ℕ). x ++ y) each parts in
    let rest : concat_map write_line (map told pairs ++ (map said atoms ++ last)) ≡
    pairs_text w (pair_base w j) m ++ (atoms_text w (atom_base w i) n ++ line "part" (parts_at w (atom_base w i) n)) =
    append-concat_map write_line (map told pairs) (map said atoms ++ last) ∙
    ap₂ (λ (x y : List ℕ). x ++ y) differs behind in
    ap₂ (λ (x y : List ℕ). x ++ y) (schema-said params) rest ∙
    sym (schema_text-is w params (pair_base w j) m (atom_base w i) n)

-- the lines of schema s: its pairs and its atoms begin where those of the schemas before it end
pub schema-lines : (w : List ℕ) → is_table w ≡ true → (s : ℕ) → s < (head_in w).schemas →
    schema_lines_in w s ≡
    schema_text w (params_in w s) (pair_base w (pair_start (task_of w) s)) (length (schema_at (task_of w) s).pairs)
    (atom_base w (start_of (task_of w) s)) (length (schema_at (task_of w) s).atoms)
unfolding schema_at
schema-lines w table s l =
    let t = task_of w in
    let f = frame w table in
    let n = schemas-word w f in
    let params : ℕ = params_in w s in
    ap₂ (λ (ks js : List ℕ). schema_piece (record {
      params = params;
      pairs = map (pair_in w) ks;
      atoms = map (atom_in w) js;
    }))
    (pair-indices w t f.sizes f.tabled s (omega arith)) (indices w t f.sizes f.tabled s (omega arith)) ∙
    lines_of w params (pair_start t s) (length (schema_at t s).pairs) (start_of t s) (length (schema_at t s).atoms)
    (λ j a b.
    let k : ℕ = j - start_of t s in
    let e : start_of t s + k ≡ j = omega arith in
    subst (λ (x : ℕ). (atom_in w x).role ≤ 2) e (schema-role w table s k l (omega arith)))

-- ---- a table's initial and goal atoms
facts-pieces : (w : List ℕ) →
    facts_text w ≡ concat_map init_piece (task_of w).init ++ concat_map goal_piece (task_of w).goal
unfolding facts_text
facts-pieces w =
    let init : Fact → Line = λ f. init_line (fact_entry f) in
    let goal : Fact → Line = λ f. goal_line (fact_entry f) in
    append-concat_map write_line (map init (task_of w).init) (map goal (task_of w).goal) ∙
    ap₂ (λ (x y : List ℕ). x ++ y) (pieces-map write_line init (task_of w).init)
    (pieces-map write_line goal (task_of w).goal)

-- in a table they are the atoms behind those of the schemas
pub facts-lines : (w : List ℕ) → is_table w ≡ true →
    facts_text w ≡
    atoms_text w (atom_base w (head_in w).schema_atoms) ((head_in w).initial_atoms + (head_in w).goal_atoms)
unfolding task_of
facts-lines w table =
    let i : ℕ = (head_in w).schema_atoms in
    let n : ℕ = (head_in w).initial_atoms in
    let m : ℕ = (head_in w).goal_atoms in
    let inits : concat_map init_piece (map (fact_in w) (up_from i n)) ≡ concat_map (line_in w) (up_from i n) =
    pieces-map init_piece (fact_in w) (up_from i n) ∙
    pieces-same (λ j. init_piece (fact_in w j)) (line_in w) (up_from i n) (λ j k.
    let (a, b) = up_from-in i n j k in
    let e : i + (j - i) ≡ j = omega arith in
    init-line w j (subst (λ (x : ℕ). get_or w (atom_base w x + 1) 0 ≡ 3) e (init-role w table (j - i) (omega arith)))) in
    let goals : concat_map goal_piece (map (fact_in w) (up_from (i + n) m)) ≡ concat_map (line_in w) (up_from (i + n) m) =
    pieces-map goal_piece (fact_in w) (up_from (i + n) m) ∙
    pieces-same (λ j. goal_piece (fact_in w j)) (line_in w) (up_from (i + n) m) (λ j k.
    let (a, b) = up_from-in (i + n) m j k in
    let e : i + n + (j - (i + n)) ≡ j = omega arith in
    goal-line w j (subst (λ (x : ℕ). get_or w (atom_base w x + 1) 0 ≡ 4) e
    (goal-role w table (j - (i + n)) (omega arith)))) in
    facts-pieces w ∙
    (ap₂ (λ (x y : List ℕ). x ++ y) inits goals ∙
    (sym (append-concat_map (line_in w) (up_from i n) (up_from (i + n) m)) ∙
    (ap (concat_map (line_in w)) (sym (up_from-append i n m)) ∙ atoms_text-from w i (n + m))))

-- ---- the whole text of a table
head-is : (w bs : List ℕ) →
    write_line (task_line 1) ++ (write_line (objects_line (head_in w).objects) ++
    (write_line (arity_line (arities_in w)) ++ bs)) ≡
    head_text w ++ bs
unfolding head_text write_line
head-is w bs =
    let task = line "task" (digits 1) in
    let objects = line "objects" (digits (head_in w).objects) in
    let arities = line "arity" (commaed (spaced w head_words 1 (head_in w).predicates)) in
    ap (λ (ns : List ℕ). task ++ (objects ++ (line "arity" (commaed ns) ++ bs)))
    (sym (spaced-words w head_words (head_in w).predicates)) ∙
    (ap (λ (x : List ℕ). task ++ x) (sym (append_assoc objects arities bs)) ∙
    sym (append_assoc task (objects ++ arities) bs))

pub write-table : (w : List ℕ) →
    write (task_of w) ≡ head_text w ++ (schemas_text w ++ (facts_text w ++ write_line (end_line 1)))
unfolding task_of schemas_text
write-table w =
    let t = task_of w in
    let end = write_line (end_line 1) in
    let inits = concat_map init_piece t.init in
    let goals = concat_map goal_piece t.goal in
    let facts : inits ++ (goals ++ end) ≡ facts_text w ++ end =
    sym (append_assoc inits goals end) ∙ ap (λ (x : List ℕ). x ++ end) (sym (facts-pieces w)) in
    write-is t ∙
    (head-is w (schemas_text w ++ (inits ++ (goals ++ end))) ∙
    ap (λ (x : List ℕ). head_text w ++ (schemas_text w ++ x)) facts)
