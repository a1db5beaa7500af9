-- How long the text of a task can be. A number below 10 ^ d has at most d digits, so the limits of a task bound its
-- lines: predicates have three digits, parameters, parts and parameter counts two, objects as arguments three and their
-- count four, arities one. So the line of a pair takes 13 bytes; with four arguments at most, that of a schema's atom
-- takes 20, and that of an initial or goal atom 25; the limits on how many there are bound the whole.
use Prim.Native.Nat.{ℕ, zero, suc, ◌+◌, ◌*◌, ◌^◌, ◌≤◌, ◌<◌}
use mathlib.Core.Path.{◌≡◌, refl, ap}
use mathlib.Core.Bool.{true}
use mathlib.Core.List.{List, [], ◌∷◌, ◌++◌, map}
use native.Mathlib.Omega.{arith}
use lib.ListN.{length, length-append, length-map}
use lib.Dec.{ltb, leb}
use borrow.Author.Tests.{ltb-true, leb-true}
use Rattle.words.specs.Lists.{all, sum, concat_map}
use Rattle.task.specs.Limits.{most_objects, most_predicates, most_schemas, most_schema_atoms, most_initial, most_goal}
use Rattle.task.specs.Limits.{most_arity, most_parameters, most_parts, most_pairs}
use Rattle.task.specs.Task.{Atom, Fact, Pair, Schema, Task, args_fit, facts_fit, pair_fits, schema_fits, schema_atoms}
use Rattle.task.specs.Task.{schema_pairs, well_formed}
use Rattle.words.proofs.Lists.{and_left, and_right, In, here, there, all_in, append-concat_map}
use Rattle.task.proofs.Tests.{SchemaTests, schema-tests, fits, fact-tests, TaskTests, task-tests}
use Rattle.task.proofs.States.{args_fit-fitting}
use Rattle.task.proofs.AtomsStand.{sized}
use Rattle.text.specs.Lines.{Entry, newline, colon, digits, commaed, entry_bytes, bytes}
use Rattle.text.specs.Text.{role_key, Line, task_line, objects_line, schema_line, end_line, arity_line, differ_line}
use Rattle.text.specs.Text.{part_line, atom_line, write_line, fact_entry, atom_entry, pair_list, schema_lines, write}
use Rattle.text.specs.TableLines.{longest_text}
use Rattle.text.proofs.DigitSteps.{digits-most}
use Rattle.text.proofs.AtomLines.{Within, commaed-within}
use Rattle.text.proofs.Parts.{count-below}
use Rattle.text.proofs.Pieces.{pieces-map, pieces-most}
use Rattle.text.proofs.TableText.{schema_piece, pair_piece, init_piece, goal_piece, write-is}

-- ---- lines
length-line : (key : List ℕ) (body : List ℕ) →
    length (key ++ (61 ∷ (body ++ (newline ∷ [])))) ≡ length key + (length body + 2)
length-line key body =
    let e = length-append key (61 ∷ (body ++ (newline ∷ []))) in
    let f = length-append body (newline ∷ []) in
    omega arith

task_line-long : length (write_line (task_line 1)) ≡ 7
unfolding write_line
task_line-long = refl

objects_line-most : (n : ℕ) → n ≤ most_objects → length (write_line (objects_line n)) ≤ 13
unfolding write_line
objects_line-most n h =
    let l = length-line (bytes "objects") (digits n) in
    let d = digits-most 4 (omega arith) n (omega arith) in
    omega arith

arity_line-most : (ns : List ℕ) → length ns ≤ most_predicates → all (λ n. leb n most_arity) ns ≡ true →
    length (write_line (arity_line ns)) ≤ 806
unfolding write_line
arity_line-most ns h small =
    let l = length-line (bytes "arity") (commaed ns) in
    let each : Within 1 ns =
    λ n i. let s = leb-true n most_arity (all_in (λ n. leb n most_arity) small i) in
    digits-most 1 (omega arith) n (omega arith) in
    let d = commaed-within 1 most_predicates ns h each in
    omega arith

schema_line-most : (n : ℕ) → n ≤ most_parameters → length (write_line (schema_line n)) ≤ 10
unfolding write_line
schema_line-most n h =
    let l = length-line (bytes "schema") (digits n) in
    let d = digits-most 2 (omega arith) n (omega arith) in
    omega arith

differ_line-most : (params : ℕ) → params ≤ most_parameters → (q : Pair) → pair_fits params q ≡ true →
    length (pair_piece q) ≤ 13
unfolding write_line pair_fits
differ_line-most params few q h =
    let lower = ltb-true q.lower q.higher (and_left (ltb q.lower q.higher) _ h) in
    let higher = ltb-true q.higher params (and_right (ltb q.lower q.higher) _ h) in
    let l = length-line (bytes "differ") (commaed (pair_list q)) in
    let d = commaed-within 2 2 (pair_list q) (omega arith) (each (omega arith) (omega arith)) in
    omega arith
  where
    each : q.lower < 100 → q.higher < 100 → Within 2 (pair_list q)
    each a b n (here e) = digits-most 2 (omega arith) n (omega arith)
    each a b n (there (there x6)) = elim x6 [ ]
    each a b n (there (here e)) = digits-most 2 (omega arith) n (omega arith)

part_line-most : (ns : List ℕ) → 1 ≤ length ns → all (λ p. ltb p most_parts) ns ≡ true →
    length (write_line (part_line ns)) ≤ 5 + 3 * length ns
unfolding write_line
part_line-most ns some small =
    let l = length-line (bytes "part") (commaed ns) in
    let each : Within 2 ns =
    λ n i. let s = ltb-true n most_parts (all_in (λ p. ltb p most_parts) small i) in
    digits-most 2 (omega arith) n (omega arith) in
    let d = commaed-within 2 (length ns) ns (omega arith) each in
    omega arith

atom_line-most : (r : ℕ) (e : Entry) → length (entry_bytes e) ≤ 15 → length (write_line (atom_line r e)) ≤ 20
unfolding write_line role_key
atom_line-most zero e h = let l = length-line (bytes "pre") (entry_bytes e) in omega arith
atom_line-most (suc zero) e h = let l = length-line (bytes "add") (entry_bytes e) in omega arith
atom_line-most (suc (suc r)) e h = let l = length-line (bytes "del") (entry_bytes e) in omega arith

init_line-most : (f : Fact) → length (entry_bytes (fact_entry f)) ≤ 19 → length (init_piece f) ≤ 25
unfolding write_line
init_line-most f h = let l = length-line (bytes "init") (entry_bytes (fact_entry f)) in omega arith

goal_line-most : (f : Fact) → length (entry_bytes (fact_entry f)) ≤ 19 → length (goal_piece f) ≤ 25
unfolding write_line
goal_line-most f h = let l = length-line (bytes "goal") (entry_bytes (fact_entry f)) in omega arith

end_line-long : length (write_line (end_line 1)) ≡ 6
unfolding write_line
end_line-long = refl

module _ (t : Task) (c : TaskTests t) where
  -- ---- atoms
  -- a predicate, a colon, and at most four arguments of at most d digits
  entry-most : (d : ℕ) → 1 ≤ d → (n : ℕ) → n ≤ 10 ^ d → (e : Entry) →
      args_fit t.arities n e.head e.list ≡ true → length (entry_bytes e) ≤ 7 + 4 * d
  unfolding entry_bytes
  entry-most d some n few e h =
      let preds = leb-true (length t.arities) most_predicates c.preds in
      let fit = args_fit-fitting n t.arities e.head e.list h in
      let known = fit.known in
      let head = digits-most 3 (omega arith) e.head (omega arith) in
      let short = (sized n t.arities e.head e.list c.arities h).short in
      let each : Within d e.list = λ x i. let l = fit.small x i in digits-most d some x (omega arith) in
      let list = commaed-within d most_arity e.list short each in
      omega (arith, length-append (digits e.head) (colon ∷ commaed e.list))

  atom-most : (s : Schema) → SchemaTests t.arities s → (a : Atom) → In a s.atoms →
      length (write_line (atom_line a.role (atom_entry a))) ≤ 20
  unfolding atom_entry
  atom-most s q a i =
      let few = leb-true s.params most_parameters q.params in
      atom_line-most a.role (atom_entry a) (entry-most 2 (omega arith) s.params (omega arith) (atom_entry a)
      (all_in (λ a. args_fit t.arities s.params a.pred a.args) q.fit i))

  -- initial and goal atoms
  fact-most : (fs : List Fact) → facts_fit t.objects t.arities fs ≡ true → (f : Fact) → In f fs →
      length (entry_bytes (fact_entry f)) ≤ 19
  unfolding fact_entry
  fact-most fs h f i =
      let few = leb-true t.objects most_objects c.objects in
      entry-most 3 (omega arith) t.objects (omega arith) (fact_entry f)
      (all_in (fits t.objects t.arities) (fact-tests t.objects t.arities fs h).fit i)

  -- ---- schemas
  schema-most : (s : Schema) → schema_fits t.arities s ≡ true →
      length (schema_piece s) ≤ 15 + 13 * length s.pairs + 23 * length s.atoms
  unfolding schema_lines concat_map
  schema-most s h =
      let q = schema-tests t.arities s h in
      let few = leb-true s.params most_parameters q.params in
      let told : Pair → Line = λ q. differ_line (pair_list q) in
      let said : Atom → Line = λ a. atom_line a.role (atom_entry a) in
      let parts : List ℕ = map (λ a. a.part) s.atoms in
      let last : List Line = part_line parts ∷ [] in
      let behind : List Line = map said s.atoms ++ last in
      let head = schema_line-most s.params few in
      let whole = length-append (write_line (schema_line s.params))
      (concat_map write_line (map told s.pairs ++ behind)) in
      let rest = ap length (append-concat_map write_line (map told s.pairs) behind) in
      let two = length-append (concat_map write_line (map told s.pairs)) (concat_map write_line behind) in
      let differs = ap length (pieces-map write_line told s.pairs) in
      let pairs = pieces-most pair_piece 13 s.pairs (λ r i.
      differ_line-most s.params few r (all_in (pair_fits s.params) q.pairs i)) in
      let third = ap length (append-concat_map write_line (map said s.atoms) last) in
      let both = length-append (concat_map write_line (map said s.atoms)) (concat_map write_line last) in
      let end = length-append (write_line (part_line parts)) [] in
      let same = ap length (pieces-map write_line said s.atoms) in
      let each = pieces-most (λ a. write_line (said a)) 20 s.atoms (atom-most s q) in
      let count = length-map s.atoms (λ (a : Atom). a.part) in
      let some = leb-true 1 (length s.atoms) q.some-atom in
      let part = part_line-most parts (omega arith) (count-below most_parts s.atoms q.parts) in
      omega arith

  schemas-most : (ss : List Schema) → ((s : Schema) → In s ss → schema_fits t.arities s ≡ true) →
      length (concat_map schema_piece ss) ≤ 15 * length ss + 13 * schema_pairs ss + 23 * schema_atoms ss
  unfolding concat_map sum
  schemas-most [] h = omega arith
  schemas-most (s ∷ ss) h =
      let a = schema-most s (h s (here refl)) in
      let r = schemas-most ss (λ y i. h y (there i)) in
      let e = length-append (schema_piece s) (concat_map schema_piece ss) in
      omega arith

-- ---- the whole
pub text-most : (t : Task) → well_formed t ≡ true → length (write t) ≤ longest_text
unfolding longest_text
text-most t well =
    let c = task-tests t well in
    let end = write_line (end_line 1) in
    let goals = concat_map goal_piece t.goal in
    let inits = concat_map init_piece t.init in
    let schemas = concat_map schema_piece t.schemas in
    let arities = write_line (arity_line t.arities) in
    let objects = write_line (objects_line t.objects) in
    let e₀ = ap length (write-is t) in
    let e₁ = length-append (write_line (task_line 1)) (objects ++ (arities ++ (schemas ++ (inits ++ (goals ++ end))))) in
    let e₂ = length-append objects (arities ++ (schemas ++ (inits ++ (goals ++ end)))) in
    let e₃ = length-append arities (schemas ++ (inits ++ (goals ++ end))) in
    let e₄ = length-append schemas (inits ++ (goals ++ end)) in
    let e₅ = length-append inits (goals ++ end) in
    let e₆ = length-append goals end in
    let m₁ = task_line-long in
    let m₂ = objects_line-most t.objects (leb-true t.objects most_objects c.objects) in
    let m₃ = arity_line-most t.arities (leb-true (length t.arities) most_predicates c.preds) c.arities in
    let m₄ = schemas-most t c t.schemas (λ s i. all_in (schema_fits t.arities) c.fit i) in
    let m₅ = pieces-most init_piece 25 t.init (λ f i. init_line-most f (fact-most t c t.init c.init f i)) in
    let m₆ = pieces-most goal_piece 25 t.goal (λ f i. goal_line-most f (fact-most t c t.goal c.goal f i)) in
    let m₇ = end_line-long in
    let many = leb-true (length t.schemas) most_schemas c.schemas in
    let atoms = leb-true (schema_atoms t.schemas) most_schema_atoms c.atoms in
    let pairs = leb-true (schema_pairs t.schemas) most_pairs c.pairs in
    let first = leb-true (length t.init) most_initial c.inits in
    let last = leb-true (length t.goal) most_goal c.goals in
    omega arith
