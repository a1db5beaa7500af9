-- Where the atoms of each schema begin, found in one pass: each atom writes the place behind itself as the end of its
-- schema, and the last of a schema leaves the right one, since atoms stand schema by schema and none lacks an atom.
use Prim.Native.Nat.{ℕ, zero, suc, ◌+◌, ◌≤◌, ◌<◌}
use mathlib.Core.Path.{◌≡◌, sym, ◌∙◌, ap, subst}
use mathlib.Core.Bool.{true}
use mathlib.Core.List.{List}
use Rattle.std.specs.Prelude.{Option, None, Some}
use Rattle.std.specs.Option.{MatchOption, unwrap_or}
use native.Mathlib.Omega.{arith}
use native.Mathlib.Decide.{dec_lt}
use lib.ListN.{length, get_or, set, length-set}
use lib.Seq.{get_or-set_same, get_or-set_other}
use borrow.Author.Tests.{leb-true}
use Rattle.words.specs.Lists.{sum}
use Rattle.task.specs.Limits.{most_schemas}
use Rattle.task.specs.Layout.{head_in}
use Rattle.task.specs.Task.{Task, schema_fits, no_schema}
use Rattle.task.specs.Table.{atom_in, schema_number_in, task_of, is_table}
use Rattle.task.specs.Run.{schema_at}
use Rattle.task.specs.Turns.{Starts, RoleEnds}
use Rattle.words.proofs.Lists.{all_in, in-get_or, sum-take-rises}
use Rattle.task.proofs.Tests.{schema-tests, task-tests}
use Rattle.task.proofs.AtomsStand.{counts}
use Rattle.task.proofs.Tables.{start_of, of-table}
use Rattle.task.proofs.TablesByIndex.{table-frame, schemas-word, start-suc, start-end, atom-lies}

-- ---- starts
-- the schemas that end by atom k have their ends
pub record StartsSo (w : List ℕ) (k : ℕ) (starts : List ℕ) : Type 0 where
  pub size : length starts ≡ most_schemas + 1
  pub first : get_or starts 0 0 ≡ 0
  pub ends : (s : ℕ) → s < (head_in w).schemas → start_of (task_of w) (suc s) ≤ k →
      get_or starts (suc s) 0 ≡ start_of (task_of w) (suc s)

module _ (w : List ℕ) (h : is_table w ≡ true) where
  abbrev t : Task
  t = task_of w

  pub start-more : (s : ℕ) → s < (head_in w).schemas → start_of t s < start_of t (suc s)
  unfolding schema_at
  start-more s l =
      let fr = table-frame w h in
      let e = start-suc w fr s l in
      let n = schemas-word w fr in
      let c = task-tests t (of-table w h).0 in
      let q = schema-tests t.arities (get_or t.schemas s no_schema)
      (all_in (schema_fits t.arities) c.fit (in-get_or t.schemas s no_schema (omega arith))) in
      let m = leb-true 1 (length (get_or t.schemas s no_schema).atoms) q.some-atom in
      omega arith

  pub start-rises : (m n : ℕ) → m ≤ n → start_of t m ≤ start_of t n
  start-rises m n l = sum-take-rises (counts t.schemas) m n l

  pub schemas-few : (head_in w).schemas ≤ 200
  schemas-few =
      let n = schemas-word w (table-frame w h) in
      let l = leb-true (length t.schemas) 200 (task-tests t (of-table w h).0).schemas in
      omega arith

  pub schema-low : (k : ℕ) → k < (head_in w).schema_atoms → schema_number_in w k < most_schemas
  schema-low k l = let a = (atom-lies w (table-frame w h) k l).known in let f = schemas-few in omega arith

  pub starts_none : (starts : List ℕ) → length starts ≡ most_schemas + 1 → get_or starts 0 0 ≡ 0 → StartsSo w 0 starts
  starts_none starts z e = record {
    size = z;
    first = e;
    ends =
        λ s l m. absurd (let y = start-more s l in omega arith);
  }

  pub starts-turn : (k : ℕ) (starts : List ℕ) (m : ℕ) → k < (head_in w).schema_atoms → m ≡ schema_number_in w k →
      StartsSo w k starts →
      StartsSo w (k + 1) (set starts (m + 1) (k + 1))
  starts-turn k starts m l e c =
      let fr = table-frame w h in
      let lies = atom-lies w fr k l in
      let a = lies.known in
      record {
        size = length-set starts (m + 1) (k + 1) ∙ c.size;
        first = get_or-set_other starts (m + 1) 0 (k + 1) 0 (λ q. omega arith) ∙ c.first;
        ends = λ s x y. go s x y (dec_lt s m) (dec_lt m s);
      }
    where
      known : m < (head_in w).schemas
      known = let a = (atom-lies w (table-frame w h) k l).known in omega arith

      lower : start_of t m ≤ k
      lower = subst (λ (j : ℕ). start_of t j ≤ k) (sym e) (atom-lies w (table-frame w h) k l).from_start

      upper : k < start_of t (suc m)
      upper = subst (λ (j : ℕ). k < start_of t (suc j)) (sym e) (atom-lies w (table-frame w h) k l).before-next

      go : (s : ℕ) → s < (head_in w).schemas → start_of t (suc s) ≤ k + 1 → Dec (s < m) → Dec (m < s) →
          get_or (set starts (m + 1) (k + 1)) (suc s) 0 ≡ start_of t (suc s)
      go s x y (yes p) q =
          let r = start-rises (suc s) m (omega arith) in
          let z = lower in
          get_or-set_other starts (m + 1) (suc s) (k + 1) 0 (λ u. omega arith) ∙ c.ends s x (omega arith)
      go s x y (no p) (yes q) =
          let r = start-rises (suc m) s (omega arith) in
          let z = start-more s x in
          let u = upper in
          absurd (omega arith)
      go s x y (no p) (no q) =
          let z : m ≡ s = omega arith in
          let v : m + 1 ≡ suc s = omega arith in
          let i : m + 1 < length starts = (let a = known in let b = schemas-few in let d = c.size in omega arith) in
          let u = upper in
          let r : start_of t (suc m) ≡ start_of t (suc s) = ap (λ (j : ℕ). start_of t (suc j)) z in
          ap (λ (j : ℕ). get_or (set starts (m + 1) (k + 1)) j 0) (sym v) ∙
          (get_or-set_same starts (m + 1) (k + 1) 0 i ∙ (omega arith))

  pub starts-end : (k : ℕ) (starts : List ℕ) → (head_in w).schema_atoms ≤ k → StartsSo w k starts → Starts t starts
  unfolding sum
  starts-end k starts l c zero m = c.first
  starts-end k starts l c (suc s) m =
      let fr = table-frame w h in
      let n = schemas-word w fr in
      let e = start-end w fr in
      let r = start-rises (suc s) (head_in w).schemas (omega arith) in
      c.ends s (omega arith) (omega arith)

-- ---- roles
-- the first atom with another role, or the end
pub role-found : (w : List ℕ) (a b role : ℕ) (r : Option ℕ) → a ≤ b →
    MatchOption r ((k : ℕ) → a ≤ k → k < b → (atom_in w k).role ≡ role)
    (λ i. (a ≤ i) × (i < b) × ((atom_in w i).role ≡ role → ⊥) ×
    ((k : ℕ) → a ≤ k → k < i → (atom_in w k).role ≡ role)) → RoleEnds w a b role (unwrap_or r b)
role-found w a b role None l h =
    record { from = l; within = omega arith; has = h; stops = λ x e. absurd (omega arith) }
role-found w a b role (Some i) l h =
    record { from = h.0; within = let m = h.1 in omega arith; has = h.3; stops = λ x e. h.2 e }
