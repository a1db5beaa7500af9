-- Stretches of a table's schema atoms and of its pairs: where their words lie, what is known of each row, and how a
-- stretch grows by a row. A schema's atoms are such a stretch, and so are its pairs.
use Prim.Native.Nat.{ℕ, suc, ◌+◌, ◌-◌, ◌≤◌, ◌<◌}
use mathlib.Core.Path.{◌≡◌, sym, ◌∙◌, ap}
use mathlib.Core.Bool.{true}
use mathlib.Core.List.{List, [], ◌∷◌, ◌++◌, map}
use native.Mathlib.Omega.{arith}
use lib.ListN.{length}
use borrow.Author.Tests.{leb-true}
use Rattle.words.specs.Lists.{up_from}
use Rattle.task.specs.Layout.{head_in, atom_total}
use Rattle.task.specs.Task.{Atom, Schema, Task, part_count, schema_fits, no_schema}
use Rattle.task.specs.Run.{schema_at}
use Rattle.task.specs.Table.{atom_in, schema_number_in, task_of, is_table}
use Rattle.task.specs.WordTests.{Roomy}
use Rattle.words.proofs.Lists.{In, all_in, in-get_or, map-in, map-append, up_from-in, up_from-append, tabulate}
use Rattle.words.proofs.Lists.{sum-take-rises}
use Rattle.task.proofs.Tests.{schema-tests, task-tests}
use Rattle.task.proofs.AtomsStand.{no_atom}
use Rattle.task.proofs.Tables.{start_of, pair_start, of-table}
use Rattle.task.proofs.TableReads.{table-roomy}
use Rattle.task.proofs.SchemaRows.{row_counts, first_row, ByIndex}
use Rattle.task.proofs.TablesByIndex.{Frame, table-frame, schemas-word, atom-rows, pair-rows, atom-at, atom-lies}
use Rattle.task.proofs.TablesByIndex.{start-suc}
use Rattle.task.proofs.SchemaWords.{part_small}
use Rattle.arcs.specs.Stretches.{IsSchemaAtom, IsStretch, IsPairStretch, stretch, stretch_in, pair_stretch_in}

-- ---- an atom of a table
-- it has a row, and every row lies in the table
pub atom-row : {w : List ℕ} {i : ℕ} → IsSchemaAtom w i → Roomy w × (i < atom_total w)
atom-row {w} a = (table-roomy w a.table, let k = a.known in omega arith)

-- "It has 1 to 16 parts"
pub part-below : (w : List ℕ) (i : ℕ) → IsSchemaAtom w i → (atom_in w i).part < 16
unfolding schema_at
part-below w i a =
    let t = task_of w in
    let fr = table-frame w a.table in
    let s = schema_number_in w i in
    let lies = atom-lies w fr i a.known in
    let k = i - start_of t s in
    let g = start-suc w fr s lies.known in
    let n = schemas-word w fr in
    let l : k < length (schema_at t s).atoms = omega arith in
    let e : start_of t s + k ≡ i = omega arith in
    let q = ap (λ (x : Atom). x.part) (ap (atom_in w) (sym e) ∙ atom-at w fr s k lies.known l) in
    let p = part_small (in-get_or (schema_at t s).atoms k no_atom l) in
    let i = in-get_or t.schemas s no_schema (omega arith) in
    let f = all_in (schema_fits t.arities) (task-tests t (of-table w a.table).0).fit i in
    let b = leb-true (part_count (schema_at t s).atoms) 16 (schema-tests t.arities (schema_at t s) f).parts in
    omega arith

-- ---- stretches
pub stretch-atom : {w : List ℕ} {from to : ℕ} → IsStretch w from to → (i : ℕ) → i < to → IsSchemaAtom w i
stretch-atom s i l = record { table = s.table; known = let k = s.known in omega arith }

-- what is left of a stretch
pub stretch-rest : {w : List ℕ} {from to : ℕ} → IsStretch w from to → (i : ℕ) → i ≤ to → IsStretch w i to
stretch-rest s i l = record { table = s.table; forward = l; known = s.known }

-- what a stretch begins with
pub stretch-front : {w : List ℕ} {from to : ℕ} → IsStretch w from to → (i : ℕ) → from ≤ i → i ≤ to → IsStretch w from i
stretch-front s i l m = record { table = s.table; forward = l; known = let k = s.known in omega arith }

-- an atom of a stretch, by its place
pub stretch-in : (w : List ℕ) (from to : ℕ) (a : Atom) → In a (stretch_in w from to) →
    (k : ℕ) × (from ≤ k) × (k < to) × (a ≡ atom_in w k)
unfolding stretch
stretch-in w from to a i =
    let (k, j, e) = map-in (atom_in w) (up_from from (to - from)) a i in
    let (l, m) = up_from-in from (to - from) k j in
    (k, l, omega arith, e)

-- ---- how a stretch grows
module _ {Row : Type 0} (row : ℕ → Row) where
  pub rows_none : (from : ℕ) → stretch row from from ≡ []
  unfolding stretch up_from
  rows_none from = ap (λ (n : ℕ). map row (up_from from n)) (let z : from - from ≡ 0 = omega arith in z)

  pub rows-one : (i : ℕ) → stretch row i (i + 1) ≡ row i ∷ []
  unfolding stretch up_from
  rows-one i = ap (λ (n : ℕ). map row (up_from i n)) (let z : i + 1 - i ≡ 1 = omega arith in z)

  -- a stretch and the one behind it
  pub rows_append : (from i to : ℕ) → from ≤ i → i ≤ to → stretch row from to ≡ stretch row from i ++ stretch row i to
  unfolding stretch
  rows_append from i to l m =
      let e : to - from ≡ (i - from) + (to - i) = omega arith in
      let q : from + (i - from) ≡ i = omega arith in
      ap (λ (n : ℕ). map row (up_from from n)) e
      ∙ (ap (map row) (up_from-append from (i - from) (to - i))
      ∙ (map-append row (up_from from (i - from)) (up_from (from + (i - from)) (to - i))
      ∙ ap (λ (k : ℕ). map row (up_from from (i - from)) ++ map row (up_from k (to - i))) q))

  pub rows_more : (from i : ℕ) → from ≤ i → stretch row from (i + 1) ≡ stretch row from i ++ (row i ∷ [])
  rows_more from i l =
      rows_append from i (i + 1) l (omega arith) ∙ ap (λ (more : List Row). stretch row from i ++ more) (rows-one i)

-- ---- the stretches of a schema's atoms and of its pairs
-- a schema's rows of one kind, from its first to the next schema's first
module _ {Row : Type 0} (rows : Schema → List Row) {none : Row} {number : ℕ → ℕ} {row : ℕ → Row} (t : Task)
    {schemas total : ℕ} (by : ByIndex rows none number row t.schemas schemas total) (s : ℕ) (l : s < schemas) where
  abbrev first : ℕ → ℕ
  first m = first_row rows t.schemas m

  rows_are : rows (schema_at t s) ≡ stretch row (first s) (first (suc s))
  unfolding schema_at stretch
  rows_are =
      let own = rows (schema_at t s) in
      let e = by.next s l in
      let n : length own ≡ first (suc s) - first s = omega arith in
      sym (tabulate row (first s) own none (λ k x. (by.reads s k l x).1)) ∙
      ap (λ (n : ℕ). map row (up_from (first s) n)) n

  rows-within : (first s ≤ first (suc s)) × (first (suc s) ≤ total)
  rows-within =
      let e = by.next s l in
      let all = by.last in
      let m = sum-take-rises (row_counts rows t.schemas) (suc s) schemas l in
      (omega arith, omega arith)

module _ (w : List ℕ) (h : is_table w ≡ true) (s : ℕ) (l : s < (head_in w).schemas) where
  abbrev t : Task
  t = task_of w

  fr : Frame w
  fr = table-frame w h

  pub schema-atoms : (schema_at (task_of w) s).atoms ≡ stretch_in w (start_of (task_of w) s) (start_of (task_of w) (suc s))
  schema-atoms = rows_are (λ s. s.atoms) t (atom-rows w fr) s l

  pub schema-stretch : IsStretch w (start_of (task_of w) s) (start_of (task_of w) (suc s))
  schema-stretch =
      let (forward, known) = rows-within (λ s. s.atoms) t (atom-rows w fr) s l in
      record { table = h; forward = forward; known = known }

  pub schema-pairs :
      (schema_at (task_of w) s).pairs ≡ pair_stretch_in w (pair_start (task_of w) s) (pair_start (task_of w) (suc s))
  schema-pairs = rows_are (λ s. s.pairs) t (pair-rows w fr) s l

  pub schema-pair-stretch : IsPairStretch w (pair_start (task_of w) s) (pair_start (task_of w) (suc s))
  schema-pair-stretch =
      let (forward, known) = rows-within (λ s. s.pairs) t (pair-rows w fr) s l in
      record { table = h; forward = forward; known = known }
