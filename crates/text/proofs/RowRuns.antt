-- Rows of one kind in a table, as its pairs are and the atoms of its schemas, each naming its schema, those of one
-- schema behind those of another: a run of rows that name a schema is all that the schema has, and those of the next
-- schema begin where it ends.
use Prim.Native.Nat.{ℕ, zero, suc, ◌+◌, ◌-◌, ◌*◌, ◌≤◌, ◌<◌}
use mathlib.Core.Path.{◌≡◌, refl, sym, ◌∙◌, ap, subst}
use mathlib.Core.Bool.{true}
use mathlib.Core.List.{List, [], ◌∷◌}
use native.Mathlib.Nat.{mul-add}
use native.Mathlib.Omega.{arith}
use native.Mathlib.Decide.{dec_lt}
use lib.ListN.{length, get_or, take}
use Rattle.words.specs.Lists.{sum}
use Rattle.task.specs.Limits.{pair_size, atom_size}
use Rattle.task.specs.Layout.{head_in, pairs_base, rows_base, pair_base, atom_base}
use Rattle.task.specs.Task.{Task}
use Rattle.task.specs.Run.{schema_at}
use Rattle.task.specs.Table.{pair_number_in, schema_number_in, task_of, is_table}
use Rattle.task.proofs.AtomsStand.{counts}
use Rattle.task.proofs.PairsStand.{pair_counts}
use Rattle.task.proofs.Tables.{start_of, pair_start}
use Rattle.task.proofs.TableReads.{table-roomy}
use Rattle.task.proofs.TablesByIndex.{Frame, table-frame, pairs-word, pair-start-suc, schema-of-pair, pair-lies}
use Rattle.task.proofs.TablesByIndex.{atoms-word, start-suc, schema-of-atom, atom-lies}
use Rattle.text.specs.TableLines.{SchemaRun}

-- `total` rows of a size, whose words begin at `from`: schema s has `many s` from number `first s` on
pub record RowBlock (w : List ℕ) (schemas size from total : ℕ) (first many : ℕ → ℕ) : Type 0 where
  pub starts : first 0 ≡ 0
  pub next : (s : ℕ) → s < schemas → first (suc s) ≡ first s + many s
  pub most : (s : ℕ) → first s ≤ total
  pub own : (s k : ℕ) → s < schemas → k < many s → get_or w (from + size * (first s + k)) 0 ≡ s
  pub lies : (i : ℕ) → i < total → i < first (suc (get_or w (from + size * i) 0))
  pub inside : from + size * total ≤ length w

-- at schema s: its rows begin at `at`, and `left` rows are from there on
pub record RowsLeft (size from total : ℕ) (first : ℕ → ℕ) (s at left : ℕ) : Type 0 where
  pub begin : at ≡ from + size * first s
  pub left-are : first s + left ≡ total

module _ {w : List ℕ} {schemas size from total : ℕ} {first many : ℕ → ℕ}
    (block : RowBlock w schemas size from total first many) where
  pub rows-first : {at left : ℕ} → at ≡ from → left ≡ total → RowsLeft size from total first 0 at left
  rows-first e f =
      let z = block.starts in
      let q = ap (λ (x : ℕ). size * x) z in
      record { begin = omega arith; left-are = omega arith }

  module _ {s at left : ℕ} (here : RowsLeft size from total first s at left) where
    -- where row k of those left begins
    pub row-begin : (k : ℕ) → from + size * (first s + k) ≡ at + size * k
    row-begin k = let e = mul-add size (first s) k in let b = here.begin in omega arith

    pub left-inside : at + size * left ≤ length w
    left-inside =
        let e = row-begin left in
        let q = ap (λ (x : ℕ). size * x) here.left-are in
        let i = block.inside in
        omega arith

    module _ {n : ℕ} (l : s < schemas) (run : SchemaRun w size at left s n) where
      pub run_long : n ≡ many s
      run_long = elim (dec_lt n (many s)) [
        | yes m ↦ absurd
            (let a = block.next s l in
            let b = here.left-are in
            let c = block.most (suc s) in
            run.stops (omega arith) (ap (λ (j : ℕ). get_or w j 0) (sym (row-begin n)) ∙ block.own s n l m))
        | no m ↦ elim (dec_lt (many s) n) [
          | yes k ↦ absurd
              (let named : get_or w (from + size * (first s + many s)) 0 ≡ s =
              ap (λ (j : ℕ). get_or w j 0) (row-begin (many s)) ∙ run.same (many s) k in
              let a = block.next s l in
              let b = here.left-are in
              let within = run.within in
              let stop : first s + many s < first (suc s) =
              subst (λ (x : ℕ). first s + many s < first (suc x)) named
              (block.lies (first s + many s) (omega arith)) in
              omega arith)
          | no k ↦ omega arith
        ]
      ]

      pub run_inside : at + size * n ≤ length w
      run_inside =
          let within = run.within in
          let e : left ≡ n + (left - n) = omega arith in
          let q = ap (λ (x : ℕ). size * x) e in
          let r = mul-add size n (left - n) in
          let i = left-inside in
          omega arith

      pub rows_next : RowsLeft size from total first (s + 1) (at + size * n) (left - n)
      rows_next =
          let a = block.next s l in
          let b = here.left-are in
          let within = run.within in
          let long = run_long in
          let y : suc s ≡ s + 1 = omega arith in
          let z = ap first y in
          let e : first s + n ≡ first (s + 1) = omega arith in
          record {
            begin = sym (row-begin n) ∙ ap (λ (x : ℕ). from + size * x) e;
            left-are = omega arith;
          }

-- ---- the two blocks of a table
take-most : (cs : List ℕ) (m : ℕ) → sum (take m cs) ≤ sum cs
unfolding sum
take-most [] zero = omega arith
take-most [] (suc m) = omega arith
take-most (c ∷ cs) zero = omega arith
take-most (c ∷ cs) (suc m) = let r = take-most cs m in omega arith

module _ (w : List ℕ) (table : is_table w ≡ true) where
  abbrev t : Task
  t = task_of w

  frame : Frame w
  frame = table-frame w table

  pub pair-block : RowBlock w (head_in w).schemas pair_size (pairs_base w) (head_in w).pairs (pair_start t)
      (λ s. length (schema_at t s).pairs)
  unfolding sum pair_number_in pair_base
  pair-block = record {
    starts = refl;
    next = pair-start-suc w frame;
    most = λ s. let r = take-most (pair_counts t.schemas) s in let e = pairs-word w frame in omega arith;
    own = schema-of-pair w frame;
    lies = λ i l. (pair-lies w frame i l).before-next;
    inside = let r = (table-roomy w table).inside in omega arith;
  }

  pub atom-block : RowBlock w (head_in w).schemas atom_size (rows_base w) (head_in w).schema_atoms (start_of t)
      (λ s. length (schema_at t s).atoms)
  unfolding sum schema_number_in atom_base
  atom-block = record {
    starts = refl;
    next = start-suc w frame;
    most = λ s. let r = take-most (counts t.schemas) s in let e = atoms-word w frame in omega arith;
    own = schema-of-atom w frame;
    lies = λ i l. (atom-lies w frame i l).before-next;
    inside = let r = (table-roomy w table).inside in omega arith;
  }
