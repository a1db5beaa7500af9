-- The schemas of a table, one turn of a loop each: where a turn stands, that all it reads lies in the table, that
-- what it writes is the lines of its schema, and where the next one stands.
use Prim.Native.Nat.{ℕ, ◌+◌, ◌-◌, ◌*◌, ◌≤◌, ◌<◌}
use mathlib.Core.Path.{◌≡◌, sym, ◌∙◌, ap, ap₂, subst}
use mathlib.Core.Bool.{true}
use mathlib.Core.List.{List}
use native.Mathlib.Omega.{arith}
use lib.ListN.{length}
use Rattle.task.specs.Limits.{pair_size, atom_size}
use Rattle.task.specs.Layout.{head_in, params_base, pairs_base, rows_base, params_in, pair_base, atom_base}
use Rattle.task.specs.Run.{schema_at}
use Rattle.task.specs.Table.{task_of, is_table}
use Rattle.task.proofs.Tables.{start_of, pair_start}
use Rattle.task.proofs.TableReads.{table-roomy}
use Rattle.text.specs.declared.writer.Rows.{Rows}
use Rattle.text.specs.TableLines.{AtomInside, RowsInside, SchemaRun, schema_text_of}
use Rattle.text.proofs.TableAtoms.{each-inside}
use Rattle.text.proofs.TableText.{schema_lines_in, schema-lines}
use Rattle.text.proofs.RowRuns.{RowsLeft, pair-block, atom-block, rows-first, row-begin, left-inside}
use Rattle.text.proofs.RowRuns.{run_long, run_inside, rows_next}

-- a turn at schema s: its pairs begin at `pair` and its atoms at `atom`, and so many pairs and atoms of schemas are
-- left from there on
pub record Turn (w : List ℕ) (schemas pair pairs-left atom atoms-left s : ℕ) : Type 0 where
  pub schemas-are : schemas ≡ (head_in w).schemas
  pub pairs : RowsLeft pair_size (pairs_base w) (head_in w).pairs (pair_start (task_of w)) s pair pairs-left
  pub atoms : RowsLeft atom_size (rows_base w) (head_in w).schema_atoms (start_of (task_of w)) s atom atoms-left

-- a turn's rows: its pairs and its atoms, where they begin and how many there are
abbrev pub rows_from : ℕ → ℕ → ℕ → ℕ → Rows
rows_from pair pairs atom atoms = record { pair = pair; pairs = pairs; atom = atom; atoms = atoms }

-- what such a turn finds: rows in the table whose lines are those of its schema, and where the next turn stands
pub record Found (w : List ℕ) (schemas pairs-left atoms-left s : ℕ) (rows : Rows) : Type 0 where
  pub inside : RowsInside w rows
  pub atoms-end : rows.atom + atom_size * rows.atoms ≤ length w
  pub lines : schema_lines_in w s ≡ schema_text_of w (params_in w s) rows
  pub next : Turn w schemas (rows.pair + pair_size * rows.pairs) (pairs-left - rows.pairs)
      (rows.atom + atom_size * rows.atoms) (atoms-left - rows.atoms) (s + 1)

-- its lines, by the parameter count that was read
pub lines-read : {w : List ℕ} {schemas pairs-left atoms-left s params : ℕ} {rows : Rows} →
    Found w schemas pairs-left atoms-left s rows → params ≡ params_in w s →
    schema_text_of w params rows ≡ schema_lines_in w s
lines-read {w} {rows = rows} found e = ap (λ (p : ℕ). schema_text_of w p rows) e ∙ sym found.lines

module _ {w : List ℕ} (table : is_table w ≡ true) where
  pub turn-first : {schemas pair pairs-left atom atoms-left : ℕ} → schemas ≡ (head_in w).schemas →
      pair ≡ pairs_base w → pairs-left ≡ (head_in w).pairs → atom ≡ rows_base w → atoms-left ≡ (head_in w).schema_atoms →
      Turn w schemas pair pairs-left atom atoms-left 0
  turn-first e pair pairs atom atoms = record {
    schemas-are = e;
    pairs = rows-first (pair-block w table) pair pairs;
    atoms = rows-first (atom-block w table) atom atoms;
  }

  module _ {schemas pair pairs-left atom atoms-left s : ℕ}
      (turn : Turn w schemas pair pairs-left atom atoms-left s) where
    -- the first words of the rows left, and the parameter count
    pub pairs-read : (k : ℕ) → k < pairs-left → pair + pair_size * k < length w
    pairs-read k h = let l = left-inside (pair-block w table) turn.pairs in omega arith

    pub atoms-read : (k : ℕ) → k < atoms-left → atom + atom_size * k < length w
    atoms-read k h = let l = left-inside (atom-block w table) turn.atoms in omega arith

    pub count-inside : s < schemas → params_base w + s < length w
    count-inside h =
        let c = (table-roomy w table).inside in
        let e = turn.schemas-are in
        omega arith

    module _ {m n : ℕ} (h : s < schemas) (pairs-run : SchemaRun w pair_size pair pairs-left s m)
        (atoms-run : SchemaRun w atom_size atom atoms-left s n) where
      known : s < (head_in w).schemas
      known = let e = turn.schemas-are in omega arith

      atoms-end : atom + atom_size * n ≤ length w
      atoms-end = run_inside (atom-block w table) turn.atoms known atoms-run

      atoms-inside : (k : ℕ) → k < n → AtomInside w (atom + atom_size * k)
      unfolding atom_base
      atoms-inside k l =
          let r = atoms-run.within in
          let m = turn.atoms.left-are in
          subst (AtomInside w) (row-begin (atom-block w table) turn.atoms k)
          (each-inside w table (start_of (task_of w) s + k) (omega arith))

      turn_lines : schema_lines_in w s ≡ schema_text_of w (params_in w s) (rows_from pair m atom n)
      unfolding pair_base atom_base
      turn_lines =
          let pairs = run_long (pair-block w table) turn.pairs known pairs-run in
          let atoms = run_long (atom-block w table) turn.atoms known atoms-run in
          let there : ℕ = atom_base w (start_of (task_of w) s) in
          let many : ℕ = length (schema_at (task_of w) s).atoms in
          schema-lines w table s known ∙
          (ap₂ (λ (p k : ℕ). schema_text_of w (params_in w s) (rows_from p k there many))
          (sym turn.pairs.begin) (sym pairs) ∙
          ap₂ (λ (b k : ℕ). schema_text_of w (params_in w s) (rows_from pair m b k))
          (sym turn.atoms.begin) (sym atoms))

      pub turn-found : Found w schemas pairs-left atoms-left s (rows_from pair m atom n)
      turn-found = record {
        inside =
            let e = atoms-end in
            record {
              pairs = run_inside (pair-block w table) turn.pairs known pairs-run;
              atom = omega arith;
              atoms = atoms-inside;
            };
        atoms-end = atoms-end;
        lines = turn_lines;
        next = record {
          schemas-are = turn.schemas-are;
          pairs = rows_next (pair-block w table) turn.pairs known pairs-run;
          atoms = rows_next (atom-block w table) turn.atoms known atoms-run;
        };
      }
