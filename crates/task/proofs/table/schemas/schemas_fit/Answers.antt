use Prim.Native.Nat.{ℕ, ◌+◌, ◌-◌, ◌*◌}
use mathlib.Core.Path.{◌≡◌, sym, ◌∙◌, ap₂, subst₂}
use mathlib.Core.Bool.{Bool, true}
use mathlib.Core.List.{List}
use lib.ListN.{get_or}
use Rattle.words.specs.Lists.{up_from}
use Rattle.task.specs.Layout.{head_in, pairs_base, rows_base}
use Rattle.task.specs.Limits.{pair_size, atom_size}
use Rattle.task.specs.Table.{pair_number_in, schema_number_in}
use Rattle.task.specs.WordTests.{schema_words_fit, in_file_order, pair_indices_of, indices_of, schemas_fit, RunOf}
use Rattle.words.proofs.Loops.{all-up-to, all_more, all-fails, all-ends}
use Rattle.task.proofs.FileOrder.{pair-numbers, atom-numbers}
use Rattle.task.proofs.SchemaWords.{Cut, cut-start, cut-next, cut-indices}
use Rattle.task.proofs.table.schemas.schemas_fit.Goals as goal

-- the runs found, by the numbers of the pairs and of the atoms
pairs-run : (w : List ℕ) (base count s start end : ℕ) → base ≡ pairs_base w → count ≡ (head_in w).pairs →
    RunOf (λ i. get_or w (base + pair_size * i) 0) count s start end →
    RunOf (pair_number_in w) (head_in w).pairs s start end
pairs-run w base count s start end e n run =
    subst₂ (λ (number : ℕ → ℕ) (n : ℕ). RunOf number n s start end) (pair-numbers w base e) n run

atoms-run : (w : List ℕ) (base count s start end : ℕ) → base ≡ rows_base w → count ≡ (head_in w).schema_atoms →
    RunOf (λ i. get_or w (base + atom_size * i) 0) count s start end →
    RunOf (schema_number_in w) (head_in w).schema_atoms s start end
atoms-run w base count s start end e n run =
    subst₂ (λ (number : ℕ → ℕ) (n : ℕ). RunOf number n s start end) (atom-numbers w base e) n run

-- the pairs and the atoms found are those that name schema s
fit : (w : List ℕ) (s pair stop first end : ℕ) (r : Bool) →
    in_file_order (pair_number_in w) (head_in w).schemas (head_in w).pairs ≡ true →
    in_file_order (schema_number_in w) (head_in w).schemas (head_in w).schema_atoms ≡ true →
    Cut (pair_number_in w) (head_in w).pairs pair s → Cut (schema_number_in w) (head_in w).schema_atoms first s →
    RunOf (pair_number_in w) (head_in w).pairs s pair stop →
    RunOf (schema_number_in w) (head_in w).schema_atoms s first end →
    r ≡ schema_words_fit w s (up_from pair (stop - pair)) (up_from first (end - first)) →
    schema_words_fit w s (pair_indices_of w s) (indices_of w s) ≡ r
unfolding pair_indices_of indices_of
fit w s pair stop first end r order-p order-a cut-p cut-a run-p run-a e =
    ap₂ (schema_words_fit w s)
    (cut-indices (pair_number_in w) (head_in w).schemas (head_in w).pairs order-p pair s stop cut-p run-p)
    (cut-indices (schema_number_in w) (head_in w).schemas (head_in w).schema_atoms order-a first s end cut-a run-a) ∙
    sym e

pub loop-s-init : goal.loop-s-init
unfolding schemas_fit
loop-s-init c =
    let w = c.args.table.now in
    record {
      pairs = cut-start (pair_number_in w) (head_in w).pairs;
      atoms = cut-start (schema_number_in w) (head_in w).schema_atoms;
      left = all-up-to (sym c.word-schemas.ensures.value);
    }

pub returns-then-not-schema_fits : goal.returns-then-not-schema_fits
returns-then-not-schema_fits c =
    let w = c.args.table.now in
    let pairs = pairs-run w _ _ _ _ _ c.pairs_base.ensures.value c.word-pairs.ensures.value c.run_end-stop.ensures in
    let atoms = atoms-run w _ _ _ _ _ c.rows_base.ensures.value c.word-atoms.ensures.value c.run_end-end.ensures in
    all-fails c.loop-s.invariant.left c.loop-s-test.true
    (fit w _ _ _ _ _ _ c.requires.table_value c.requires.table_value_2 c.loop-s.invariant.pairs c.loop-s.invariant.atoms
    pairs atoms c.schema_fits.ensures ∙ c.if-not-schema_fits.true)

pub loop-s-preserved : goal.loop-s-preserved
loop-s-preserved c =
    let w = c.args.table.now in
    let s = c.loop-s.s in
    let pairs = pairs-run w _ _ _ _ _ c.pairs_base.ensures.value c.word-pairs.ensures.value c.run_end-stop.ensures in
    let atoms = atoms-run w _ _ _ _ _ c.rows_base.ensures.value c.word-atoms.ensures.value c.run_end-end.ensures in
    record {
      pairs = cut-next (pair_number_in w) (head_in w).schemas (head_in w).pairs c.requires.table_value c.loop-s.pair s
          c.run_end-stop.result c.loop-s.invariant.pairs pairs;
      atoms = cut-next (schema_number_in w) (head_in w).schemas (head_in w).schema_atoms c.requires.table_value_2
          c.loop-s.first s c.run_end-end.result c.loop-s.invariant.atoms atoms;
      left = all_more c.loop-s.invariant.left c.loop-s-test.true
          (fit w _ _ _ _ _ _ c.requires.table_value c.requires.table_value_2 c.loop-s.invariant.pairs
          c.loop-s.invariant.atoms pairs atoms c.schema_fits.ensures ∙ c.if-not-schema_fits.false);
    }

pub returns : goal.returns
returns c = all-ends c.loop-s.invariant.left c.loop-s-test.false
