-- Where the rows of a schema end, its atoms as its pairs: the run of rows that name it, found from its first row on,
-- ends where the next schema's begin.
use Prim.Native.Nat.{ℕ, suc, ◌+◌, ◌*◌, ◌≤◌, ◌<◌}
use mathlib.Core.Path.{◌≡◌, subst, subst₂}
use mathlib.Core.Bool.{true}
use mathlib.Core.List.{List}
use native.Mathlib.Omega.{arith}
use native.Mathlib.Decide.{dec_lt}
use lib.ListN.{length, get_or}
use Rattle.words.proofs.Lists.{sum-take-rises}
use Rattle.task.specs.Layout.{head_in, pairs_base, rows_base}
use Rattle.task.specs.Limits.{pair_size, atom_size}
use Rattle.task.specs.Table.{pair_number_in, schema_number_in, task_of, is_table}
use Rattle.task.specs.Turns.{first_atom, first_pair}
use Rattle.task.specs.WordTests.{RunOf}
use Rattle.task.proofs.AtomsStand.{counts}
use Rattle.task.proofs.FileOrder.{pair-numbers, atom-numbers}
use Rattle.task.proofs.PairsStand.{pair_counts}
use Rattle.task.proofs.SchemaRows.{Lies}
use Rattle.task.proofs.TableReads.{table-roomy}
use Rattle.task.proofs.TablesByIndex.{table-frame, schemas-word, atom-lies, pair-lies}
use Rattle.arcs.proofs.Stretches.{schema-stretch, schema-pair-stretch}

-- n rows that lie as they are numbered, those of schema s from `first s` to `first (suc s)`
module _ (first number : ℕ → ℕ) (schemas n s : ℕ) (rises : (a b : ℕ) → a ≤ b → first a ≤ first b)
    (lies : (i : ℕ) → i < n → Lies first number schemas i) (within : first (suc s) ≤ n) where
  -- a row there names s, since it lies with no lower schema and no higher one
  names-it : (i : ℕ) → first s ≤ i → i < first (suc s) → number i ≡ s
  names-it i a b =
      let here = lies i (omega arith) in
      elim (dec_lt (number i) s) [
        | yes k ↦ let r = rises (suc (number i)) s k in omega (arith, here.before-next)
        | no k ↦ elim (dec_lt s (number i)) [
          | yes m ↦ let r = rises (suc s) (number i) m in omega (arith, here.from_start)
          | no m ↦ omega arith
        ]
      ]

  ends_so : (found : ℕ) → RunOf number n s (first s) found → found ≡ first (suc s)
  ends_so found run = elim (dec_lt found (first (suc s))) [
    | yes k ↦ absurd (run.beyond (omega arith) (names-it found run.from k))
    | no k ↦ elim (dec_lt (first (suc s)) found) [
      | yes m ↦
          let same = run.inside (first (suc s)) (rises s (suc s) (omega arith)) m in
          let behind = (lies (first (suc s)) (omega (arith, run.to))).before-next in
          let wrong = subst (λ (x : ℕ). first (suc s) < first (suc x)) same behind in
          omega arith
      | no m ↦ omega arith
    ]
  ]

  -- as code finds it, with the numbers, the count and the first row that it read
  run_ends : {read : ℕ → ℕ} {count begin found : ℕ} → read ≡ number → count ≡ n → begin ≡ first s →
      RunOf read count s begin found → found ≡ first (suc s)
  run_ends {read} {count} {begin} {found} numbers counted begins run =
      ends_so found
      (subst₂ (λ (number : ℕ → ℕ) (n : ℕ). RunOf number n s (first s) found) numbers counted
      (subst (λ (b : ℕ). RunOf read count s b found) begins run))

module _ (w : List ℕ) (h : is_table w ≡ true) (s : ℕ) (l : s < length (task_of w).schemas) where
  pub schema-known : s < (head_in w).schemas
  schema-known = let e = schemas-word w (table-frame w h) in omega arith

  -- the code's run of rows lies in the table, from its first row on
  pub atoms-room : {base n begin : ℕ} → base ≡ rows_base w → n ≡ (head_in w).schema_atoms → begin ≡ first_atom (task_of w) s →
      ((1 ≤ atom_size) × (base + atom_size * n ≤ length w)) × (begin ≤ n)
  atoms-room a b c =
      let room = (table-roomy w h).inside in
      let rows = schema-stretch w h s schema-known in
      ((omega arith, omega arith), omega (arith, rows.forward, rows.known))

  pub pairs-room : {base n begin : ℕ} → base ≡ pairs_base w → n ≡ (head_in w).pairs → begin ≡ first_pair (task_of w) s →
      ((1 ≤ pair_size) × (base + pair_size * n ≤ length w)) × (begin ≤ n)
  pairs-room a b c =
      let room = (table-roomy w h).inside in
      let rows = schema-pair-stretch w h s schema-known in
      ((omega arith, omega arith), omega (arith, rows.forward, rows.known))

  pub atoms-end : {base n begin found : ℕ} → base ≡ rows_base w → n ≡ (head_in w).schema_atoms →
      begin ≡ first_atom (task_of w) s → RunOf (λ (i : ℕ). get_or w (base + atom_size * i) 0) n s begin found →
      found ≡ first_atom (task_of w) (suc s)
  atoms-end {base} e =
      run_ends (first_atom (task_of w)) (schema_number_in w) (head_in w).schemas (head_in w).schema_atoms s
      (sum-take-rises (counts (task_of w).schemas)) (atom-lies w (table-frame w h))
      (schema-stretch w h s schema-known).known (atom-numbers w base e)

  pub pairs_end : {base n begin found : ℕ} → base ≡ pairs_base w → n ≡ (head_in w).pairs →
      begin ≡ first_pair (task_of w) s → RunOf (λ (i : ℕ). get_or w (base + pair_size * i) 0) n s begin found →
      found ≡ first_pair (task_of w) (suc s)
  pairs_end {base} e =
      run_ends (first_pair (task_of w)) (pair_number_in w) (head_in w).schemas (head_in w).pairs s
      (sum-take-rises (pair_counts (task_of w).schemas)) (pair-lies w (table-frame w h))
      (schema-pair-stretch w h s schema-known).known (pair-numbers w base e)
