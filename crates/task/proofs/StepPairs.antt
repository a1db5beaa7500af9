-- The pairs of a step's schema among rows of pairs: they are the rows that name it, so that each row is tested by
-- itself; and in a table both parameters of a row are its schema's.
use Prim.Native.Nat.{ℕ, ◌+◌, ◌*◌, ◌<◌}
use mathlib.Core.Path.{◌≡◌, refl, sym, ◌∙◌, ap, ap₂}
use mathlib.Core.Bool.{Bool, true, false, not, ◌&&◌, ◌||◌}
use mathlib.Core.List.{List, [], ◌∷◌, map}
use native.Mathlib.Omega.{arith}
use lib.ListN.{length, get_or}
use lib.Dec.{eqb}
use borrow.Author.Tests.{eq-eqb}
use Rattle.words.specs.Lists.{all, filter, keep_if, sum, up_to}
use Rattle.words.specs.Words.{words_at}
use Rattle.task.specs.Layout.{head_in, pairs_base, pair_base}
use Rattle.task.specs.Limits.{most_parameters, pair_size}
use Rattle.task.specs.Task.{Pair, Schema, no_schema}
use Rattle.task.specs.Table.{pair_in, pair_number_in, pair_words, pairs_from, task_of, is_table, naming, schema_in}
use Rattle.task.specs.Run.{differ, schema_at, param_count}
use Rattle.task.specs.StepTests.{row_schema, row_pair, words_differ, apart_at, PairsFew}
use Rattle.words.proofs.Lists.{In, here, there, in_map, in-filter, in-up_to, get_or-mapped}
use Rattle.words.proofs.Words.{At, at-move, get_or-words_at}
use Rattle.task.proofs.SchemaRows.{Reads, first_row, row-stands, rows-indices, rows_are, row_lies}
use Rattle.task.proofs.PairsStand.{no_pair, pair_counts, pairs-even}
use Rattle.task.proofs.Tables.{of-table, places}
use Rattle.task.proofs.TablesByIndex.{table-frame, schemas-word, pairs-word, pair-lies}
use Rattle.task.proofs.States.{PairFits, well_formed-is}
use Rattle.task.proofs.StepWords.{params-few}

-- a test of what a filter keeps is one of each, where it keeps it
all-kept : {A B : Type 0} (p : B → Bool) (f : A → B) (keep : A → Bool) (xs : List A) →
    all p (map f (filter keep xs)) ≡ all (λ x. not (keep x) || p (f x)) xs
unfolding all filter keep_if
all-kept p f keep [] = refl
all-kept {A} {B} p f keep (x ∷ xs) = go (keep x) (all-kept p f keep xs)
  where
    go : (b : Bool) → all p (map f (filter keep xs)) ≡ all (λ x. not (keep x) || p (f x)) xs →
        all p (map f (keep_if b x (filter keep xs))) ≡ (not b || p (f x)) && all (λ x. not (keep x) || p (f x)) xs
    go true e = ap (λ (r : Bool). p (f x) && r) e
    go false e = e

-- the objects of pairs of a schema with n parameters, by their words
differ-words : (steps : List ℕ) (at n : ℕ) (qs : List Pair) → ((q : Pair) → In q qs → PairFits n q) →
    all (differ (words_at steps at n)) qs ≡ all (words_differ steps at) qs
unfolding all differ
differ-words steps at n [] h = refl
differ-words steps at n (q ∷ qs) h =
    let f = h q (here refl) in
    let a = f.ascends in
    let b = f.known in
    ap₂ ◌&&◌
    (ap₂ (λ (x y : ℕ). not (eqb x y)) (get_or-words_at steps at n q.lower (omega arith))
    (get_or-words_at steps at n q.higher (omega arith)))
    (differ-words steps at n qs (λ r i. h r (there i)))

-- ---- rows of the pairs of some schemas
module _ (rows : List ℕ) (base : ℕ) (ss : List Schema) (stand : At rows base (pairs_from 0 ss)) where
  rows-read : Reads (λ s. s.pairs) no_pair (row_schema rows base) (row_pair rows base) ss
  unfolding pair_words
  rows-read m k l x =
      let i = first_row (λ s. s.pairs) ss m + k in
      let a = row-stands pair_words (λ s. s.pairs) pair_size no_pair rows base ss (pairs-even ss) stand m k l x in
      let z : base + pair_size * i ≡ base + pair_size * i + 0 = omega arith in
      let lower = a 1 (omega arith) in
      let higher = a 2 (omega arith) in
      (ap (λ (x : ℕ). get_or rows x 0) z ∙ a 0 (omega arith), λ j. record { lower = lower j; higher = higher j })

  -- the rows that name a schema are its pairs
  pub rows_named : (s : ℕ) → s < length ss →
      (get_or ss s no_schema).pairs ≡ map (row_pair rows base) (naming (row_schema rows base) (sum (pair_counts ss)) s)
  rows_named s l =
      sym (ap (map (row_pair rows base))
      (rows-indices (λ s. s.pairs) no_pair (row_schema rows base) (row_pair rows base) ss rows-read s l) ∙
      rows_are (λ s. s.pairs) no_pair (row_schema rows base) (row_pair rows base) ss rows-read s l)

  -- so a step keeps the pairs apart where it does so at each row
  pub rows-apart : (s n : ℕ) → s < length ss → ((q : Pair) → In q (get_or ss s no_schema).pairs → PairFits n q) →
      (steps : List ℕ) (at : ℕ) →
      all (differ (words_at steps at n)) (get_or ss s no_schema).pairs ≡
      all (apart_at rows base steps at s) (up_to (sum (pair_counts ss)))
  rows-apart s n l fit steps at =
      differ-words steps at n (get_or ss s no_schema).pairs fit ∙
      (ap (all (words_differ steps at)) (rows_named s l) ∙
      all-kept (words_differ steps at) (row_pair rows base) (λ i. eqb s (row_schema rows base i))
      (up_to (sum (pair_counts ss))))

  -- each row names parameters that a step has words for, where the schemas' pairs do
  pub rows_few : ((s : ℕ) → s < length ss → (q : Pair) → In q (get_or ss s no_schema).pairs → PairFits most_parameters q) →
      PairsFew rows base (sum (pair_counts ss))
  rows_few fit i l =
      let s = row_schema rows base i in
      let known = (row_lies (λ s. s.pairs) no_pair (row_schema rows base) (row_pair rows base) ss rows-read i l).known in
      let here : In (row_pair rows base i)
      (map (row_pair rows base) (naming (row_schema rows base) (sum (pair_counts ss)) s)) =
      in_map (row_pair rows base)
      (in-filter (λ i. eqb s (row_schema rows base i)) (in-up_to (sum (pair_counts ss)) i l) (eq-eqb s s refl)) in
      let f = fit s known (row_pair rows base i) (rw (rows_named s known) here) in
      let a = f.ascends in
      let b = f.known in
      (omega arith, omega arith)

-- ---- the pairs of a table
module _ (w : List ℕ) (h : is_table w ≡ true) where
  -- the pairs that name a schema are its pairs
  pub pairs-named : (s : ℕ) → s < (head_in w).schemas →
      (schema_at (task_of w) s).pairs ≡ map (pair_in w) (naming (pair_number_in w) (head_in w).pairs s)
  unfolding schema_at task_of up_to
  pairs-named s l =
      let z : 0 + s ≡ s = omega arith in
      ap (λ (x : Schema). x.pairs) (get_or-mapped (schema_in w) 0 (head_in w).schemas s no_schema l) ∙
      ap (λ (n : ℕ). (schema_in w n).pairs) z

  -- pair i has "the lower first", and both are parameters of its schema
  pub pair-known : (i : ℕ) → i < (head_in w).pairs → PairFits (param_count (task_of w) (pair_number_in w i)) (pair_in w i)
  unfolding param_count
  pair-known i l =
      let s = pair_number_in w i in
      let m = (pair-lies w (table-frame w h) i l).known in
      let n = schemas-word w (table-frame w h) in
      let here : In (pair_in w i) (map (pair_in w) (naming (pair_number_in w) (head_in w).pairs s)) =
      in_map (pair_in w) (in-filter (λ i. eqb s (pair_number_in w i)) (in-up_to (head_in w).pairs i l) (eq-eqb s s refl)) in
      ((well_formed-is (task_of w) (of-table w h).0).schema s (omega arith)).pairs (pair_in w i) (rw (pairs-named s m) here)

  -- so each has a word in a step
  pub pairs-few : PairsFew w (pairs_base w) (head_in w).pairs
  unfolding pair_in pair_base
  pairs-few i l =
      let f = pair-known i l in
      let a = f.ascends in
      let b = f.known in
      let c = params-few (task_of w) (of-table w h).0 (pair_number_in w i) in
      (omega arith, omega arith)

  -- a step's objects keep the pairs of its schema apart where its words do so at each row
  pub pairs-apart : (s : ℕ) → s < (head_in w).schemas → (steps : List ℕ) (at : ℕ) →
      all (differ (words_at steps at (param_count (task_of w) s))) (schema_at (task_of w) s).pairs ≡
      all (apart_at w (pairs_base w) steps at s) (up_to (head_in w).pairs)
  unfolding param_count schema_at pair_base
  pairs-apart s l steps at =
      let fr = table-frame w h in
      let n = schemas-word w fr in
      let well = well_formed-is (task_of w) (of-table w h).0 in
      let stand = at-move w (pair_base w 0) (pairs_base w) (pairs_from 0 (task_of w).schemas) (omega arith)
      (places w (task_of w) fr.sizes fr.tabled).pairs in
      rows-apart w (pairs_base w) (task_of w).schemas stand s (param_count (task_of w) s) (omega arith)
      (well.schema s (omega arith)).pairs steps at ∙
      ap (λ (m : ℕ). all (apart_at w (pairs_base w) steps at s) (up_to m)) (pairs-word w fr)
