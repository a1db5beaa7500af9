-- The pairs that a part of the split carries, as they are counted and put, pair by pair and part by part. The set of a
-- part's parameters has just the part's own, so a parameter's number among the set's is its index among the own.
use Prim.Native.Nat.{ℕ, ◌+◌, ◌≤◌, ◌<◌}
use mathlib.Core.Path.{◌≡◌, sym, ◌∙◌, ap, ap₂}
use mathlib.Core.Bool.{Bool, true, false, ◌&&◌}
use mathlib.Core.List.{List, [], ◌++◌, map}
use native.Mathlib.Omega.{arith}
use lib.ListN.{length, get_or, length-map}
use Rattle.words.specs.Lists.{filter, keep_if, concat_map}
use Rattle.words.specs.Sets.{member}
use Rattle.words.proofs.Lists.{In, map_same, filter_same}
use Rattle.task.specs.Limits.{most_pairs}
use Rattle.task.specs.Task.{Pair, Schema, Task}
use Rattle.task.specs.Run.{schema_at}
use Rattle.task.specs.Table.{task_of, pair_in, pair_words}
use Rattle.task.proofs.Tables.{of-table}
use Rattle.arcs.specs.Stretches.{pair_stretch_in}
use Rattle.arcs.proofs.Stretches.{rows_none, rows-one, rows_append}
use Rattle.tokens.specs.Split.{has, has_both, orders, own_pairs, split_schema}
use Rattle.tokens.specs.Writing.{carries, renumbered_pair, carried_in, carried_words}
use Rattle.tokens.specs.Kept.{kept_pair, kept_pair_end, kept_count, kept_own, SchemaKept}
use Rattle.tokens.proofs.PartPairs.{renumber_pair, pair_here, here-both, own-both}
use Rattle.tokens.proofs.PartRoles.{PartOf, facts}
use Rattle.tokens.proofs.PartSplit.{new-index}
use Rattle.tokens.proofs.WellSplit.{part_of}
use Rattle.tokens.proofs.KeptSchema.{counted, kept-pairs, kept-pair-stretch}
use Rattle.tokens.proofs.KeptSchemas.{pairs-few}
use Rattle.tokens.proofs.SchemaRuns.{parts_up_to, parts_more}

-- ---- the pairs that a part carries
pub carried-is : (t : Task) (s : ℕ) (o : List ℕ) (j : ℕ) → PartOf t s o j → (set : ℕ) →
    ((x : ℕ) → member set x ≡ has (schema_at t s) x (get_or o j 0)) →
    carried_in set (schema_at t s).pairs ≡ (split_schema t s o j).pairs
unfolding carried_in split_schema own_pairs has_both
carried-is t s o j P set is =
    ap (map (renumbered_pair set)) (filter_same (carries set) (pair_here t s o j) (schema_at t s).pairs
    (λ q i. ap₂ ◌&&◌ (is q.lower) (is q.higher))) ∙
    map_same (renumbered_pair set) (renumber_pair t s o j) (filter (pair_here t s o j) (schema_at t s).pairs) same
  where
    same : (q : Pair) → In q (filter (pair_here t s o j) (schema_at t s).pairs) →
        renumbered_pair set q ≡ renumber_pair t s o j q
    same q i =
        let (k, a, b) = here-both t s o j q i in
        let (m, n) = own-both t s o j t.arities (facts t s o j P) q k a b in
        let low = new-index t s o j P set is q.lower m in
        let high = new-index t s o j P set is q.higher n in
        λ k. record { lower = low k; higher = high k }

-- ---- by what is kept of its schema
module _ {w : List ℕ} {s : ℕ} {kept : List ℕ} (K : SchemaKept w s kept) {from to : ℕ} (begins : from ≡ kept_pair kept s)
    (stops : to ≡ kept_pair_end kept s) where
  abbrev t : Task
  t = task_of w

  abbrev o : List ℕ
  o = orders (task_of w) s

  module _ (j own : ℕ) (l : j < kept_count kept s) (e : own ≡ kept_own kept s j) where
    pub kept-carried : carried_in own (pair_stretch_in w from to) ≡ (split_schema t s o j).pairs
    kept-carried =
        let h : j < length o = omega (arith, counted K) in
        ap (carried_in own) (sym (kept-pairs K begins stops)) ∙
        carried-is t s o j (part_of t (of-table w K.table).0 K.all.taken s j K.known h) own
        (λ x. ap (λ (set : ℕ). member set x) e ∙ K.all.params s j x K.known h)

    pub carried-count : length (filter (carries own) (pair_stretch_in w from to)) ≡ length (split_schema t s o j).pairs
    unfolding carried_in
    carried-count =
        sym (length-map (filter (carries own) (pair_stretch_in w from to)) (renumbered_pair own)) ∙ ap length kept-carried

    -- their words come behind those of the parts before
    pub kept-words : (n number : ℕ) → number ≡ n + j →
        parts_up_to pair_words (λ (u : Schema). u.pairs) n (split_schema t s o) (j + 1) ≡
        parts_up_to pair_words (λ (u : Schema). u.pairs) n (split_schema t s o) j ++ carried_words w number own from to
    kept-words n number is =
        parts_more pair_words (λ (u : Schema). u.pairs) n (split_schema t s o) j ∙
        ap₂ (λ (k : ℕ) (qs : List Pair).
        parts_up_to pair_words (λ (u : Schema). u.pairs) n (split_schema t s o) j ++ concat_map (pair_words k) qs) (sym is)
        (sym kept-carried)

  -- there are no more than a table has
  pub stretch-few : to ≤ most_pairs
  stretch-few = omega (arith, (kept-pair-stretch K begins stops).known, pairs-few w K.table)

  -- a schema without pairs: no part carries one
  pub none-carried : from ≡ to → (j : ℕ) → (split_schema t s o j).pairs ≡ []
  unfolding split_schema own_pairs filter
  none-carried e j =
      ap (λ (qs : List Pair). map (renumber_pair t s o j) (filter (pair_here t s o j) qs))
      (kept-pairs K begins stops ∙ (ap (pair_stretch_in w from) (sym e) ∙ rows_none (pair_in w) from))

-- ---- the words still to come, one pair further
module _ (w : List ℕ) (number own to : ℕ) where
  abbrev to_come : ℕ → List ℕ
  to_come i = carried_words w number own i to

  pub carried_none : to_come to ≡ []
  unfolding concat_map carried_in filter
  carried_none = ap (λ (qs : List Pair). concat_map (pair_words number) (carried_in own qs)) (rows_none (pair_in w) to)

  abbrev kept-first : ℕ → Bool → List ℕ
  kept-first i b =
      concat_map (pair_words number)
      (map (renumbered_pair own) (keep_if b (pair_in w i) (filter (carries own) (pair_stretch_in w (i + 1) to))))

  carried_step : (i : ℕ) → i < to → to_come i ≡ kept-first i (carries own (pair_in w i))
  unfolding carried_in filter
  carried_step i l =
      ap (λ (qs : List Pair). concat_map (pair_words number) (carried_in own qs))
      (rows_append (pair_in w) i (i + 1) to (omega arith) (omega arith) ∙
      ap (λ (qs : List Pair). qs ++ pair_stretch_in w (i + 1) to) (rows-one (pair_in w) i))

  pub carried-taken : (i : ℕ) → i < to → carries own (pair_in w i) ≡ true →
      to_come i ≡ pair_words number (renumbered_pair own (pair_in w i)) ++ to_come (i + 1)
  unfolding concat_map keep_if carried_in
  carried-taken i l h = carried_step i l ∙ ap (kept-first i) h

  pub carried-left : (i : ℕ) → i < to → carries own (pair_in w i) ≡ false → to_come i ≡ to_come (i + 1)
  unfolding keep_if carried_in
  carried-left i l h = carried_step i l ∙ ap (kept-first i) h
