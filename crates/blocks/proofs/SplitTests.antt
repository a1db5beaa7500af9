-- What code finds of a step of the split, one test after another, from what is noted of each schema: it is whole, its
-- schema is known, behind that are objects of the task and zeros, as many as the schema's parameters say, and at each
-- pair that the schema carries, of the rows of all, the objects differ.
use Prim.Native.Nat.{ℕ, ◌+◌, ◌*◌, ◌≤◌, ◌<◌}
use mathlib.Core.Path.{◌≡◌, refl, sym, ◌∙◌, ap, ap₂, subst}
use mathlib.Core.Bool.{Bool, true, false, ◌&&◌, and-true}
use mathlib.Core.List.{List, [], ◌∷◌}
use Rattle.std.specs.Prelude.{Option, None, Some}
use native.Mathlib.Omega.{arith}
use lib.ListN.{length, get_or, set, take}
use borrow.Author.Tests.{leb-true}
use Rattle.words.specs.Lists.{all, up_from, up_to}
use Rattle.words.specs.Words.{words_at}
use Rattle.words.specs.Putting.{Puts}
use Rattle.words.proofs.Puts.{put-over, puts_then, puts-length, take-over}
use Rattle.words.proofs.Lists.{and_right, In}
use Rattle.words.proofs.Words.{At, at_right, at-words_at, words_at-take}
use Rattle.task.specs.Limits.{most_pairs, pair_size, step_size}
use Rattle.task.specs.Task.{Pair, Schema, Task, no_schema, schema_pairs, well_formed}
use Rattle.task.specs.Table.{pair_words, pairs_from}
use Rattle.task.specs.Run.{differ, schema_at, param_count, is_step_at, bad_step}
use Rattle.task.specs.StepTests.{limits_for, objects_then_zeros, apart_at, PairsFew}
use Rattle.task.proofs.Tests.{task-tests}
use Rattle.task.proofs.BadSteps.{good-steps, tried, bad-step-at, no-bad-step}
use Rattle.std.specs.Option.{MatchOption}
use native.Mathlib.Decide.{dec_lt}
use Rattle.task.proofs.States.{PairFits, well_formed-is}
use Rattle.task.proofs.SchemaRows.{length-rows_from}
use Rattle.task.proofs.PairsStand.{pairs-even}
use Rattle.task.proofs.StepPairs.{rows-apart, rows_few}
use Rattle.task.proofs.StepWords.{params-few, step-short, step-unknown, step-whole}
use Rattle.tokens.specs.Split.{split_task, first_of}
use Rattle.blocks.specs.FoldCode.{carried_rows, carried_room, PairsNoted, StepsKnown, KeepApart, EqualTold}
use Rattle.blocks.proofs.Numbers.{split-count}

-- ---- the rows of the split's pairs
-- "at most 200", three words each
pub rows-room : (t : Task) → well_formed (split_task t) ≡ true →
    (schema_pairs (split_task t).schemas ≤ most_pairs) ×
    (length (pairs_from 0 (split_task t).schemas) ≡ pair_size * schema_pairs (split_task t).schemas)
rows-room t well = (
  leb-true _ _ (task-tests (split_task t) well).pairs,
  length-rows_from pair_words (λ s. s.pairs) pair_size 0 (split_task t).schemas (pairs-even (split_task t).schemas),
)

-- their count is set before them
pub rows-noted : (t : Task) → well_formed (split_task t) ≡ true → (lent pairs : List ℕ) (n next : ℕ) →
    length lent ≡ carried_room → n ≡ schema_pairs (split_task t).schemas →
    Puts (set lent 0 n) 1 (pairs_from 0 (split_task t).schemas) pairs next → PairsNoted t pairs
rows-noted t well lent pairs n next l d h =
    let rows = carried_rows t in
    let (few, e) = rows-room t well in
    let puts : Puts lent 0 rows pairs next =
    puts_then {xs = n ∷ []} (record { words = refl; place = refl }) h rows
    (ap (λ (k : ℕ). k ∷ pairs_from 0 (split_task t).schemas) (sym d)) in
    let m = puts-length puts in
    record {
      long = m ∙ l;
      rows =
          words_at-take pairs (length rows) (omega arith) ∙
          (ap (take (length rows)) (puts.words ∙ put-over rows lent (omega arith)) ∙
          take-over rows lent (length rows) refl);
    }

module _ {t : Task} {params limits pairs : List ℕ} (S : StepsKnown t params limits pairs) where
  abbrev ss : List Schema
  ss = (split_task t).schemas

  stand : At pairs 0 (carried_rows t)
  stand = subst (At pairs 0) S.carried.rows (at-words_at pairs 0 (length (carried_rows t)))

  -- their count, and where they stand
  pub pair-count : get_or pairs 0 0 ≡ schema_pairs ss
  pair-count = stand 0 (omega arith)

  stand-rows : At pairs 1 (pairs_from 0 ss)
  stand-rows = at_right pairs 0 (schema_pairs ss ∷ []) (pairs_from 0 ss) stand

  pub rows_inside : 1 + pair_size * get_or pairs 0 0 ≤ length pairs
  rows_inside =
      let (few, e) = rows-room t S.well in
      let l = S.carried.long in
      omega (arith, pair-count)

  pair-fits : (s : ℕ) → s < length ss → (q : Pair) → In q (get_or ss s no_schema).pairs →
      PairFits (param_count (split_task t) s) q
  unfolding param_count schema_at
  pair-fits s l = ((well_formed-is (split_task t) S.well).schema s l).pairs

  -- each row names parameters that a step has words for
  pub rows-small : PairsFew pairs 1 (get_or pairs 0 0)
  rows-small =
      rw pair-count (rows_few pairs 1 ss stand-rows (λ s l q i.
      let f = pair-fits s l q i in
      let a = f.known in
      let b = params-few (split_task t) S.well s in
      record { ascends = f.ascends; known = omega arith }))

  -- a known schema's parameters
  pub split-few : (n : ℕ) → n < first_of t (length t.schemas) → get_or params n 0 ≤ 12
  split-few n k =
      let e = S.counts.count n k in
      let f = params-few (split_task t) S.well n in
      omega arith

  -- ---- the step at index i
  module _ (steps : List ℕ) (i : ℕ) where
    abbrev number : ℕ
    number = get_or steps (step_size * i) 0

    abbrev splits : ℕ
    splits = first_of t (length t.schemas)

    pub split-short : length steps < step_size * i + step_size → is_step_at (split_task t) steps i ≡ false
    split-short l = step-short (split_task t) S.well steps i l

    pub split-unknown : splits ≤ number → is_step_at (split_task t) steps i ≡ false
    split-unknown l = step-unknown (split_task t) S.well steps i (let e = split-count t in omega arith)

    -- its schema's parameters, zeros behind them, and the rows of pairs decide
    pub split-whole : (n : ℕ) → n ≡ number → step_size * i + step_size ≤ length steps → n < splits → {within : Bool} →
        ((objects : ℕ) → limits ≡ limits_for objects →
        within ≡ objects_then_zeros objects steps (step_size * i + 1) (get_or params n 0)) →
        within && all (apart_at pairs 1 steps (step_size * i + 1) n) (up_to (get_or pairs 0 0)) ≡
        is_step_at (split_task t) steps i
    unfolding split_task
    split-whole n d w k {within} h =
        let at : ℕ = step_size * i + 1 in
        let few = get_or params n 0 in
        let e = S.counts.count n k in
        let l : n < length (split_task t).schemas = let c = split-count t in omega arith in
        let rows = rows-apart pairs 1 (split_task t).schemas stand-rows n few l
        (λ q j. subst (λ (m : ℕ). PairFits m q) (sym e) (pair-fits n l q j)) steps at in
        ap₂ ◌&&◌ (h t.objects S.bounds)
        (ap (λ (m : ℕ). all (apart_at pairs 1 steps at n) (up_to m)) pair-count ∙
        (sym rows ∙ ap (λ (m : ℕ). all (differ (words_at steps at few)) (schema_at (split_task t) m).pairs) d)) ∙
        sym (step-whole (split_task t) S.well steps i few (e ∙ ap (param_count (split_task t)) d) w (omega arith))

    -- where no pair is left to tell, the objects and zeros decide
    pub split-apart : KeepApart t steps → (n : ℕ) → n ≡ number → step_size * i + step_size ≤ length steps → n < splits →
        {within : Bool} → ((objects : ℕ) → limits ≡ limits_for objects →
        within ≡ objects_then_zeros objects steps (step_size * i + 1) (get_or params n 0)) →
        within ≡ is_step_at (split_task t) steps i
    unfolding split_task
    split-apart apart n d w k {within} h =
        let few = get_or params n 0 in
        let e = S.counts.count n k ∙ ap (param_count (split_task t)) d in
        let at : ℕ = step_size * i + 1 in
        let test : ℕ → Bool = λ m. all (differ (words_at steps at m)) (schema_at (split_task t) number).pairs in
        let differs : test few ≡ true = ap test e ∙ apart i w (omega arith) in
        let whole = step-whole (split_task t) S.well steps i few e w (let c = split-count t in omega arith) in
        h t.objects S.bounds ∙
        sym (whole ∙ (ap (λ (b : Bool). objects_then_zeros t.objects steps at few && b) differs ∙ and-true _))

  -- ---- where no pair is left to tell
  -- a split without pairs
  pub none_equal : get_or pairs 0 0 ≡ 0 → (steps : List ℕ) → KeepApart t steps
  unfolding all up_to up_from schema_at split_task
  none_equal zero steps i w k =
      let n = get_or steps (step_size * i) 0 in
      let at : ℕ = step_size * i + 1 in
      let l : n < length ss = let c = split-count t in omega arith in
      rows-apart pairs 1 ss stand-rows n (param_count (split_task t) n) l (pair-fits n l) steps at ∙
      ap (λ (m : ℕ). all (apart_at pairs 1 steps at n) (up_to m)) (sym pair-count ∙ zero)

  -- a list without a bad step
  pub good-apart : (steps : List ℕ) → bad_step (split_task t) steps ≡ None → KeepApart t steps
  good-apart steps h i w k =
      let n = get_or steps (step_size * i) 0 in
      let few = param_count (split_task t) n in
      let whole = step-whole (split_task t) S.well steps i few refl w (let c = split-count t in omega arith) in
      and_right (objects_then_zeros (split_task t).objects steps (step_size * i + 1) few) _
      (sym whole ∙ good-steps (split_task t) steps h i (omega arith))

  -- so where a list's first bad step is found, either it is told or no pair is left to tell
  pub equal-told : (steps : List ℕ) (r : Option ℕ) → r ≡ bad_step (split_task t) steps → EqualTold t steps r
  unfolding EqualTold
  equal-told steps (Some i) e = sym e
  equal-told steps None e = good-apart steps (sym e)

-- ---- a search from one step on
-- of steps that are the split's up to one the first found behind that is not is the first bad one
pub first_found : (u : Task) (w : List ℕ) (from end : ℕ) (r : Option ℕ) → end ≡ tried w →
    ((k : ℕ) → k < from → is_step_at u w k ≡ true) →
    MatchOption r ((k : ℕ) → from ≤ k → k < end → is_step_at u w k ≡ true)
    (λ i. (from ≤ i) × (i < end) × (is_step_at u w i ≡ false) × ((k : ℕ) → from ≤ k → k < i → is_step_at u w k ≡ true)) →
    r ≡ bad_step u w
first_found u w from end None e g h =
    sym (no-bad-step u w (λ k l. elim (dec_lt k from) [ yes q ↦ g k q | no q ↦ h k (omega arith) (omega arith) ]))
first_found u w from end (Some i) e g h =
    sym (bad-step-at u w i (omega (arith, h.1)) (λ k l. elim (dec_lt k from) [
      | yes q ↦ g k q
      | no q ↦ h.3 k (omega arith) l
    ]) h.2)
