-- The steps of a list that folds, as code puts them: one more at the end of each block, gathered from its words.
use Prim.Native.Nat.{ℕ, ◌+◌, ◌-◌, ◌*◌, ◌/◌, ◌≤◌, ◌<◌}
use mathlib.Core.Path.{◌≡◌, refl, sym, ◌∙◌, ap, subst}
use mathlib.Core.Bool.{true}
use mathlib.Core.List.{List, [], ◌∷◌, ◌++◌, map, append-nil, append_assoc}
use native.Mathlib.Omega.{arith}
use native.Mathlib.Decide.{dec_lt}
use native.Mathlib.Numerals.{add-one}
use lib.ListN.{length, get_or, length-append}
use Rattle.words.specs.Lists.{over, put, concat_map, up_to, up_from}
use Rattle.words.specs.Putting.{Puts}
use Rattle.words.proofs.Lists.{map-append, up_to-suc}
use Rattle.words.proofs.Puts.{put-over}
use Rattle.task.specs.Limits.{step_size}
use Rattle.task.specs.Task.{Task}
use Rattle.task.specs.Run.{Step, step_words, step_in, step_at, steps_in, param_count}
use Rattle.task.proofs.StepWords.{length-step_words}
use Rattle.tokens.specs.Split.{orders, first_of, split_task}
use Rattle.blocks.specs.Blocks.{Folding, folded, prepend, fold_from, outside, fold_steps}
use Rattle.blocks.specs.Blocks.{part_step, list_words}
use Rattle.blocks.specs.FoldCode.{SplitStepsKept, origin_place, object_in, objects_in, step_from, is_part}
use Rattle.blocks.proofs.KeptWords.{put-none, put-more}
use Rattle.blocks.proofs.KeptLists.{words-none, words_append}
use Rattle.blocks.proofs.Origins.{origin-small}
use Rattle.blocks.proofs.FoldBlock.{Covered, complete}
use Rattle.blocks.proofs.FoldMoves.{prepended, list-ends}
use Rattle.blocks.proofs.FoldWords.{step-none, gathered-size, part-has, part-yes, part-whole}
use Rattle.blocks.proofs.FoldTurns.{left_from, InBlock, begun-known, later-begins-none, block-starts, block-ends}
use Rattle.blocks.proofs.FoldTurns.{parts-must, must-begin}

-- ---- the objects of the parameters below p
module _ (steps origins : List ℕ) (begin s : ℕ) where
  pub objects-start : objects_in steps origins begin s (up_to 0) ≡ []
  unfolding up_to up_from
  objects-start = refl

  pub objects-next : (p : ℕ) → objects_in steps origins begin s (up_to (p + 1)) ≡
      objects_in steps origins begin s (up_to p) ++ (object_in steps origins begin s p ∷ [])
  objects-next p =
      let f : ℕ → ℕ = object_in steps origins begin s in
      ap (map f) (ap up_to (add-one p) ∙ up_to-suc p) ∙ map-append f (up_to p) (p ∷ [])

-- some steps of xs are put, up to `next`, and what is left from split step i on folds to the rest
pub record PutSo (t : Task) (steps : List ℕ) (xs : List Step) (lent out : List ℕ) (next i : ℕ) : Type 0 where
  pub done : List Step
  pub rest : List Step
  pub whole : xs ≡ done ++ rest
  pub left : left_from t steps i ≡ folded rest
  pub put-to : Puts lent 0 (list_words done) out next
  pub place : next ≡ step_size * length done

pub put-start : (t : Task) (steps : List ℕ) (xs : List Step) (lent : List ℕ) →
    fold_steps t (steps_in (split_task t) steps) ≡ folded xs → PutSo t steps xs lent lent 0 0
unfolding fold_steps
put-start t steps xs lent e = record {
  done = [];
  rest = xs;
  whole = refl;
  left = e;
  put-to = put-none lent 0 (list_words []) words-none;
  place = omega arith;
}

words-one : (x : Step) → list_words (x ∷ []) ≡ step_words x
unfolding list_words concat_map
words-one x = append-nil (step_words x)

module _ {t : Task} {steps kept begins origins : List ℕ} (K : SplitStepsKept t steps kept begins origins)
    {xs : List Step} {lent out : List ℕ} {next i : ℕ} (h : PutSo t steps xs lent out next i) where
  -- ---- the block of schema s that begins at split step i
  module _ (l : i < length steps / step_size) (s : ℕ) (e : get_or begins (get_or steps (step_size * i) 0) 0 ≡ s + 1) where
    abbrev Folds : Folding → Type 0
    Folds f = f ≡ folded h.rest

    abbrev count : ℕ
    count = length (orders t s)

    pub known : s < length t.schemas
    known = (begun-known K.blocks.some-part K.begun (get_or steps (step_size * i) 0) s e).1

    passed : InBlock t steps origins Folds i s count × ((j : ℕ) → j < count → is_part t steps origins i s j ≡ true)
    passed = parts-must K h.rest i s known count (omega arith) (block-starts K Folds i l s e h.left)

    stands : (j : ℕ) → j < count → step_size * (i + j) + step_size ≤ length steps
    stands j m = part-whole K.blocks K.origin steps i s known j m (passed.1 j m)

    -- its later parts begin no block
    pub later-begin-none : (k : ℕ) → i < k → k < i + count → get_or begins (get_or steps (step_size * k) 0) 0 ≡ 0
    unfolding step_at step_in part_step
    later-begin-none k a b =
        let j = k - i in
        let z : i + j ≡ k = omega arith in
        let y = (part-yes K.blocks K.origin steps i s known j (omega arith) (passed.1 j (omega arith))).1 in
        let n : get_or steps (step_size * (i + j)) 0 ≡ first_of t s + j = ap (λ (x : Step). x.schema) y in
        ap (λ (q : ℕ). get_or begins (get_or steps (step_size * q) 0) 0) (sym z)
        ∙ (ap (λ (q : ℕ). get_or begins q 0) n
        ∙ later-begins-none K.blocks.some-part K.begun s j (omega arith) (omega arith))

    -- it ends in the list
    pub block_inside : i + count ≤ length steps / step_size
    block_inside =
        let n = K.blocks.some-part s known in
        let w = stands (count - 1) (omega arith) in
        omega arith

    module _ (covered : Covered t s) where
      abbrev step : Step
      step = step_from t steps origins i s

      -- its objects stand in it
      pub objects-inside : (p : ℕ) → p < param_count t s → step_size * i + get_or origins (origin_place s p) 0 < length steps
      unfolding param_count
      objects-inside p m =
          let (j, n, k) = covered p m in
          let c = K.blocks.count s known in
          let f = K.blocks.few-params s in
          let o = origin-small K.origin s p j known (omega arith) (omega arith)
          (part-has K.blocks K.origin steps i s known j n p k) in
          let w = stands j n in
          omega arith

      more : (ys : List Step) × (left_from t steps (i + count) ≡ folded ys) × (h.rest ≡ step ∷ ys)
      more =
          let b = passed.0 in
          let size = gathered-size K.blocks K.origin steps i s known in
          let z = complete t step covered size count b.objects refl b.bound in
          prepended step (left_from t steps (i + count)) h.rest
          (sym (ap (λ (x : Step). prepend x (left_from t steps (i + count))) z)
          ∙ block-ends K Folds i s known count refl b)

      -- there is room for its step
      pub room-more : step_size * length xs ≤ length lent → next + step_size ≤ length lent
      room-more r =
          let (ys, a, b) = more in
          let n = ap length h.whole ∙ length-append h.done h.rest in
          let m = ap length b in
          let p = h.place in
          omega arith

      pub put-turn : PutSo t steps xs lent (put out next (step_words step)) (next + step_size) (i + count)
      unfolding param_count
      put-turn =
          let (ys, a, b) = more in
          let q = put-more h.put-to (step_words step) (list_words (h.done ++ (step ∷ [])))
          (words_append h.done (step ∷ [])
          ∙ ap (λ (ws : List ℕ). list_words h.done ++ ws) (words-one step)) in
          let size = length-step_words step
          (let g = gathered-size K.blocks K.origin steps i s known in
          let f = K.blocks.few-params s in
          omega arith) in
          let n = length-append h.done (step ∷ []) in
          let p = h.place in
          record {
            done = h.done ++ (step ∷ []);
            rest = ys;
            whole =
                h.whole
                ∙ (ap (λ (zs : List Step). h.done ++ zs) b ∙ sym (append_assoc h.done (step ∷ []) ys));
            left = a;
            put-to = record { place = let z = q.place in omega arith; words = q.words };
            place = omega arith;
          }

  -- ---- the whole list is read
  module _ (l : length steps / step_size ≤ i) where
    none_left : xs ≡ h.done
    none_left =
        let e : folded h.rest ≡ folded [] =
        sym h.left ∙ (ap (fold_from t outside i) (step-none t steps i l) ∙ list-ends t i) in
        h.whole ∙ (ap (λ (zs : List Step). h.done ++ zs) (same e) ∙ append-nil h.done)
      where
        same : {us vs : List Step} → folded us ≡ folded vs → us ≡ vs
        same q = cc

    -- how many words are put
    pub words-put : next ≡ step_size * length xs
    words-put = let e = ap length none_left in let p = h.place in omega arith

    pub all-put : next ≤ length lent → out ≡ over (list_words xs) lent
    all-put r =
        h.put-to.words
        ∙ (put-over (list_words h.done) lent (let p = h.put-to.place in omega arith)
        ∙ ap (λ (zs : List Step). over (list_words zs) lent) (sym none_left))

-- ---- before split step i, of which no step up to `end` begins a block: all blocks before `end` are put
pub record PassedSo (t : Task) (steps begins : List ℕ) (xs : List Step) (lent out : List ℕ) (next i : ℕ) : Type 0 where
  pub end : ℕ
  pub from : i ≤ end
  pub within : end ≤ length steps / step_size
  pub none : (k : ℕ) → i ≤ k → k < end → get_or begins (get_or steps (step_size * k) 0) 0 ≡ 0
  pub so_far : PutSo t steps xs lent out next end

pub passed_start : (t : Task) (steps begins : List ℕ) (xs : List Step) (lent : List ℕ) →
    fold_steps t (steps_in (split_task t) steps) ≡ folded xs → PassedSo t steps begins xs lent lent 0 0
passed_start t steps begins xs lent e = record {
  end = 0;
  from = omega arith;
  within = omega arith;
  none = λ k a b. absurd (omega arith);
  so_far = put-start t steps xs lent e;
}

module _ {t : Task} {steps kept begins origins : List ℕ} (K : SplitStepsKept t steps kept begins origins)
    {xs : List Step} {lent out : List ℕ} {next i : ℕ} (h : PassedSo t steps begins xs lent out next i) where
  -- a step that can begin a block does
  pub between : (s : ℕ) → get_or begins (get_or steps (step_size * i) 0) 0 ≡ s + 1 → PutSo t steps xs lent out next i
  between s e = elim (dec_lt i h.end) [
    | yes l ↦ let z = h.none i (omega arith) l in absurd (omega arith)
    | no l ↦
        let f = h.from in
        let z : h.end ≡ i = omega arith in
        subst (PutSo t steps xs lent out next) z h.so_far
  ]

  -- any other stands in the block that was put last
  pub passed_on : i < length steps / step_size → get_or begins (get_or steps (step_size * i) 0) 0 ≡ 0 →
      PassedSo t steps begins xs lent out next (i + 1)
  passed_on l e = elim (dec_lt i h.end) [
    | yes m ↦ record {
      end = h.end;
      from = omega arith;
      within = h.within;
      none = λ k a b. h.none k (omega arith) b;
      so_far = h.so_far;
    }
    | no m ↦
        let f = h.from in
        let z : h.end ≡ i = omega arith in
        let p = subst (PutSo t steps xs lent out next) z h.so_far in
        let b = must-begin K p.rest i l p.left in
        absurd (omega arith)
  ]

  pub passed-block : (l : i < length steps / step_size) (s : ℕ)
      (e : get_or begins (get_or steps (step_size * i) 0) 0 ≡ s + 1) → Covered t s →
      PassedSo t steps begins xs lent (put out next (step_words (step_from t steps origins i s))) (next + step_size)
      (i + 1)
  passed-block l s e covered =
      let p = between s e in
      let n = K.blocks.some-part s (known K p l s e) in
      record {
        end = i + length (orders t s);
        from = omega arith;
        within = block_inside K p l s e;
        none = λ k a b. later-begin-none K p l s e k (omega arith) b;
        so_far = put-turn K p l s e covered;
      }

  -- at the list's end
  pub passed-all : length steps / step_size ≤ i → PutSo t steps xs lent out next i
  passed-all l =
      let f = h.from in
      let w = h.within in
      let z : h.end ≡ i = omega arith in
      subst (PutSo t steps xs lent out next) z h.so_far
