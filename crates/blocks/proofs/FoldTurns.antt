-- The turns of folding's loops. Between blocks, and in a block before each of its parts, what the whole list folds to
-- is known from what is left of it; a claim F of that is carried from turn to turn.
use Prim.Native.Nat.{ℕ, zero, suc, ◌+◌, ◌-◌, ◌*◌, ◌/◌, ◌≤◌, ◌<◌}
use mathlib.Core.Path.{◌≡◌, refl, sym, ◌∙◌, ap, ap₂, subst}
use mathlib.Core.Bool.{Bool, true, false, cond}
use mathlib.Core.List.{List, [], ◌∷◌}
use mathlib.Core.Logic.{inl, inr}
use Rattle.std.specs.Prelude.{Some, Ok, Err}
use native.Mathlib.Omega.{arith}
use native.Mathlib.Decide.{dec_lt}
use native.Mathlib.Numerals.{add-one}
use lib.ListN.{length, get_or, drop}
use lib.Dec.{eqb}
use borrow.Author.Count.{below_more}
use borrow.Author.Tests.{eqb-true}
use Rattle.words.specs.Lists.{up_to}
use Rattle.words.proofs.Lists.{bool_cases, false-if, up_to-in}
use Rattle.task.specs.Limits.{step_size}
use Rattle.task.specs.Task.{Task}
use Rattle.task.specs.Run.{Step, step_in, step_at, steps_in}
use Rattle.task.specs.Bindings.{Bound}
use Rattle.task.proofs.BadSteps.{good-steps}
use Rattle.tokens.specs.Split.{orders, first_of, split_task}
use Rattle.blocks.specs.Blocks.{Folding, folded, misfit, prepend, part_step, beginner, outside, inside, fits_at}
use Rattle.blocks.specs.Blocks.{completed, fold_from, fold_steps}
use Rattle.blocks.specs.FoldCode.{SplitStepsKept, step_from, is_part, taken_of, BeginsKept}
use Rattle.blocks.proofs.Numbers.{first-inj}
use Rattle.blocks.proofs.Inside.{beginner-in}
use Rattle.blocks.proofs.FoldBlock.{BoundTo, bound-none, bound-by, bound-next, fits-here}
use Rattle.blocks.proofs.FoldMoves.{no-misfit, fits_next, fold_on, on-past, on-inside, block-goes-on, block-stops}
use Rattle.blocks.proofs.FoldMoves.{none_bound, block-begins, block_none, list-ends, taken_after, after_none}
use Rattle.blocks.proofs.FoldMoves.{after_one}
use Rattle.blocks.proofs.FoldWords.{begun-none, begun-some, step-next, step-none, fitting, part-yes, part_no}
use Rattle.blocks.proofs.FoldWords.{part-whole}

-- what is left of the list between blocks, from split step i on
abbrev pub left_from : Task → List ℕ → ℕ → Folding
left_from t steps i = fold_from t outside i (drop i (steps_in (split_task t) steps))

-- the schema whose block a step begins is one of the task's
pub begun-known : {t : Task} {begins : List ℕ} → ((s : ℕ) → s < length t.schemas → 0 < length (orders t s)) →
    BeginsKept t begins → (k s : ℕ) → get_or begins k 0 ≡ s + 1 →
    (beginner t k (up_to (length t.schemas)) ≡ Some s) × (s < length t.schemas)
begun-known {t} some-part B k s e =
    let b = begun-some (beginner t k (up_to (length t.schemas))) s (sym (B.word k) ∙ e) in
    (b, up_to-in (length t.schemas) s (beginner-in t some-part k (up_to (length t.schemas)) s b))

-- and the step is its first part
beginner-first : (t : Task) (k : ℕ) (ss : List ℕ) (s : ℕ) → beginner t k ss ≡ Some s → k ≡ first_of t s
unfolding beginner
beginner-first t k [] s e = absurd (let z : ◌≡◌ {A = ℕ} 0 1 = cc in omega arith)
beginner-first t k (q ∷ ss) s e = go (eqb k (first_of t q)) refl e (beginner-first t k ss s)
  where
    go : (b : Bool) → eqb k (first_of t q) ≡ b → cond b (Some q) (beginner t k ss) ≡ Some s →
        (beginner t k ss ≡ Some s → k ≡ first_of t s) → k ≡ first_of t s
    go true f e r = eqb-true k (first_of t q) f ∙ ap (first_of t) (let z : q ≡ s = cc in z)
    go false f e r = r e

-- so that a later part begins none
pub later-begins-none : {t : Task} {begins : List ℕ} →
    ((s : ℕ) → s < length t.schemas → 0 < length (orders t s)) → BeginsKept t begins →
    (s j : ℕ) → 0 < j → j < length (orders t s) → get_or begins (first_of t s + j) 0 ≡ 0
later-begins-none {t} {begins} some-part B s j l m = elim (dec_lt 0 (get_or begins (first_of t s + j) 0)) [
  | yes q ↦
      let r = get_or begins (first_of t s + j) 0 - 1 in
      let (b, k) = begun-known some-part B (first_of t s + j) r (omega arith) in
      let f = beginner-first t (first_of t s + j) (up_to (length t.schemas)) r b in
      let e = (first-inj t s j r 0 m (some-part r k) (omega arith)).1 in
      absurd (omega arith)
  | no q ↦ omega arith
]

-- in the block of schema s that begins at split step i, before position j, with F of what is left
pub record InBlock (t : Task) (steps origins : List ℕ) (F : Folding → Type 0) (i s j : ℕ) : Type 0 where
  pub objects : Bound
  pub bound : BoundTo t (step_from t steps origins i s) j objects
  pub left : F (fold_on t s j objects (i + j) (drop (i + j) (steps_in (split_task t) steps)))

module _ {t : Task} {steps kept begins origins : List ℕ} (K : SplitStepsKept t steps kept begins origins)
    (F : Folding → Type 0) where
  abbrev ys : List Step
  ys = steps_in (split_task t) steps

  -- ---- between blocks
  module _ (i : ℕ) (l : i < length steps / step_size) where
    abbrev word : ℕ
    word = get_or begins (get_or steps (step_size * i) 0) 0

    -- the step begins no block
    pub none-begins : word ≡ 0 → F (left_from t steps i) → F (misfit i)
    unfolding step_at step_in
    none-begins e f =
        subst F
        (ap (fold_from t outside i) (step-next t steps i l)
        ∙ block_none t i (step_at (split_task t) steps i) (drop (suc i) ys)
        (begun-none _ (sym (K.begun.word (get_or steps (step_size * i) 0)) ∙ e))) f

    -- it begins the block of schema s
    pub block-starts : (s : ℕ) → word ≡ s + 1 → F (left_from t steps i) → InBlock t steps origins F i s 0
    unfolding step_at step_in
    block-starts s e f =
        let (b, m) = begun-known K.blocks.some-part K.begun (get_or steps (step_size * i) 0) s e in
        let z : i ≡ i + 0 = omega arith in
        record {
          objects = none_bound t s;
          bound = bound-none t (step_from t steps origins i s);
          left =
              subst F
              (ap (fold_from t outside i) (step-next t steps i l)
              ∙ (block-begins t s i (step_at (split_task t) steps i) (drop (suc i) ys) b
              ∙ (sym (ap (fold_from t (inside s 0 (none_bound t s)) i) (step-next t steps i l))
              ∙ (sym (on-inside t s 0 (none_bound t s) i (drop i ys) (K.blocks.some-part s m))
              ∙ ap (λ (k : ℕ). fold_on t s 0 (none_bound t s) k (drop k ys)) z)))) f;
        }

  -- ---- in the block of schema s that begins at split step i
  module _ (i s : ℕ) (l : s < length t.schemas) where
    abbrev x : Step
    x = step_from t steps origins i s

    -- before the part at position j
    module _ (j : ℕ) (m : j < length (orders t s)) (h : InBlock t steps origins F i s j) where
      abbrev b : Bound
      b = h.objects

      -- it doesn't stand there
      pub block-broken : is_part t steps origins i s j ≡ false → F (misfit (i + j))
      unfolding fits_next
      block-broken e =
          subst F
          (on-inside t s j b (i + j) (drop (i + j) ys) m
          ∙ block-stops t s j b (i + j) (drop (i + j) ys) (elim (dec_lt (i + j) (length steps / step_size)) [
            | yes q ↦
                ap (fits_next t (inside s j b)) (step-next t steps (i + j) q)
                ∙ false-if (fits_at t (inside s j b) (step_at (split_task t) steps (i + j))) (λ f.
                part_no K.blocks K.origin steps i s l j m e
                (good-steps (split_task t) steps K.good (i + j) (omega arith))
                (fitting K.blocks K.origin steps i s l j m b h.bound f))
            | no q ↦ ap (fits_next t (inside s j b)) (step-none t steps (i + j) (omega arith))
          ])) h.left

      -- it does
      pub block-turns : is_part t steps origins i s j ≡ true → InBlock t steps origins F i s (j + 1)
      block-turns e = record {
        objects = after;
        bound = subst (λ (k : ℕ). BoundTo t x k after) (sym (add-one j)) (bound-next t x j b h.bound);
        left = subst F path h.left;
      }
        where
          after : Bound
          after = bound-by t x j b

          part : drop (i + j) ys ≡ part_step t x j ∷ drop (suc (i + j)) ys
          part =
              let q = part-yes K.blocks K.origin steps i s l j m e in
              let w = part-whole K.blocks K.origin steps i s l j m e in
              step-next t steps (i + j) (omega arith)
              ∙ ap (λ (y : Step). y ∷ drop (suc (i + j)) ys) q.1

          path : fold_on t s j b (i + j) (drop (i + j) ys) ≡
              fold_on t s (j + 1) after (i + (j + 1)) (drop (i + (j + 1)) ys)
          path =
              let z : suc (i + j) ≡ i + (j + 1) = omega arith in
              on-inside t s j b (i + j) (drop (i + j) ys) m
              ∙ (ap (fold_from t (inside s j b) (i + j)) part
              ∙ (block-goes-on t s j b (i + j) (part_step t x j) (drop (suc (i + j)) ys) (fits-here t x j b h.bound)
              ∙ ap₂ (λ (k n : ℕ). fold_on t s k after n (drop n ys)) (sym (add-one j)) z))

    -- past its last part the block is a step
    pub block-ends : (j : ℕ) → j ≡ length (orders t s) → (h : InBlock t steps origins F i s j) →
        F (prepend (completed (inside s j h.objects)) (left_from t steps (i + j)))
    block-ends j e h = subst F (on-past t s j h.objects (i + j) (drop (i + j) ys) e) h.left

    -- past the parts that stand there
    pub block-passed : (r : ℕ) → r ≤ length (orders t s) →
        ((j : ℕ) → j < r → is_part t steps origins i s j ≡ true) → InBlock t steps origins F i s 0 →
        InBlock t steps origins F i s r
    block-passed zero n f h = h
    block-passed (suc r) n f h =
        subst (InBlock t steps origins F i s) (add-one r)
        (block-turns r (omega arith) (block-passed r (omega arith) (λ j k. f j (omega arith)) h) (f r (omega arith)))

-- ---- what is taken apart
-- the whole list is n steps, and what f says
abbrev pub TakenSo : Task → List ℕ → ℕ → Folding → Type 0
TakenSo t steps n f = taken_of (fold_steps t (steps_in (split_task t) steps)) ≡ taken_after n f

pub taken_start : (t : Task) (steps : List ℕ) → TakenSo t steps 0 (left_from t steps 0)
unfolding fold_steps
taken_start t steps = after_none (fold_from t outside 0 (steps_in (split_task t) steps))

pub taken-whole : (t : Task) (steps : List ℕ) (n i : ℕ) → length steps / step_size ≤ i →
    TakenSo t steps n (left_from t steps i) → Ok n ≡ taken_of (fold_steps t (steps_in (split_task t) steps))
unfolding taken_after
taken-whole t steps n i l h =
    let e : n ≡ n + 0 = omega arith in
    ap (λ (k : ℕ). Ok k) e
    ∙ sym (h ∙ ap (taken_after n) (ap (fold_from t outside i) (step-none t steps i l) ∙ list-ends t i))

pub taken-misfit : (t : Task) (steps : List ℕ) (n i : ℕ) → TakenSo t steps n (misfit i) →
    Err i ≡ taken_of (fold_steps t (steps_in (split_task t) steps))
unfolding taken_after
taken-misfit t steps n i h = sym h

pub taken_more : (t : Task) (steps : List ℕ) (n : ℕ) (x : Step) (f : Folding) → TakenSo t steps n (prepend x f) →
    TakenSo t steps (n + 1) f
taken_more t steps n x f h = h ∙ after_one n x f

-- ---- a list that folds goes on as long as a block is open
module _ {t : Task} {steps kept begins origins : List ℕ} (K : SplitStepsKept t steps kept begins origins)
    (xs : List Step) (i s : ℕ) (l : s < length t.schemas) where
  abbrev Folds : Folding → Type 0
  Folds f = f ≡ folded xs

  part-must : (j : ℕ) → j < length (orders t s) → InBlock t steps origins Folds i s j →
      is_part t steps origins i s j ≡ true
  part-must j m h = elim (bool_cases (is_part t steps origins i s j)) [
    | inl e ↦ e
    | inr e ↦ absurd (no-misfit (block-broken K Folds i s l j m h e) refl)
  ]

  pub parts-must : (r : ℕ) → r ≤ length (orders t s) → InBlock t steps origins Folds i s 0 →
      InBlock t steps origins Folds i s r × ((j : ℕ) → j < r → is_part t steps origins i s j ≡ true)
  parts-must zero n h = (h, λ j k. absurd (omega arith))
  parts-must (suc r) n h =
      let (b, f) = parts-must r (omega arith) h in
      let e = part-must r (omega arith) b in (
        subst (InBlock t steps origins Folds i s) (add-one r) (block-turns K Folds i s l r (omega arith) b e),
        λ j k. below_more (λ j. is_part t steps origins i s j ≡ true) r f e j (omega arith),
      )

-- and one between blocks begins one
pub must-begin : {t : Task} {steps kept begins origins : List ℕ} →
    (K : SplitStepsKept t steps kept begins origins) (xs : List Step) (i : ℕ) → i < length steps / step_size →
    left_from t steps i ≡ folded xs → 0 < get_or begins (get_or steps (step_size * i) 0) 0
must-begin {t} {steps} {kept} {begins} K xs i l f =
    elim (dec_lt 0 (get_or begins (get_or steps (step_size * i) 0) 0)) [
      | yes q ↦ q
      | no q ↦ absurd (no-misfit (none-begins K (λ f. f ≡ folded xs) i l (omega arith) f) refl)
    ]
