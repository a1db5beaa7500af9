-- A step of a plan as the code takes it: what the tests of its schema and objects come to, the thirteen words that are
-- put for it, and the words of a plan that was read: choices of objects, which are read back as the plan's.
use Prim.Native.Nat.{ℕ, zero, suc, ◌+◌, ◌-◌, ◌*◌, ◌/◌, ◌≤◌, ◌<◌}
use mathlib.Core.Path.{◌≡◌, refl, sym, ◌∙◌, ap, subst}
use mathlib.Core.Bool.{Bool, true, false, ◌&&◌}
use mathlib.Core.List.{List, [], ◌∷◌, ◌++◌, map, append-nil}
use native.Mathlib.Omega.{arith}
use native.Mathlib.Decide.{dec_lt}
use lib.ListN.{length, get_or, take, set, replicate, length-set, get_or-replicate, get_or-append}
use lib.Seq.{get_or-append-add, get_or-set_same, get_or-set_other}
use lib.Dec.{eqb, ltb}
use borrow.Author.Tests.{leb-true, le-ltb, lt-ltb, eq-eqb, ne_eqb}
use Rattle.words.specs.Lists.{all, concat_map, up_to, up_from, over, padded}
use Rattle.task.specs.Limits.{step_size}
use Rattle.task.specs.Task.{Task, well_formed}
use Rattle.task.specs.Table.{task_of, is_table}
use Rattle.task.specs.Run.{Step, schema_at, is_choice, step_words, param_count, step_at, steps_in}
use Rattle.words.proofs.Lists.{in-get_or, all_in, append-concat_map, tabulate}
use Rattle.task.proofs.Tests.{task-tests}
use Rattle.task.proofs.Tables.{of-table}
use Rattle.words.proofs.Puts.{take-over}
use Rattle.task.proofs.States.{is_choice-is}
use Rattle.words.proofs.Words.{and-false}
use Rattle.task.proofs.StepWords.{no_step, StepSized, length-step_words, step-in, at-step, length-steps, params-few}
use Rattle.text.specs.Reading.{read}
use Rattle.text.specs.Plan.{most_plan_steps, plan_words, read_plan}
use Rattle.text.specs.ReadCode.{Listed, Wrote}
use Rattle.text.specs.PlanCode.{step_of}
use Rattle.text.proofs.PlanText.{plan-read-choices}
use Rattle.text.proofs.RowTests.{listed-take}
use Rattle.text.proofs.WroteWords.{wrote-behind}
use Rattle.text.proofs.LaidOut.{over-is}

-- ---- refusal 5: "a wrong schema, object or number of objects"
module _ (t : Task) (s : ℕ) (os : List ℕ) where
  abbrev objects_fit : Bool
  objects_fit = all (λ o. ltb o t.objects) os

  pub wrong-schema : length t.schemas ≤ s → false ≡ is_choice t (step_of s os)
  unfolding is_choice
  wrong-schema l =
      sym (ap (λ (b : Bool). b && (eqb (length os) (schema_at t s).params && objects_fit))
      (le-ltb s (length t.schemas) l))

  pub wrong-number : (param_count t s ≡ length os → ⊥) → false ≡ is_choice t (step_of s os)
  unfolding is_choice param_count
  wrong-number n =
      sym (ap (λ (b : Bool). ltb s (length t.schemas) && (b && objects_fit))
      (ne_eqb (length os) (schema_at t s).params (λ e. n (sym e))) ∙ and-false (ltb s (length t.schemas)))

  pub right-number : s < length t.schemas → param_count t s ≡ length os → objects_fit ≡ is_choice t (step_of s os)
  unfolding is_choice param_count
  right-number l e =
      sym (rw (lt-ltb s (length t.schemas) l, eq-eqb (length os) (schema_at t s).params (sym e)) refl)

-- what code finds of a schema, a count and the objects kept
pub step-judged : (w : List ℕ) → is_table w ≡ true → (s count : ℕ) (kept : List ℕ) (r : Bool) → length kept ≡ 12 →
    s < length (task_of w).schemas → param_count (task_of w) s ≡ count → (objects : ℕ) → objects ≡ (task_of w).objects →
    r ≡ all (λ o. ltb o objects) (take count kept) → (ns : List ℕ) → Listed ns count kept →
    r ≡ is_choice (task_of w) (step_of s ns)
step-judged w table s count kept r size known e objects many h ns listed =
    let few = params-few (task_of w) (of-table w table).0 s in
    let c = listed.counted in
    h ∙ (ap (all (λ o. ltb o objects)) (listed-take listed (omega arith)) ∙
    (ap (λ (m : ℕ). all (λ o. ltb o m) ns) many ∙ right-number (task_of w) s ns known (e ∙ sym c)))

-- the numbers of a step are words, and so few that they were kept
pub record StepKept (s count : ℕ) (kept : List ℕ) : Type 0 where
  pub schema : s < 65536
  pub few : count ≤ 12
  pub enough : count ≤ length kept
  pub small : (k : ℕ) → k < count → get_or kept k 0 < 65536

pub step_kept : (w : List ℕ) → is_table w ≡ true → (s count : ℕ) (kept ns : List ℕ) → length kept ≡ 12 →
    Listed ns count kept → is_choice (task_of w) (step_of s ns) ≡ true → StepKept s count kept
unfolding param_count
step_kept w table s count kept ns size listed h =
    let t = task_of w in
    let well = (of-table w table).0 in
    let is = is_choice-is t (step_of s ns) h in
    let c = listed.counted in
    let n = is.count in
    let few = params-few t well s in
    let known = is.known in
    let schemas = leb-true (length t.schemas) 200 (task-tests t well).schemas in
    let objects = leb-true t.objects 1000 (task-tests t well).objects in
    record {
      schema = omega arith;
      few = omega arith;
      enough = omega arith;
      small = λ k l.
          let o = is.small (get_or ns k 0) (in-get_or ns k 0 (omega arith)) in
          let e = listed.held k (omega arith) (omega arith) in
          omega arith;
    }

-- ---- a step's words are put
pub plan_words-is : plan_words ≡ step_size * most_plan_steps
unfolding plan_words
plan_words-is = refl

-- each of 100 steps has room
pub step_room : {n long : ℕ} → plan_words ≤ long → n < 100 → step_size * n + step_size ≤ long
step_room l few = let z = plan_words-is in omega arith

module _ (w : List ℕ) (at s : ℕ) (os v u : List ℕ) (room : at + step_size ≤ length w) (few : length os ≤ 12)
    (put : Wrote (set w at s) (at + 1) (length os) (λ k. get_or os k 0) v)
    (zeros : Wrote v (at + 1 + length os) (12 - length os) (λ k. 0) u) where
  abbrev behind : List ℕ
  behind = replicate (12 - length os) 0

  word-put : (k : ℕ) → k < step_size → get_or u (at + k) 0 ≡ get_or (s ∷ (os ++ behind)) k 0
  word-put zero l =
      let z : at + 0 ≡ at = omega arith in
      ap (λ (i : ℕ). get_or u i 0) z ∙ (zeros.before at (omega arith) ∙
      (put.before at (omega arith) ∙ get_or-set_same w at s 0 (omega arith)))
  word-put (suc j) l = elim (dec_lt j (length os)) [
    | yes m ↦
        let z : at + suc j ≡ at + 1 + j = omega arith in
        ap (λ (i : ℕ). get_or u i 0) z ∙ (zeros.before (at + 1 + j) (omega arith) ∙
        (put.put j m ∙ sym (get_or-append os behind 0 j m)))
    | no m ↦
        let z : at + suc j ≡ at + 1 + length os + (j - length os) = omega arith in
        let q : length os + (j - length os) ≡ j = omega arith in
        ap (λ (i : ℕ). get_or u i 0) z ∙ (zeros.put (j - length os) (omega arith) ∙
        (sym (get_or-replicate (12 - length os) (j - length os) 0 0 (omega arith)) ∙
        (sym (get_or-append-add os behind (j - length os) 0) ∙ ap (λ (i : ℕ). get_or (os ++ behind) i 0) q)))
  ]

  pub step-put : Wrote w at step_size (λ k. get_or (step_words (step_of s os)) k 0) u
  unfolding step_words padded
  step-put = record {
    size = zeros.size ∙ (put.size ∙ length-set w at s);
    put = word-put;
    before = λ j l. zeros.before j (omega arith) ∙ (put.before j (omega arith) ∙
        get_or-set_other w at j s 0 (λ e. omega arith));
    behind = λ j l. zeros.behind j (omega arith) ∙ (put.behind j (omega arith) ∙
        get_or-set_other w at j s 0 (λ e. omega arith));
  }

-- ---- the words of choices
-- each has thirteen words, and is read back
pub choice-sized : (t : Task) → well_formed t ≡ true → (x : Step) → is_choice t x ≡ true → length (step_words x) ≡ step_size
unfolding param_count
choice-sized t well x h =
    let few = params-few t well x.schema in
    let count = (is_choice-is t x h).count in
    length-step_words x (omega arith)

module _ (t : Task) (well : well_formed t ≡ true) (xs : List Step) (choices : all (is_choice t) xs ≡ true) where
  pub all-sized : StepSized xs
  all-sized x i = choice-sized t well x (all_in (is_choice t) choices i)

  choice-back : (k : ℕ) → k < length xs → step_at t (concat_map step_words xs) k ≡ get_or xs k no_step
  unfolding step_at param_count
  choice-back k l =
      let w = concat_map step_words xs in
      let x = get_or xs k no_step in
      step-in w (param_count t) k x (is_choice-is t x (all_in (is_choice t) choices (in-get_or xs k no_step l))).count
      (at-step w xs all-sized (λ j m. let z : 0 + j ≡ j = omega arith in ap (λ (i : ℕ). get_or w i 0) z) k l)

  pub choices-written : steps_in t (concat_map step_words xs) ≡ xs
  unfolding steps_in up_to
  choices-written =
      let w = concat_map step_words xs in
      let n = length-steps xs all-sized in
      let q : length w / step_size ≡ length xs = omega arith in
      ap (λ (m : ℕ). map (step_at t w) (up_from 0 m)) q ∙
      tabulate (step_at t w) 0 xs no_step
      (λ k l. let z : 0 + k ≡ k = omega arith in ap (step_at t w) z ∙ choice-back k l)

  -- one step more behind those that were put
  pub one_more : (x : Step) → is_choice t x ≡ true → {lent w after : List ℕ} {n : ℕ} → length xs ≡ n →
      Wrote lent 0 (step_size * n) (λ k. get_or (concat_map step_words xs) k 0) w →
      Wrote w (step_size * length xs) step_size (λ k. get_or (step_words x) k 0) after →
      Wrote lent 0 (step_size * (n + 1)) (λ k. get_or (concat_map step_words (xs ++ (x ∷ []))) k 0) after
  unfolding concat_map
  one_more x is {lent} {w} {after} {n} e a b =
      let l = length-steps xs all-sized in
      let words : concat_map step_words xs ++ step_words x ≡ concat_map step_words (xs ++ (x ∷ [])) =
      sym (append-concat_map step_words xs (x ∷ []) ∙
      ap (λ (ys : List ℕ). concat_map step_words xs ++ ys) (append-nil (step_words x))) in
      subst (λ (ys : List ℕ). Wrote lent 0 (step_size * (n + 1)) (λ k. get_or ys k 0) after) words
      (wrote-behind (concat_map step_words xs) (step_words x) (omega arith) (omega arith) (omega arith) a b)

  -- the words lie over those that were lent
  pub words-over : {lent after : List ℕ} {n : ℕ} → length xs ≡ n → step_size * n ≤ length lent →
      Wrote lent 0 (step_size * n) (λ k. get_or (concat_map step_words xs) k 0) after →
      after ≡ over (concat_map step_words xs) lent
  words-over {lent} {after} {n} e l h =
      let m = length-steps xs all-sized in
      over-is (concat_map step_words xs) lent after h.size (omega arith)
      (λ k q.
      let z : 0 + k ≡ k = omega arith in
      ap (λ (i : ℕ). get_or after i 0) (sym z) ∙ h.put k (omega arith))
      (λ k q. h.behind k (omega arith))

-- ---- a plan that was read
-- its words are the plan's steps, choices of objects for schemas of the task
pub record PlanWords (t : Task) (xs : List Step) (w : List ℕ) : Type 0 where
  pub few : length xs ≤ most_plan_steps
  pub choices : all (is_choice t) xs ≡ true
  pub are : w ≡ concat_map step_words xs
  pub size : length w ≡ step_size * length xs
  pub steps : steps_in t w ≡ xs

pub plan-words : (t : Task) → well_formed t ≡ true → (text lent : List ℕ) (xs : List Step) → read_plan t text ≡ read xs →
    PlanWords t xs (take (step_size * length xs) (over (concat_map step_words xs) lent))
plan-words t well text lent xs h =
    let (choices, few) = plan-read-choices t text xs h in
    let n = length-steps xs (all-sized t well xs choices) in
    let e = take-over (concat_map step_words xs) lent (step_size * length xs) n in
    record {
      few = few;
      choices = choices;
      are = e;
      size = ap length e ∙ n;
      steps = ap (steps_in t) e ∙ choices-written t well xs choices;
    }
