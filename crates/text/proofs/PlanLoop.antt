-- The loop over a plan's lines: the line at a cursor by its key, and reading the whole text as reading on from the
-- cursor with the steps whose words were put. A line that is refused, and one that ends reading, give the answer.
use Rattle.text.specs.declared.plan.PlanTurn.TheVariants as turn
use Prim.Native.Nat.{ℕ, suc, ◌+◌, ◌*◌, ◌≤◌, ◌<◌}
use mathlib.Core.Path.{◌≡◌, refl, sym, ◌∙◌, ap, subst}
use mathlib.Core.Bool.{true, false}
use mathlib.Core.List.{List, [], ◌∷◌, ◌++◌}
use Rattle.std.specs.Prelude.{Option, None, Some, Result, Ok, Err}
use Rattle.task.specs.declared.refusals.Reason.{Reason}
use mathlib.Core.Logic.{◌⊎◌, inl, inr}
use native.Mathlib.Omega.{arith}
use lib.ListN.{length, get_or, replicate, length-append, drop_of_length-le}
use lib.Seq.{drop-cons}
use borrow.Author.Tests.{lt-ltb, le-ltb, eq-eqb, ne_eqb}
use Rattle.words.specs.Lists.{all, concat_map, over}
use Rattle.task.specs.Limits.{step_size}
use Rattle.task.specs.Task.{Task, well_formed}
use Rattle.task.specs.Run.{Step, is_choice, step_words}
use Rattle.words.proofs.Lists.{here, there}
use Rattle.text.specs.declared.cursor.Cursor.{Cursor}
use Rattle.text.specs.declared.plan.PlanTurn.{PlanTurn}
use Rattle.text.specs.Lines.{Taken, after, number, entry, ended}
use Rattle.text.specs.Reading.{go_on, finish, refuse, Reading, read, refused_at, at_end, line_at, read_lines}
use Rattle.text.specs.Plan.{PlanKey, step, end, plan_key_name, PlanLine, step_line, end_line, read_plan_body, plan_words}
use Rattle.text.specs.Plan.{most_plan_steps, take_plan_line, next_plan_line, read_plan}
use Rattle.text.specs.ReadCode.{rest, Placed, start_cursor, Moved, WordHere, Wrote}
use Rattle.text.specs.PlanCode.{step_of, PlanRefuses, PlanFinishes, PlanGoesOn, PlanTurned}
use Rattle.text.proofs.Taken.{after_read}
use Rattle.text.proofs.Reading.{need-met}
use Rattle.text.proofs.PlanText.{plan_keys}
use Rattle.text.proofs.Growing.{all_snoc}
use Rattle.text.proofs.ReadersAt.{read_plan-lines, plan-line}
use Rattle.text.proofs.WholeLines.{next-placed}
use Rattle.text.proofs.KeyLines.{no_line, one_line}
use Rattle.text.proofs.LineTurns.{need-fails}
use Rattle.text.proofs.WroteWords.{wrote_none}
use Rattle.text.proofs.Dispatch.{next-from}
use Rattle.text.proofs.LaidOut.{cleared-over}
use Rattle.text.proofs.PlanSteps.{plan_words-is, one_more, words-over}
use Rattle.text.proofs.KeyedLines.{keyed, clash, after-clash}

-- ---- the line at a cursor
module _ (xs : List Step) (bs : List ℕ) where
  abbrev Keyed : PlanKey → List ℕ → Type 0
  Keyed k rest = after (keyed (plan_key_name k)) bs ≡ Some rest

  abbrev Unkeyed : PlanKey → Type 0
  Unkeyed k = after (keyed (plan_key_name k)) bs ≡ None

  pub next-step : (rest : List ℕ) → Keyed step rest → next_plan_line xs bs ≡ ended step_line (entry rest)
  unfolding next_plan_line read_plan_body plan_key_name clash
  next-step rest e = one_line plan_key_name read_plan_body bs step rest e {ks = plan_keys xs} (here refl) (λ j i. others j)
    where
      others : (j : PlanKey) → (j ≡ step) ⊎ Unkeyed j
      others step = inl refl
      others end = inr (ap (after (keyed "end")) (after_read (keyed "step") bs rest e) ∙
          after-clash (keyed "end") (keyed "step") rest refl)

  pub next-end : (rest : List ℕ) → Unkeyed step → Keyed end rest → next_plan_line xs bs ≡ ended end_line (number rest)
  unfolding next_plan_line read_plan_body
  next-end rest n e =
      one_line plan_key_name read_plan_body bs end rest e {ks = plan_keys xs} (there (here refl)) (λ j i. others j)
    where
      others : (j : PlanKey) → (j ≡ end) ⊎ Unkeyed j
      others step = inr n
      others end = inl refl

  pub next-none : Unkeyed step → Unkeyed end → next_plan_line xs bs ≡ None
  unfolding next_plan_line
  next-none n e = no_line plan_key_name read_plan_body bs (plan_keys xs) (λ j i. neither j)
    where
      neither : (j : PlanKey) → Unkeyed j
      neither step = n
      neither end = e

-- ---- what a line does
module _ (t : Task) (xs : List Step) where
  pub step-taken : (s : ℕ) (os : List ℕ) → length xs < most_plan_steps → is_choice t (step_of s os) ≡ true →
      take_plan_line t xs (step_line (record { head = s; list = os })) ≡ go_on (xs ++ (step_of s os ∷ []))
  unfolding take_plan_line
  step-taken s os l h = need-met 4 (lt-ltb (length xs) most_plan_steps l) (need-met 5 h refl)

  -- "a 101st step 4"
  pub one-too-many : (s : ℕ) (os : List ℕ) → most_plan_steps ≤ length xs →
      take_plan_line t xs (step_line (record { head = s; list = os })) ≡ refuse 4
  unfolding take_plan_line
  one-too-many s os l = need-fails 4 _ (le-ltb (length xs) most_plan_steps l)

  -- "a wrong schema, object or number of objects 5"
  pub step-wrong : (s : ℕ) (os : List ℕ) → length xs < most_plan_steps → is_choice t (step_of s os) ≡ false →
      take_plan_line t xs (step_line (record { head = s; list = os })) ≡ refuse 5
  unfolding take_plan_line
  step-wrong s os l h = need-met 4 (lt-ltb (length xs) most_plan_steps l) (need-fails 5 _ h)

  pub end-taken : (n : ℕ) → n ≡ 1 → take_plan_line t xs (end_line n) ≡ finish xs
  unfolding take_plan_line
  end-taken n e = need-met 3 (eq-eqb n 1 e) refl

  pub end-wrong : (n : ℕ) → (n ≡ 1 → ⊥) → take_plan_line t xs (end_line n) ≡ refuse 3
  unfolding take_plan_line
  end-wrong n e = need-fails 3 _ (ne_eqb n 1 e)

-- a key moves the cursor on
pub word_moved : {text : List ℕ} {from body : Cursor} (word : List ℕ) → 0 < length word → WordHere text from word body →
    Moved text from body
word_moved word l w = let f = w.far in record { on = omega arith; inside = w.inside; line = w.line }

-- a turn at a body is the turn at its line
pub plan-turned-at : (t : Task) (text : List ℕ) (from body : Cursor) (xs : List Step) (l m : Option (Taken PlanLine))
    (w : List ℕ) (r : Result PlanTurn Reason) (after : List ℕ) → Moved text from body → l ≡ m →
    PlanTurned t text body xs m w r after → PlanTurned t text from xs l w r after
plan-turned-at t text from body xs l m w (Ok (turn.GoOn at)) after moved e h = record {
  last = h.last;
  is-choice = h.is-choice;
  room = h.room;
  is = λ n next. rw e (h.is n next);
  put = h.put;
  line = next-from moved h.line;
}
plan-turned-at t text from body xs l m w (Ok (turn.Finish at)) after moved e (h, q) =
    (record { is = λ n next. rw e (h.is n next); line = next-from moved h.line }, q)
plan-turned-at t text from body xs l m w (Err k) after moved e (h, q) = (λ n next. rw e (h n next), q)

-- ---- the loop
module _ (t : Task) (text lent : List ℕ) where
  pub record PlanSoFar (at : Cursor) (n : ℕ) (w : List ℕ) : Type 0 where
    pub placed : Placed text at
    pub steps : List Step
    pub count : length steps ≡ n
    pub few : n ≤ most_plan_steps
    pub good : all (is_choice t) steps ≡ true
    pub words : Wrote lent 0 (step_size * n) (λ k. get_or (concat_map step_words steps) k 0) w
    pub so_far : read_plan t text ≡ read_lines next_plan_line (take_plan_line t) at.line steps (rest text at)

  pub plan-begins : PlanSoFar start_cursor 0 lent
  unfolding all concat_map
  plan-begins = record {
    placed = record { inside = omega arith; line = omega arith };
    steps = [];
    count = refl;
    few = omega arith;
    good = refl;
    words = wrote_none lent 0 (λ k. get_or (concat_map step_words []) k 0);
    so_far = read_plan-lines t text;
  }

  module _ {at : Cursor} {n : ℕ} {w : List ℕ} (s : PlanSoFar at n w) where
    abbrev here-line : Option (Taken PlanLine)
    here-line = next_plan_line s.steps (rest text at)

    abbrev onward : List Step → List ℕ → Reading (List Step)
    onward = read_lines next_plan_line (take_plan_line t) (suc at.line)

    so-turned : read_plan t text ≡ line_at at.line (take_plan_line t s.steps) here-line onward
    so-turned = s.so_far ∙ plan-line t at.line s.steps (rest text at)

    pub plan-refuses : (k : ℕ) → PlanRefuses t text at s.steps here-line k → read_plan t text ≡ refused_at k at.line
    plan-refuses k r = so-turned ∙ r at.line onward

    pub plan-goes : well_formed t ≡ true → {next : Cursor} {after : List ℕ} →
        PlanGoesOn t text at s.steps here-line next w after → PlanSoFar next (n + 1) after
    plan-goes well {next} {after} g =
        let c = s.count in
        let l = g.line.line in
        let r = g.room in
        let z : next.line ≡ suc at.line = omega arith in
        record {
          placed = next-placed s.placed g.line;
          steps = s.steps ++ (g.last ∷ []);
          count = omega (arith, length-append s.steps (g.last ∷ []));
          few = omega arith;
          good = all_snoc (is_choice t) s.steps g.last s.good g.is-choice;
          words = one_more t well s.steps s.good g.last g.is-choice c s.words g.put;
          so_far = so-turned ∙ (g.is at.line onward ∙
              ap (λ (i : ℕ). read_lines next_plan_line (take_plan_line t) i (s.steps ++ (g.last ∷ [])) (rest text next))
              (sym z));
        }

    module _ {next : Cursor} (f : PlanFinishes t text at s.steps here-line next) where
      plan-ends : read_plan t text ≡ at_end s.steps next.line (rest text next)
      plan-ends =
          let l = f.line.line in
          let z : suc at.line ≡ next.line = omega arith in
          so-turned ∙ (f.is at.line onward ∙ ap (λ (i : ℕ). at_end s.steps i (rest text next)) z)

      -- "text .. left over"
      pub plan-left-over : next.at < length text → read_plan t text ≡ refused_at 3 next.line
      unfolding at_end
      plan-left-over l = plan-ends ∙ ap (at_end s.steps next.line) (drop-cons text next.at 0 l)

      pub plan-whole : length text ≤ next.at → read_plan t text ≡ read s.steps
      unfolding at_end
      plan-whole l = plan-ends ∙ ap (at_end s.steps next.line) (drop_of_length-le text l)

    -- the words of the steps, once they are all read
    pub plan-stored : well_formed t ≡ true → plan_words ≤ length lent → w ≡ over (concat_map step_words s.steps) lent
    plan-stored well long =
        let m = s.few in
        let z = plan_words-is in
        words-over t well s.steps s.good s.count (omega arith) s.words

    -- the words of 100 steps, once they were cleared behind a line that left them as they were
    pub plan-cleared : plan_words ≤ length lent → {left after : List ℕ} → left ≡ w →
        Wrote left 0 plan_words (λ k. 0) after → after ≡ over (replicate plan_words 0) lent
    plan-cleared long {left} {after} e h =
        let m = s.few in
        let z = plan_words-is in
        cleared-over plan_words lent w after long s.words.size (λ j l. s.words.behind j (omega arith))
        (subst (λ (v : List ℕ). Wrote v 0 plan_words (λ k. 0) after) e h)
