-- What the code of a plan's text promises, by the definitions of `Plan`: the turn at a line with the words of the steps
-- before it and after it, and a step's line by its words.
use Rattle.text.specs.declared.plan.PlanTurn.TheVariants as turn
use Rattle.std.specs.Prelude.{ℕ, suc, ◌+◌, ◌*◌, ◌<◌, ◌≡◌, true, List, [], ◌∷◌, ◌++◌, length, get_or}
use Rattle.std.specs.Prelude.{Option, Result, Ok, Err}
use Rattle.task.specs.declared.refusals.Reason.{Reason}
use Rattle.task.specs.Answers.{reason_number}
use Rattle.words.specs.Words.{words_at}
use Rattle.task.specs.Task.{Task}
use Rattle.task.specs.Run.{Step, is_choice, step_words}
use Rattle.text.specs.declared.cursor.Cursor.{Cursor}
use Rattle.text.specs.declared.plan.PlanTurn.{PlanTurn}
use Rattle.text.specs.Lines.{Taken, entry_bytes, line}
use Rattle.text.specs.Reading.{Reading, refused_at, at_end, line_at}
use Rattle.text.specs.Plan.{PlanLine, step, plan_key_name, take_plan_line, most_plan_steps}
use Rattle.text.specs.ReadCode.{rest, Wrote, NextLine}
use Rattle.task.specs.Limits.{most_parts, step_size}

-- a step as it is read: "schema, colon, objects"
abbrev pub step_of : ℕ → List ℕ → Step
step_of s os = record { schema = s; objects = os }

-- ---- turns
abbrev pub PlanNext : Type 0
PlanNext = List Step → List ℕ → Reading (List Step)

module _ (t : Task) (text : List ℕ) (from : Cursor) (xs : List Step) (l : Option (Taken PlanLine)) where
  -- a line that is refused
  abbrev pub PlanRefuses : ℕ → Type 0
  PlanRefuses k = (n : ℕ) (next : PlanNext) → line_at n (take_plan_line t xs) l next ≡ refused_at k n

  -- a line that ends reading
  pub record PlanFinishes (at : Cursor) : Type 0 where
    pub is : (n : ℕ) (next : PlanNext) → line_at n (take_plan_line t xs) l next ≡ at_end xs (suc n) (rest text at)
    pub line : NextLine text from at

  -- a line behind which reading goes on, with a step more whose words were put behind those of the others
  pub record PlanGoesOn (at : Cursor) (w after : List ℕ) : Type 0 where
    pub last : Step
    pub is-choice : is_choice t last ≡ true
    pub room : length xs < most_plan_steps
    pub is : (n : ℕ) (next : PlanNext) → line_at n (take_plan_line t xs) l next ≡ next (xs ++ (last ∷ [])) (rest text at)
    pub put : Wrote w (step_size * length xs) step_size (λ k. get_or (step_words last) k 0) after
    pub line : NextLine text from at

-- what the code does at a line behind the steps xs, with the words before it and after it
abbrev pub PlanTurned : Task → List ℕ → Cursor → List Step → Option (Taken PlanLine) → List ℕ →
    Result PlanTurn Reason → List ℕ → Type 0
PlanTurned t text from xs l w (Ok (turn.GoOn at)) after = PlanGoesOn t text from xs l at w after
PlanTurned t text from xs l w (Ok (turn.Finish at)) after = PlanFinishes t text from xs l at × (after ≡ w)
PlanTurned t text from xs l w (Err r) after = PlanRefuses t text from xs l (reason_number r) × (after ≡ w)

-- ---- writing
-- the line of a step with so many objects, whose words begin at b
unfoldable pub step_text : List ℕ → ℕ → ℕ → List ℕ
unfolding line plan_key_name entry_bytes words_at
step_text w b params =
    line (plan_key_name step) (entry_bytes (record { head = get_or w b 0; list = words_at w (b + 1) params }))

-- a plan unfolds to no more steps: "1 to 16 parts" of each
abbrev pub most_split_steps : ℕ
most_split_steps = most_parts * most_plan_steps

-- no unfolding of a plan is longer: each of 1,600 steps takes 57 bytes, 5 for the key and its =, 3 for one of 200
-- schemas, 47 for 12 of 1,000 objects with commas between, 2 for the colon and the line's end; 6 for `end`; shut, since
-- a list function would count a numeral down
unfoldable pub longest_plan : ℕ
longest_plan = 91206
