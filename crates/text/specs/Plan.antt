-- 'Text form', the second program's file `plan`: "at most 100 `step=` lines, schema, colon, objects; then `end=1`".
use Rattle.std.specs.Prelude.{ℕ, ◌*◌, List, [], ◌∷◌, ◌++◌, map, length, eqb, ltb}
use Prim.Native.String.{String}
use Rattle.words.specs.Lists.{concat_map}
use Rattle.task.specs.Limits.{step_size}
use Rattle.task.specs.Task.{Task}
use Rattle.task.specs.Run.{Step, is_choice}
use Rattle.text.specs.Lines.{Entry, digits, entry_bytes, line, Reader, number, entry, ended, read_line}
use Rattle.text.specs.Reading.{Turn, go_on, finish, need, Reading, read_lines}

-- "at most 100 `step=` lines"
abbrev pub most_plan_steps : ℕ
most_plan_steps = 100

-- the words of so many steps: shut, since a list function would count a numeral down
unfoldable pub plan_words : ℕ
plan_words = step_size * most_plan_steps

-- ---- lines
pub data PlanKey : Type 0 where
  step end : PlanKey

unfoldable pub plan_key_name : PlanKey → String
plan_key_name step = "step"
plan_key_name end = "end"

pub data PlanLine : Type 0 where
  step_line : Entry → PlanLine
  end_line : ℕ → PlanLine

unfoldable pub write_plan_line : PlanLine → List ℕ
unfolding line plan_key_name digits entry_bytes
write_plan_line (step_line e) = line (plan_key_name step) (entry_bytes e)
write_plan_line (end_line n) = line (plan_key_name end) (digits n)

unfoldable pub read_plan_body : PlanKey → Reader PlanLine
unfolding ended number entry
read_plan_body step bs = ended step_line (entry bs)
read_plan_body end bs = ended end_line (number bs)

-- ---- writing
unfoldable pub step_entry : Step → Entry
step_entry x = record { head = x.schema; list = x.objects }

unfoldable pub plan_lines : List Step → List PlanLine
unfolding step_entry
plan_lines xs = map (λ x. step_line (step_entry x)) xs ++ (end_line 1 ∷ [])

unfoldable pub write_plan : List Step → List ℕ
unfolding concat_map write_plan_line plan_lines
write_plan xs = concat_map write_plan_line (plan_lines xs)

-- ---- reading
-- "There a line out of form is 3, a 101st step 4, a wrong schema, object or number of objects 5, each with its line";
-- equal objects at a pair pass here, for unfolding to answer 12
unfoldable pub take_plan_line : Task → List Step → PlanLine → Turn (List Step) (List Step)
unfolding need is_choice
take_plan_line t xs (step_line e) =
    let x : Step = record { schema = e.head; objects = e.list } in
    need (ltb (length xs) most_plan_steps) 4
    (need (is_choice t x) 5
    (go_on (xs ++ (x ∷ []))))
take_plan_line t xs (end_line n) = need (eqb n 1) 3 (finish xs)

unfoldable pub next_plan_line : List Step → Reader PlanLine
unfolding read_line plan_key_name read_plan_body
next_plan_line xs bs = read_line plan_key_name read_plan_body (step ∷ end ∷ []) bs

-- a text that reads as a plan of the task, or its first refusal
unfoldable pub read_plan : Task → List ℕ → Reading (List Step)
unfolding read_lines next_plan_line take_plan_line
read_plan t bs = read_lines next_plan_line (take_plan_line t) 1 [] bs
