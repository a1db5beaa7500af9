-- The entry points `read` and `write`, and `read_plan`, on bytes and words: what each answers, and its lent buffer
-- afterwards.
use Rattle.task.specs.declared.Place.TheVariants as place
use Rattle.std.specs.Prelude.{ℕ, List, [], ◌∷◌, length, replicate, leb}
use Rattle.std.specs.Prelude.{Result}
use Rattle.task.specs.declared.refusals.Refusal.{Refusal}
use Rattle.words.specs.Lists.{over, concat_map}
use Rattle.task.specs.Limits.{table_words}
use Rattle.task.specs.Answers.{Told, result, refused, Outcome, refuse_unless, in_order, answer_told}
use Rattle.task.specs.Task.{Task}
use Rattle.task.specs.Table.{words_of, task_of, long_enough, is_table}
use Rattle.task.specs.Run.{Step, step_words}
use Rattle.text.specs.Reading.{Reading, read, refused_at}
use Rattle.text.specs.Text.{write, read_text}
use Rattle.text.specs.Plan.{plan_words, read_plan}

-- refusals 3 to 8, 19 and 21 leave the "table all 0"; words past 14,007 "are never touched"
unfoldable pub read_done : List ℕ → Reading Task → Outcome (List ℕ)
unfolding over words_of table_words
read_done table (read t) = record { told = result []; buffer = over (words_of t) table }
read_done table (refused_at k n) = record {
  told = refused k (place.Line n) [];
  buffer = over (replicate table_words 0) table;
}

-- `read`, lent a text and a table to write
unfoldable pub read_outcome : List ℕ → List ℕ → Outcome (List ℕ)
unfolding in_order refuse_unless long_enough read_done read_text
read_outcome text table = in_order (refuse_unless (long_enough table) 1 ∷ []) table (read_done table (read_text text))

-- `write`, lent a table and bytes for its text; the answer carries the number of bytes, and "other buffers [stay]
-- untouched" beyond a result
unfoldable pub write_outcome : List ℕ → List ℕ → Outcome (List ℕ)
unfolding in_order refuse_unless long_enough is_table over write task_of
write_outcome table text =
    let written = write (task_of table) in
    in_order
    (refuse_unless (long_enough table) 1 ∷
    refuse_unless (is_table table) 2 ∷
    refuse_unless (leb (length written) (length text)) 11 ∷ [])
    text
    (record { told = result (length written ∷ []); buffer = over written text })

-- a plan's steps over the front of what was lent; a refusal, "each with its line", leaves the words of 100 steps 0
unfoldable pub plan_done : List ℕ → Reading (List Step) → Outcome (List ℕ)
unfolding over concat_map step_words plan_words
plan_done lent (read xs) = record { told = result (length xs ∷ []); buffer = over (concat_map step_words xs) lent }
plan_done lent (refused_at k n) = record {
  told = refused k (place.Line n) [];
  buffer = over (replicate plan_words 0) lent;
}

-- `read_plan`, lent a table, the text of a plan of its task, and words for 100 steps; the answer carries the number of
-- steps
unfoldable pub plan_outcome : List ℕ → List ℕ → List ℕ → Outcome (List ℕ)
unfolding plan_done read_plan task_of
plan_outcome table text lent = plan_done lent (read_plan (task_of table) text)

-- document 01's number, place and values of each case of the answers
abbrev pub read_answer_told : Result (Unit {0}) Refusal → Told
read_answer_told = answer_told (λ done. [])

abbrev pub write_answer_told : Result ℕ Refusal → Told
write_answer_told = answer_told (λ size. size ∷ [])

abbrev pub plan_answer_told : Result ℕ Refusal → Told
plan_answer_told = answer_told (λ steps. steps ∷ [])
