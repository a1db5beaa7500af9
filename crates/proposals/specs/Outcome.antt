-- Document 02's notes 5 and 7: what the entry point `propose` does.
use Rattle.task.specs.declared.Place.TheVariants as place
use Rattle.std.specs.Prelude.{ℕ, ◌&&◌, List, [], ◌∷◌, length, replicate, leb}
use Rattle.std.specs.Prelude.{Option, None, Some, Result, ⊤}
use Rattle.task.specs.declared.refusals.Refusal.{Refusal}
use Rattle.words.specs.Lists.{over}
use Rattle.task.specs.Limits.{most_parameters}
use Rattle.task.specs.Answers.{Told, result, refused, Outcome, answer_told, refuse_unless, in_order}
use Rattle.task.specs.Task.{Task}
use Rattle.task.specs.Table.{task_of, words_of, long_enough, is_table}
use Rattle.proposals.specs.Proposal.{proposed_task, too_many}

-- what may be written: the words of the second table, and those of the scratch
pub record Lent : Type 0 where
  pub proposed : List ℕ
  pub scratch : List ℕ

-- "What is lent falls to 128 words of 64 bits" (note 7); shut, since a list function would count a numeral down
unfoldable pub scratch_words : ℕ
scratch_words = 128

-- "a width from 0 to 12": a schema has no more parameters
abbrev pub most_width : ℕ
most_width = most_parameters

-- "again all 0 after a result or 23"; words behind these stay as found
unfoldable pub cleared : List ℕ → List ℕ
unfolding over scratch_words
cleared scratch = over (replicate scratch_words 0) scratch

-- "23 when a schema ends with more than 16 parts, with the first such schema"; else the table of the task proposed
unfoldable pub settled : Option ℕ → Task → Lent → Outcome Lent
unfolding over words_of cleared
settled (Some s) t lent = record {
  told = refused 23 (place.Schema s) [];
  buffer = record { proposed = lent.proposed; scratch = cleared lent.scratch };
}
settled None t lent = record {
  told = result [];
  buffer = record { proposed = over (words_of t) lent.proposed; scratch = cleared lent.scratch };
}

-- `propose`, lent a table, a second one for the result and a scratch: "Given a task and a width from 0 to 12, write its
-- table with fresh parts to a second one". "22, after 2, for a width above 12 or a shorter scratch", and it "reads that
-- length"
unfoldable pub propose_outcome : List ℕ → ℕ → List ℕ → List ℕ → Outcome Lent
unfolding in_order refuse_unless long_enough is_table task_of settled too_many proposed_task scratch_words
propose_outcome table width proposed scratch =
    let t = proposed_task width (task_of table) in
    let lent : Lent = record { proposed = proposed; scratch = scratch } in
    in_order
    (refuse_unless (long_enough table && long_enough proposed) 1 ∷
    refuse_unless (is_table table) 2 ∷
    refuse_unless (leb width most_width && leb scratch_words (length scratch)) 22 ∷ [])
    lent
    (settled (too_many t) t lent)

-- the number and place of each case of the answer; a result carries nothing
unfoldable pub propose_answer_told : Result ⊤ Refusal → Told
propose_answer_told = answer_told (λ nothing. [])
