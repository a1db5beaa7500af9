-- The entry point `write_pddl`, on words and bytes: what it answers, and its lent bytes afterwards.
use Rattle.std.specs.Prelude.{ℕ, List, [], ◌∷◌, length, leb}
use Rattle.words.specs.Lists.{over}
use Rattle.task.specs.Answers.{result, Outcome, refuse_unless, in_order}
use Rattle.task.specs.Table.{task_of, long_enough, is_table}
use Rattle.defines.specs.Pddl.{pddl}

-- lent a table and bytes for its text; the answer carries the number of bytes, and bytes behind the text stay.
-- "Refused: 18, after 2, when the text is longer than the lent bytes"
unfoldable pub pddl_outcome : List ℕ → List ℕ → Outcome (List ℕ)
unfolding in_order refuse_unless long_enough is_table over pddl task_of
pddl_outcome table text =
    let written = pddl (task_of table) in
    in_order
    (refuse_unless (long_enough table) 1 ∷
    refuse_unless (is_table table) 2 ∷
    refuse_unless (leb (length written) (length text)) 18 ∷ [])
    text
    (record { told = result (length written ∷ []); buffer = over written text })
