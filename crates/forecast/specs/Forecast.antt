-- Document 02's note 6: "Before asking for a split, the office wants its sizes".
use Rattle.std.specs.Prelude.{ℕ, ◌^◌, ◌&&◌, List, [], ◌∷◌, map, length, ltb, Result}
use Rattle.forecast.specs.declared.Forecast.{Forecast}
use Rattle.words.specs.Lists.{sum}
use Rattle.task.specs.declared.refusals.Refusal.{Refusal}
use Rattle.task.specs.Answers.{Told, result, answer_told, Outcome, refuse_unless, in_order}
use Rattle.task.specs.Task.{Schema, Task, schema_atoms}
use Rattle.task.specs.Table.{task_of, long_enough, is_table}
use Rattle.text.specs.Text.{write}
use Rattle.tokens.specs.Split.{split_task, split, split_check}

-- "the ground instances .., a schema with n parameters counting objects to the power n"
unfoldable pub instances_of : ℕ → List Schema → ℕ
unfolding sum
instances_of objects schemas = sum (map (λ s. objects ^ s.params) schemas)

unfoldable pub instances : Task → ℕ
unfolding instances_of
instances t = instances_of t.objects t.schemas

-- "predicates, schemas, schema atoms, text bytes, and the ground instances before and after"; "The instances before are
-- the task's; all else equals the split's"
unfoldable pub sizes : Task → List ℕ
unfolding split_task write instances
sizes t =
    let s = split_task t in
    length s.arities ∷
    length s.schemas ∷
    schema_atoms s.schemas ∷
    length (write s) ∷
    instances t ∷
    instances s ∷ []

-- "2 to the power 63"; shut, since a function on numbers would count it down
unfoldable pub instance_limit : ℕ
instance_limit = 2 ^ 63

-- `sizes`, lent one table, of which nothing is written; the answer carries the six sizes. "Refused as splitting would,
-- then 24, when either instance total is 2 to the power 63 or more"
unfoldable pub sizes_outcome : List ℕ → Outcome (List ℕ)
unfolding in_order refuse_unless long_enough is_table task_of split_check split split_task sizes instances instance_limit
sizes_outcome table =
    let t = task_of table in
    in_order
    (refuse_unless (long_enough table) 1 ∷
    refuse_unless (is_table table) 2 ∷
    split_check (split t) ∷
    refuse_unless (ltb (instances t) instance_limit && ltb (instances (split_task t)) instance_limit) 24 ∷ [])
    []
    (record { told = result (sizes t); buffer = [] })

-- the number, place and values of the answer
abbrev pub sizes_answer_told : Result Forecast Refusal → Told
sizes_answer_told answer =
    answer_told (λ f. f.predicates ∷ f.schemas ∷ f.atoms ∷ f.bytes ∷ f.before ∷ f.after ∷ []) answer
