-- The pairs of the first j parts were put.
use Rattle.std.proofs.Common.{◌≡◌, length}
use Rattle.task.specs.Task.{Schema}
use Rattle.task.specs.Table.{task_of, pair_words}
use Rattle.words.specs.Putting.{Puts}
use Rattle.tokens.specs.Split.{orders, split_schema}
use Rattle.tokens.specs.Kept.{kept_first}
use Rattle.tokens.proofs.SchemaRuns.{parts_up_to}
use Rattle.tokens.proofs.pairs.schema_pairs.Given as goal

abbrev pub invariant-loop-j : goal.invariant-loop-j
invariant-loop-j l =
    let t = task_of l.fn.table in
    (length l.out ≡ length l.fn.out) ×
    Puts l.fn.out l.fn.at
    (parts_up_to pair_words (λ (u : Schema). u.pairs) (kept_first l.fn.kept l.fn.s)
    (split_schema t l.fn.s (orders t l.fn.s)) l.j) l.out l.next
