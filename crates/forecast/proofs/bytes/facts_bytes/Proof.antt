-- `forecast::bytes::facts_bytes` meets its contract: the task's lines and those of procnone make the split's, which are
-- short.
use Rattle.forecast.proofs.bytes.facts_bytes.Tie as tie
use Prim.Native.Nat.{ℕ, ◌^◌, ◌<◌}
use mathlib.Core.Path.{◌≡◌, sym, ◌∙◌, ap}
use mathlib.Core.List.{[]}
use native.Mathlib.Omega.{arith}
use borrow.Author.Rules.{rules}
use lib.ListN.{length}
use Rattle.task.specs.Task.{Task, initial, goal_role}
use Rattle.task.specs.Table.{task_of}
use Rattle.task.proofs.Tables.{of-table}
use Rattle.task.proofs.TableReads.{counts-inside}
use Rattle.task.proofs.TablesByIndex.{table-frame, arities-word}
use Rattle.tokens.specs.Split.{procnone, token, split_task}
use Rattle.forecast.specs.Counting.{row_line, facts_bytes}
use Rattle.forecast.proofs.HeadText.{facts-table, facts-are, facts-fit}
use Rattle.forecast.proofs.bytes.facts_bytes.Statement.{statement}

abbrev start : tie.After-facts_size → tie.Start
start c = c.before.before.before

abbrev task : tie.After-facts_size → Task
task c = task_of (start c).args.table.now

-- procnone's number
bare-is : (c : tie.After-facts_size) → c.word_at-procnone.result ≡ procnone (task c)
unfolding procnone
bare-is c =
    let w = (start c).args.table.now in
    c.word_at-procnone.ensures ∙ sym (arities-word w (table-frame w (start c).requires))

-- what is counted
old-counted : (c : tie.After-facts_size) → c.facts_size.result ≡ facts_bytes (task c)
old-counted c = c.facts_size.ensures ∙ facts-table (start c).args.table.now

init-counted : (c : tie.After-bare_line) →
    c.bare_line.result ≡ length (row_line (token initial (procnone (task c.before)) []))
init-counted c = c.bare_line.ensures ∙ ap (λ (p : ℕ). length (row_line (token initial p []))) (bare-is c.before)

goal-counted : (c : tie.After-bare_line-2) →
    c.bare_line-2.result ≡ length (row_line (token goal_role (procnone (task c.before.before)) []))
goal-counted c =
    c.bare_line-2.ensures ∙ ap (λ (p : ℕ). length (row_line (token goal_role p []))) (bare-is c.before.before)

short : (c : tie.After-facts_size) → facts_bytes (split_task (task c)) < 2 ^ 64
short c = facts-fit (task c) (of-table (start c).args.table.now (start c).requires).0

word-at-requires : tie.Need-word_at-procnone-requires
word-at-requires c κs = omega (arith, counts-inside c.args.table.now c.requires)

add-result : tie.Need-overflow_add-result
add-result c =
    omega (arith, old-counted c.before, init-counted c, facts-are (task c.before), short c.before)

returns : tie.Need-returns
returns c =
    omega (
      arith,
      old-counted c.before.before,
      init-counted c.before,
      goal-counted c,
      facts-are (task c.before.before),
    )

add-result-2 : tie.Need-overflow_add-result-2
add-result-2 c = omega (arith, returns c, short c.before.before)

pub facts_bytes_spec : {M : Type 1} → statement M
facts_bytes_spec =
    tie.close
    (tie.spec word-at-requires (λ c κs. search rules) (λ c κs. search rules) add-result (λ c κs. search rules)
    add-result-2 returns)
