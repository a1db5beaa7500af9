-- `forecast::bytes::text_bytes` meets its contract: the text is the sum of its head, its schemas, its initial and goal
-- atoms and its end. It is no longer than a table's, so no sum wraps.
use Rattle.forecast.proofs.bytes.text_bytes.Tie as tie
use native.Mathlib.Omega.{arith}
use borrow.Author.Rules.{rules}
use Rattle.task.specs.Task.{Task}
use Rattle.task.specs.Table.{task_of}
use Rattle.text.specs.Lines.{bytes, line}
use Rattle.tokens.specs.Split.{split_task}
use Rattle.forecast.proofs.SplitText.{text-is, split-text-fits, few-tokens}
use Rattle.forecast.proofs.bytes.text_bytes.Statement.{statement}

abbrev start : tie.After-facts_bytes-facts → tie.Start
start c = c.before.before.before.before

abbrev split : tie.Start → Task
split s = split_task (task_of s.args.table.now)

head-bytes-requires : tie.Need-head_bytes-head-requires
head-bytes-requires c κs =
    let S = c.requires in
    (S.table, (S.sized, few-tokens S))

schemas-bytes-requires : tie.Need-schemas_bytes-schemas-requires
schemas-bytes-requires c κs =
    let s = c in
    (s.requires, omega (arith, text-is (split s.before.before), split-text-fits s.requires))

add-result : tie.Need-overflow_add-result
add-result c =
    let s = start c in
    omega (
      arith,
      c.head_bytes-head.ensures,
      c.schemas_bytes-schemas.ensures,
      text-is (split s),
      split-text-fits s.requires,
    )

add-result-2 : tie.Need-overflow_add-result-2
add-result-2 c =
    let s = start c in
    omega (
      arith,
      c.head_bytes-head.ensures,
      c.schemas_bytes-schemas.ensures,
      c.facts_bytes-facts.ensures,
      text-is (split s),
      split-text-fits s.requires,
    )

number-line-size-requires : tie.Need-number_line_size-requires
unfolding line bytes
number-line-size-requires c κs =
    let s = start c.before.before in
    omega (arith, text-is (split s), split-text-fits s.requires)

returns : tie.Need-returns
unfolding line bytes
returns c =
    let f = c in
    omega (
      arith,
      f.head_bytes-head.ensures,
      f.schemas_bytes-schemas.ensures,
      f.facts_bytes-facts.ensures,
      c.number_line_size.ensures,
      text-is (split (start f.before.before.before)),
    )

add-result-3 : tie.Need-overflow_add-result-3
add-result-3 c = omega (arith, returns c, split-text-fits (start c.before.before.before).requires)

pub text_bytes_spec : {M : Type 1} → statement M
text_bytes_spec =
    tie.close
    (tie.spec head-bytes-requires schemas-bytes-requires (λ c κs. search rules) add-result add-result-2
    number-line-size-requires add-result-3 returns)
