-- `text::plan::write_plan` meets its contract. The invariant of its loop: what is still to come is the lines from step
-- i on and `end=1`. The measure is the number of steps less i.
use native.Mathlib.Omega.{arith}
use Prim.Native.Nat.{ℕ, ◌+◌, ◌-◌, ◌*◌, ◌/◌, ◌≤◌}
use mathlib.Core.Path.{◌≡◌, ◌∙◌, ap}
use mathlib.Core.List.{List, ◌++◌, append_assoc}
use lib.ListN.{length, get_or}
use Rattle.task.specs.Limits.{step_size}
use Rattle.task.specs.Table.{task_of}
use Rattle.task.specs.Run.{param_count, steps_in}
use Rattle.task.proofs.Tables.{of-table}
use Rattle.text.specs.Plan.{write_plan}
use Rattle.text.specs.PlanCode.{step_text}
use Rattle.text.proofs.Onwards.{onwards, onwards-next, onwards-none}
use Rattle.text.proofs.WholeText.{end_bytes}
use Rattle.text.proofs.PlanWritten.{line_at_step, plan-onwards, StepThere, step-there}
use Rattle.text.proofs.Writes.{writes-same, writes-size, writes-over, Writing, writing_start, writing-long}
use Rattle.text.proofs.Writes.{writing-left, writing-fits, writing-on, last_fits, writing-last}
use Rattle.text.proofs.plan.write_plan.Statement.{statement}
use Rattle.text.proofs.plan.write_plan.Tie as tie

abbrev invariant-loop-i : tie.invariant-loop-i
invariant-loop-i table words text₀ next₀ count i₀ text next i =
    (i ≤ length words / step_size) ×
    Writing text₀ 0 (write_plan (steps_in (task_of table) words))
    (onwards (line_at_step (task_of table) words) i (length words / step_size) ++ end_bytes) text next

abbrev decreases-loop-i : tie.decreases-loop-i
decreases-loop-i table words text₀ next₀ count i₀ text next i = length words / step_size - i

loop-holds : tie.Need-loop-i-init invariant-loop-i decreases-loop-i
loop-holds c =
    let start = c in
    let t = task_of start.args.table.now in
    let room = start.requires.1.1 in
    (omega arith, writing-left (plan-onwards t start.args.words.now) (writing_start (omega arith)))

-- the function's entry, from the loop's head
abbrev start : tie.At-loop-i invariant-loop-i decreases-loop-i → tie.Start invariant-loop-i decreases-loop-i
start c = c.before.before.before.before

module _ (c : tie.In-loop-i invariant-loop-i decreases-loop-i) where
  abbrev words : List ℕ
  words = (start c.before).args.words.now

  abbrev lines : ℕ → List ℕ
  lines = line_at_step (task_of (start c.before).args.table.now) words

  abbrev i : ℕ
  i = c.before.loop-i.i

  there : StepThere (task_of (start c.before).args.table.now) words i
  there =
      let start = start c.before in
      step-there (task_of start.args.table.now) words (of-table start.args.table.now start.requires.0).0
      start.requires.1.0 i c.loop-i-test.true

  -- what is to come is the line of step i, then those from i + 1 on, then the end
  to-come :
      Writing (start c.before).args.text.now 0
      (write_plan (steps_in (task_of (start c.before).args.table.now) words))
      (lines i ++ (onwards lines (i + 1) (length words / step_size) ++ end_bytes))
      c.before.loop-i.text c.before.loop-i.next
  to-come =
      writing-left
      (ap (λ (bs : List ℕ). bs ++ end_bytes) (onwards-next lines i (length words / step_size) c.loop-i-test.true) ∙
      append_assoc (lines i) (onwards lines (i + 1) (length words / step_size)) end_bytes)
      c.before.loop-i.invariant.1

mul-base : tie.Need-overflow_mul-base invariant-loop-i decreases-loop-i
mul-base c = let h = (there c).inside in omega arith

mul-param-count : tie.Need-offset_bounds-words-base invariant-loop-i decreases-loop-i
mul-param-count c = let h = (there c).inside in omega arith

shared-slice-read-param-count : tie.Need-bounds-words-base invariant-loop-i decreases-loop-i
shared-slice-read-param-count c = let h = (there c.before).inside in omega arith

param-count-requires : tie.Need-param_count-params-requires invariant-loop-i decreases-loop-i
param-count-requires c κs = ((start c.before.before).requires.0, (there c.before).known)

-- the parameters are those of the step's schema
params-read : (c : tie.After-param_count-params invariant-loop-i decreases-loop-i) →
    let at = c.before.before in
    c.param_count-params.result ≡ param_count (task_of (start at.before).args.table.now)
    (get_or (words at) (step_size * i at) 0)
params-read c = c.param_count-params.ensures

line_read : (c : tie.After-param_count-params invariant-loop-i decreases-loop-i) →
    let at = c.before.before in step_text (words at) (step_size * i at) c.param_count-params.result ≡ lines at
    (i at)
line_read c = ap (step_text (words c.before.before) (step_size * i c.before.before)) (params-read c)

write-step-requires : tie.Need-write_step-next-requires invariant-loop-i decreases-loop-i
write-step-requires c κs =
    let at = c.before.before.before in
    let e = params-read c.before in
    let inside = (there at).inside in
    let few = (there at).few in
    let later = onwards (lines at) (i at + 1) (length (words at) / step_size) ++ end_bytes in
    let r = writing-fits (lines at (i at)) later (to-come at) in
    let l = ap length (line_read c.before) in
    (omega arith, omega arith)

loop-less : tie.Need-loop-i-smaller invariant-loop-i decreases-loop-i
loop-less c = let l = c.loop-i-test.true in omega arith

loop-again : tie.Need-loop-i-preserved invariant-loop-i decreases-loop-i
loop-again c =
    let at = c.before.before.before.before.before.before in
    let l = c.loop-i-test.true in
    let line = writes-same (line_read c.before.before.before.before) c.write_step-next.ensures in
    (omega arith, writing-on (to-come at) line)

-- behind the last step only the end is to come
ending : (c : tie.After-loop-i invariant-loop-i decreases-loop-i) →
    let args = (start c.before).args in
    Writing args.text.now 0 (write_plan (steps_in (task_of args.table.now) args.words.now)) end_bytes
    c.loop-i.text c.loop-i.next
ending c =
    let args = (start c.before).args in
    let w = args.words.now in
    writing-left
    (ap (λ (bs : List ℕ). bs ++ end_bytes)
    (onwards-none (line_at_step (task_of args.table.now) w) c.loop-i.i (length w / step_size)
    c.loop-i-test.false))
    c.loop-i.invariant.1

write-bytes-requires : tie.Need-write_bytes-requires invariant-loop-i decreases-loop-i
write-bytes-requires c κs = last_fits (ending c.before.before.before)

same_length : tie.Need-shape_of-text invariant-loop-i decreases-loop-i
same_length c =
    c.write_bytes.auto.text ∙ writing-long (ending c.before.before.before.before.before.before)

returns : tie.Need-returns invariant-loop-i decreases-loop-i
returns c =
    let start = start c.before.before.before.before.before.before.before in
    let at-end = ending c.before.before.before.before.before.before in
    let written = writing-last at-end c.write_bytes.ensures in
    (writes-size written, writes-over written start.requires.1.1)

pub write_plan_spec : {M : Type 1} → statement M
write_plan_spec =
    tie.close
    (tie.spec invariant-loop-i decreases-loop-i loop-holds mul-base mul-param-count shared-slice-read-param-count
    param-count-requires write-step-requires (λ c. omega arith) loop-less loop-again write-bytes-requires
    same_length returns)
