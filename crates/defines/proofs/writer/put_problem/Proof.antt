-- `defines::writer::put_problem` meets its contract: between fixed bytes it puts the objects, the initial and the goal
-- atoms, one behind another. A lemma for each says what is still to come behind it. The initial atoms are a run from
-- `from` on, and the goal's run begins where that ended.
use native.Mathlib.Omega.{arith}
use Prim.Native.Nat.{ℕ, ◌-◌}
use mathlib.Core.Path.{◌≡◌, refl, ap}
use mathlib.Core.List.{List, [], ◌∷◌, ◌++◌}
use lib.ListN.{length}
use Rattle.words.specs.Lists.{up_to, up_from}
use Rattle.words.specs.Putting.{Puts}
use Rattle.words.proofs.Puts.{puts-length, puts-same, Going, going_start, going-left, going-room, going_on, last-room}
use Rattle.words.proofs.Puts.{going-last}
use Rattle.task.specs.Layout.{head_in, goals_from, atom_total}
use Rattle.task.specs.Task.{initial, goal_role}
use Rattle.task.specs.Table.{task_of}
use Rattle.task.proofs.TableReads.{counts-inside}
use Rattle.text.specs.Lines.{bytes, newline}
use Rattle.defines.specs.Pddl.{problem_text}
use Rattle.defines.specs.ByWords.{marked, items_in, RoleRun}
use Rattle.defines.proofs.RoleRuns.{initial-run, goal-run}
use Rattle.defines.proofs.RunsPut.{run-asked, run_ends, run-puts}
use Rattle.defines.proofs.DefinesIn.{problem-in}
use Rattle.defines.proofs.writer.put_problem.Statement.{statement}
use Rattle.defines.proofs.writer.put_problem.Tie as tie

abbrev words : tie.Start → List ℕ
words c = c.args.table.now

-- ---- what comes from each place on
abbrev opened : List ℕ
opened = bytes "(define (problem q) (:domain d) (:objects"

abbrev objects : tie.Start → List ℕ
objects c = marked (bytes " o") (up_to (head_in (words c)).objects)

abbrev initials : tie.Start → List ℕ
initials c = items_in (words c) (head_in (words c)).schema_atoms (goals_from (words c))

abbrev goals : tie.Start → List ℕ
goals c = items_in (words c) (goals_from (words c)) (atom_total (words c))

abbrev from-goals : tie.Start → List ℕ
from-goals c = goals c ++ bytes ")))\n"

abbrev from-goal : tie.Start → List ℕ
from-goal c = bytes ") (:goal (and" ++ from-goals c

abbrev from-initials : tie.Start → List ℕ
from-initials c = initials c ++ from-goal c

abbrev from-init : tie.Start → List ℕ
from-init c = bytes ") (:init" ++ from-initials c

-- what is still to come of the problem, in a text and from a place on
abbrev Left : tie.Start → List ℕ → List ℕ → ℕ → Type 0
Left c left text next =
    Going c.args.text.now c.args.at (problem_text (task_of (words c)) ++ (newline ∷ [])) left text next

begin : (c : tie.Start) → Left c (opened ++ (objects c ++ from-init c)) c.args.text.now c.args.at
begin c = going-left (problem-in (words c) c.requires.0) (going_start c.requires.1.1)

-- ---- the objects, which were counted first
put-bytes-requires : tie.Need-put_bytes-at_objects-requires
unfolding bytes
put-bytes-requires c κs =
    let start = c in
    going-room opened (objects start.before.before.before.before.before.before ++ from-init start.before.before.before.before.before.before) (begin start.before.before.before.before.before.before)

abbrev counted : tie.After-slice_known-2-1 → tie.After-word_at-objects
counted c = c.before.before.before.before.before.before

abbrev start : tie.After-slice_known-2-1 → tie.Start
start c = (counted c).before.before.before

behind-opened : (c : tie.After-slice_known-2-1) →
    Left (start c) (objects (start c) ++ from-init (start c))
    c.put_bytes-at_objects.new.text c.put_bytes-at_objects.result
unfolding bytes
behind-opened c = going_on {ys = opened} (begin (start c)) c.put_bytes-at_objects.ensures

objects-read : (c : tie.After-slice_known-2-1) →
    marked (bytes " o") (up_from 0 ((counted c).word_at-objects.result - 0)) ≡ objects (start c)
unfolding up_to
objects-read c =
    let e : (counted c).word_at-objects.result - 0 ≡ (head_in (words (start c))).objects =
    omega (arith, (counted c).word_at-objects.ensures) in
    ap (λ (n : ℕ). marked (bytes " o") (up_from 0 n)) e

put-numbered-requires : tie.Need-put_numbered-at_initial-requires
unfolding bytes
put-numbered-requires c κs =
    let put = c in
    let e = ap length (objects-read put.before.before.before) in
    let r = going-room (objects (start put.before.before.before)) (from-init (start put.before.before.before)) (behind-opened put.before.before.before) in
    omega arith

abbrev named : tie.After-slice_known-3-1 → tie.After-slice_known-2-1
named c = c.before.before.before.before.before.before

behind-objects : (c : tie.After-slice_known-3-1) →
    Left (start (named c)) (from-init (start (named c)))
    c.put_numbered-at_initial.new.text c.put_numbered-at_initial.result
unfolding bytes
behind-objects c =
    going_on (behind-opened (named c)) (puts-same (objects-read (named c)) c.put_numbered-at_initial.ensures)

-- ---- the initial atoms
put-bytes-requires-2 : tie.Need-put_bytes-at_first-requires
unfolding bytes
put-bytes-requires-2 c κs =
    let put = c in
    going-room (bytes ") (:init") (from-initials (start (named put.before.before.before))) (behind-objects put.before.before.before)

abbrev listed : tie.After-slice_known-4-1 → tie.After-slice_known-3-1
listed c = c.before.before.before.before.before.before

abbrev started : tie.After-slice_known-4-1 → tie.Start
started c = start (named (listed c))

behind-init : (c : tie.After-slice_known-4-1) →
    Left (started c) (from-initials (started c))
    c.put_bytes-at_first.new.text c.put_bytes-at_first.result
unfolding bytes
behind-init c = going_on {ys = bytes ") (:init"} (behind-objects (listed c)) c.put_bytes-at_first.ensures

first_run : (c : tie.Start) → RoleRun (words c) 0 initial (head_in (words c)).schema_atoms (goals_from (words c))
first_run c = initial-run (words c) c.requires.0

put-run-requires : tie.Need-put_run-goals-requires
put-run-requires c κs =
    let start = started c.before in (
      start.requires.0,
      run-asked (first_run start) refl start.requires.1.0 _
          (going-room (initials start) (from-goal start) (behind-init c.before)),
    )

abbrev begun : tie.After-slice_known-5-1 → tie.After-slice_known-4-1
begun c = c.before.before.before.before

behind-initials : (c : tie.After-slice_known-5-1) →
    Left (started (begun c)) (from-goal (started (begun c)))
    c.put_run-goals.new.text c.put_run-goals.result.at
behind-initials c =
    let start = started (begun c) in
    going_on (behind-init (begun c))
    (run-puts (first_run start) refl start.requires.1.0 c.put_run-goals.ensures)

goals-found : (c : tie.After-slice_known-5-1) →
    c.put_run-goals.result.to ≡ goals_from (words (started (begun c)))
goals-found c =
    let start = started (begun c) in
    run_ends (first_run start) refl start.requires.1.0 c.put_run-goals.ensures

-- ---- the goal atoms
put-bytes-requires-3 : tie.Need-put_bytes-at_goals-requires
unfolding bytes
put-bytes-requires-3 c κs =
    let put = c in
    going-room (bytes ") (:goal (and") (from-goals (started (begun put.before.before.before))) (behind-initials put.before.before.before)

abbrev half : tie.After-slice_known-6-1 → tie.After-slice_known-5-1
half c = c.before.before.before.before.before.before

abbrev entry : tie.After-slice_known-6-1 → tie.Start
entry c = started (begun (half c))

behind-goal : (c : tie.After-slice_known-6-1) →
    Left (entry c) (from-goals (entry c)) c.put_bytes-at_goals.new.text
    c.put_bytes-at_goals.result
unfolding bytes
behind-goal c =
    going_on {ys = bytes ") (:goal (and"} (behind-initials (half c)) c.put_bytes-at_goals.ensures

second_run : (c : tie.Start) → RoleRun (words c) 0 goal_role (goals_from (words c)) (atom_total (words c))
second_run c = goal-run (words c) c.requires.0

put-run-requires-2 : tie.Need-put_run-end-requires
put-run-requires-2 c κs =
    let start = entry c.before in (
      start.requires.0,
      run-asked (second_run start) refl (goals-found (half c.before)) _
          (going-room (goals start) (bytes ")))\n") (behind-goal c.before)),
    )

abbrev aimed : tie.After-slice_known-7-1 → tie.After-slice_known-6-1
aimed c = c.before.before.before.before

behind-goals : (c : tie.After-slice_known-7-1) →
    Left (entry (aimed c)) (bytes ")))\n")
    c.put_run-end.new.text c.put_run-end.result.at
behind-goals c =
    going_on (behind-goal (aimed c))
    (run-puts (second_run (entry (aimed c))) refl (goals-found (half (aimed c))) c.put_run-end.ensures)

-- ---- the end
put-bytes-requires-4 : tie.Need-put_bytes-requires
unfolding bytes
put-bytes-requires-4 c κs = last-room (behind-goals c.before.before.before)

done : (c : tie.After-slice_known-8-1) →
    let start = entry (aimed c.before.before.before.before.before.before) in
    Puts start.args.text.now start.args.at (problem_text (task_of (words start)) ++ (newline ∷ []))
    c.put_bytes.new.text c.put_bytes.result
unfolding bytes
done c = going-last (behind-goals c.before.before.before.before.before.before) c.put_bytes.ensures

pub put_problem_spec : {M : Type 1} → statement M
put_problem_spec =
    tie.close
    (tie.spec (λ c κs. omega (arith, counts-inside _ c.requires.0)) put-bytes-requires
    put-numbered-requires put-bytes-requires-2 put-run-requires put-bytes-requires-3 put-run-requires-2
    put-bytes-requires-4 (λ c. puts-length (done c)) done)
