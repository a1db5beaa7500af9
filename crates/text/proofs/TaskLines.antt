-- The lines of a task's text: a line that the fixed order allows is read whatever follows it, and no other.
-- What a line of a key can say is `Says`: by it the proofs go through the keys, and never through impossible pairs.
use Prim.Native.Nat.{ℕ, ◌≤◌, ◌<◌}
use mathlib.Core.Path.{◌≡◌, refl, ap}
use mathlib.Core.Bool.{true}
use mathlib.Core.List.{List, [], ◌∷◌, ◌++◌}
use Rattle.std.specs.Prelude.{Some}
use native.Mathlib.Omega.{arith}
use lib.ListN.{length}
use Rattle.task.specs.Task.{precondition, addition, deletion}
use Rattle.text.specs.Lines.{newline, Entry, line, Taken, taken, numbers, listing}
use Rattle.text.specs.Text.{Key, task, objects, arity, schema, differ, pre, add, del, part, init, goal, end}
use Rattle.text.specs.Text.{key_name, Line, task_line, objects_line, schema_line, end_line, arity_line, differ_line}
use Rattle.text.specs.Text.{part_line, atom_line, init_line, goal_line, key_of, body_of, write_line, read_body, Phase}
use Rattle.text.specs.Text.{at_task, at_objects, at_arity, between, in_differ, in_pre, in_add, in_del, in_init, in_goal}
use Rattle.text.specs.Text.{keys_at, Draft, next_line}
use Rattle.text.proofs.NumberLists.{Small, SmallEntry, numbers-written, listing-written, entry-written}
use Rattle.text.proofs.NumberLists.{numbers-read, listing-read}
use Rattle.text.proofs.Reading.{Exact}
use Rattle.text.proofs.Bodies.{number-ends, BodyRead, line_made, number-line, entry-line, Allows, Bodies}
use Rattle.text.proofs.Bodies.{lines-exact}
use Rattle.text.proofs.KeyedLines.{ended-written, ended-read, apart}

pub data Says : Key → Line → Type 0 where
  says-task : {n : ℕ} → n < 100000 → Says task (task_line n)
  says-objects : {n : ℕ} → n < 100000 → Says objects (objects_line n)
  says-arity : {ns : List ℕ} → Small ns → 1 ≤ length ns → Says arity (arity_line ns)
  says-schema : {n : ℕ} → n < 100000 → Says schema (schema_line n)
  says-differ : {ns : List ℕ} → Small ns → 1 ≤ length ns → Says differ (differ_line ns)
  says-pre : {e : Entry} → SmallEntry e → Says pre (atom_line precondition e)
  says-add : {e : Entry} → SmallEntry e → Says add (atom_line addition e)
  says-del : {e : Entry} → SmallEntry e → Says del (atom_line deletion e)
  says-part : {ns : List ℕ} → Small ns → Says part (part_line ns)
  says-init : {e : Entry} → SmallEntry e → Says init (init_line e)
  says-goal : {e : Entry} → SmallEntry e → Says goal (goal_line e)
  says-end : {n : ℕ} → n < 100000 → Says end (end_line n)

pub says-key : {k : Key} {l : Line} → Says k l → key_of l ≡ k
unfolding key_of
says-key (says-task h) = refl
says-key (says-objects h) = refl
says-key (says-arity h s) = refl
says-key (says-schema h) = refl
says-key (says-differ h s) = refl
says-key (says-pre h) = refl
says-key (says-add h) = refl
says-key (says-del h) = refl
says-key (says-part h) = refl
says-key (says-init h) = refl
says-key (says-goal h) = refl
says-key (says-end h) = refl

-- ---- bodies
pub body-written : {k : Key} {l : Line} → Says k l → (r : List ℕ) → read_body k (body_of l ++ (newline ∷ r)) ≡ taken l r
unfolding read_body body_of
body-written (says-task {n = n} h) r = ended-written task_line (number-ends n h r)
body-written (says-objects {n = n} h) r = ended-written objects_line (number-ends n h r)
body-written (says-arity {ns = []} h s) r = absurd (omega arith)
body-written (says-arity {ns = n ∷ ns} h s) r = ended-written arity_line (numbers-written n ns h r)
body-written (says-schema {n = n} h) r = ended-written schema_line (number-ends n h r)
body-written (says-differ {ns = []} h s) r = absurd (omega arith)
body-written (says-differ {ns = n ∷ ns} h s) r = ended-written differ_line (numbers-written n ns h r)
body-written (says-pre {e = e} h) r = ended-written (atom_line precondition) (entry-written e h r)
body-written (says-add {e = e} h) r = ended-written (atom_line addition) (entry-written e h r)
body-written (says-del {e = e} h) r = ended-written (atom_line deletion) (entry-written e h r)
body-written (says-part {ns = ns} h) r = ended-written part_line (listing-written ns h r)
body-written (says-init {e = e} h) r = ended-written init_line (entry-written e h r)
body-written (says-goal {e = e} h) r = ended-written goal_line (entry-written e h r)
body-written (says-end {n = n} h) r = ended-written end_line (number-ends n h r)

pub body-read : (k : Key) (bs : List ℕ) (m : Taken Line) → read_body k bs ≡ Some m → BodyRead body_of Says k bs m
unfolding read_body body_of
body-read task bs m h = number-line body_of Says task bs m task_line (λ n h. says-task h) (λ n. refl) h
body-read objects bs m h = number-line body_of Says objects bs m objects_line (λ n h. says-objects h) (λ n. refl) h
body-read arity bs m h =
    let e = ended-read arity_line (numbers bs) m h in
    let (ns, not-empty) = numbers-read bs e.body e.took in
    line_made body_of Says arity bs m arity_line e (says-arity ns.small not-empty) ns.whole
body-read schema bs m h = number-line body_of Says schema bs m schema_line (λ n h. says-schema h) (λ n. refl) h
body-read differ bs m h =
    let e = ended-read differ_line (numbers bs) m h in
    let (ns, not-empty) = numbers-read bs e.body e.took in
    line_made body_of Says differ bs m differ_line e (says-differ ns.small not-empty) ns.whole
body-read pre bs m h = entry-line body_of Says pre bs m (atom_line precondition) (λ x h. says-pre h) (λ x. refl) h
body-read add bs m h = entry-line body_of Says add bs m (atom_line addition) (λ x h. says-add h) (λ x. refl) h
body-read del bs m h = entry-line body_of Says del bs m (atom_line deletion) (λ x h. says-del h) (λ x. refl) h
body-read part bs m h =
    let e = ended-read part_line (listing bs) m h in
    let ns = listing-read bs e.body e.took in
    line_made body_of Says part bs m part_line e (says-part ns.small) ns.whole
body-read init bs m h = entry-line body_of Says init bs m init_line (λ x h. says-init h) (λ x. refl) h
body-read goal bs m h = entry-line body_of Says goal bs m goal_line (λ x h. says-goal h) (λ x. refl) h
body-read end bs m h = number-line body_of Says end bs m end_line (λ n h. says-end h) (λ n. refl) h

pub task-bodies : Bodies key_name read_body body_of write_line Says
unfolding write_line
task-bodies = record {
  some_byte = λ l. (key_of l, refl);
  line-is = λ k l s. ap (λ (x : Key). line (key_name x) (body_of l)) (says-key s);
  written = λ k l s r. body-written s r;
  was_read = body-read;
}

-- ---- lines
pub keys-apart : (p : Phase) → apart key_name (keys_at p) ≡ true
unfolding apart keys_at key_name
keys-apart at_task = refl
keys-apart at_objects = refl
keys-apart at_arity = refl
keys-apart between = refl
keys-apart in_differ = refl
keys-apart in_pre = refl
keys-apart in_add = refl
keys-apart in_del = refl
keys-apart in_init = refl
keys-apart in_goal = refl

abbrev pub keys_of : Draft → List Key
keys_of d = keys_at d.phase

-- a line of a key that the fixed order allows here
abbrev pub May : Draft → Line → Type 0
May d l = Allows Says keys_of d l

pub task-exact : Exact next_line May write_line
unfolding next_line
task-exact = lines-exact task-bodies keys_of (λ d. keys-apart d.phase)
