-- `defines::actions::put_action` meets its contract: the head, the run of preconditions, the pairs, the runs of adds
-- and deletes, and the fixed bytes around them are put one behind another (`action-in`). A lemma for each says what is
-- still to come behind it. Each run begins where the one before it ended.
use native.Mathlib.Omega.{arith}
use Prim.Native.Nat.{ℕ, suc, ◌<◌}
use mathlib.Core.Path.{◌≡◌, sym, ◌∙◌, ap, ap₂}
use mathlib.Core.Bool.{true}
use mathlib.Core.List.{List, ◌++◌}
use lib.ListN.{length}
use Rattle.words.proofs.Puts.{puts-same, puts-length, Going, going_start, going-left, going-room, going_on, last-room}
use Rattle.words.proofs.Puts.{going-last}
use Rattle.task.specs.Layout.{head_in, params_in}
use Rattle.task.specs.Task.{precondition, addition, deletion}
use Rattle.task.specs.Table.{task_of, is_table}
use Rattle.task.specs.Turns.{first_atom, first_pair}
use Rattle.text.specs.Lines.{bytes}
use Rattle.defines.specs.ByWords.{items_in, pairs_in, RoleRun, head_text, action_in}
use Rattle.defines.proofs.RoleRuns.{adds_from, deletes_from, precondition-run, add-run, delete-run, action-in}
use Rattle.defines.proofs.RunsPut.{run-asked, run_ends, run-puts}
use Rattle.defines.proofs.Frames.{count-inside, head_read}
use borrow.Author.Rules.{rules}
use Rattle.defines.proofs.actions.put_action.Statement.{statement}
use Rattle.defines.proofs.actions.put_action.Tie as tie

abbrev words : tie.Start → List ℕ
words c = c.args.table.now

abbrev table : (c : tie.Start) → is_table (words c) ≡ true
table c = c.requires.0

abbrev known : (c : tie.Start) → c.args.schema < (head_in (words c)).schemas
known c = c.requires.1.0

-- ---- the runs of atoms, and their texts
abbrev to-first : tie.Start → ℕ
to-first c = first_atom (task_of (words c)) c.args.schema

abbrev to-adds : tie.Start → ℕ
to-adds c = adds_from (words c) c.args.schema

abbrev to-deletes : tie.Start → ℕ
to-deletes c = deletes_from (words c) c.args.schema

abbrev to_end : tie.Start → ℕ
to_end c = first_atom (task_of (words c)) (suc c.args.schema)

first_run : (c : tie.Start) → RoleRun (words c) c.args.schema precondition (to-first c) (to-adds c)
first_run c = precondition-run (words c) (table c) c.args.schema (known c)

second_run : (c : tie.Start) → RoleRun (words c) c.args.schema addition (to-adds c) (to-deletes c)
second_run c = add-run (words c) (table c) c.args.schema (known c)

third-run : (c : tie.Start) → RoleRun (words c) c.args.schema deletion (to-deletes c) (to_end c)
third-run c = delete-run (words c) (table c) c.args.schema (known c)

abbrev preconditions : tie.Start → List ℕ
preconditions c = items_in (words c) (to-first c) (to-adds c)

abbrev adds : tie.Start → List ℕ
adds c = items_in (words c) (to-adds c) (to-deletes c)

abbrev deletes : tie.Start → List ℕ
deletes c = items_in (words c) (to-deletes c) (to_end c)

abbrev pairs : tie.Start → List ℕ
pairs c =
    let t = task_of (words c) in
    pairs_in (words c) (first_pair t c.args.schema) (first_pair t (suc c.args.schema))

-- ---- what comes from each place on
abbrev from-deletes : tie.Start → List ℕ
from-deletes c = deletes c ++ bytes "))"

abbrev from-adds : tie.Start → List ℕ
from-adds c = adds c ++ from-deletes c

abbrev from-effect : tie.Start → List ℕ
from-effect c = bytes ") :effect (and" ++ from-adds c

abbrev from-preconditions : tie.Start → List ℕ
from-preconditions c = preconditions c ++ (pairs c ++ from-effect c)

abbrev head : tie.Start → List ℕ
head c = head_text c.args.schema (params_in (words c) c.args.schema)

-- what is still to come of the action, in a text and from a place on
abbrev Left : tie.Start → List ℕ → List ℕ → ℕ → Type 0
Left c left text next = Going c.args.text.now c.args.at (action_in (words c) c.args.schema) left text next

begin : (c : tie.Start) → Left c (head c ++ from-preconditions c) c.args.text.now c.args.at
begin c = going-left (action-in (words c) (table c) c.args.schema (known c)) (going_start c.requires.1.1.1.1)

-- ---- the head, by the parameter count that was read
params-of-requires : tie.Need-params_of-params-requires
params-of-requires c κs =
    let start = c in
    count-inside (words start.before.before.before) c.wide-number.ensures (table start.before.before.before) (known start.before.before.before)

abbrev entry : tie.After-params_of-params → tie.Start
entry c = c.before.before.before.before

head-said : (c : tie.After-params_of-params) → head_text (entry c).args.schema c.params_of-params.result ≡ head (entry c)
head-said c = head_read (words (entry c)) c.wide-number.ensures c.params_of-params.ensures.0

put-head-requires : tie.Need-put_head-at_preconditions-requires
put-head-requires c κs =
    let start = entry c.before in
    let e = ap length (head-said c.before) in
    let r = going-room (head start) (from-preconditions start) (begin start) in
    omega arith

abbrev read : tie.After-slice_known-2-1 → tie.After-params_of-params
read c = c.before.before.before.before

abbrev start : tie.After-slice_known-2-1 → tie.Start
start c = entry (read c)

abbrev number : (c : tie.After-slice_known-2-1) → (read c).wide-number.result ≡ (start c).args.schema
number c = (read c).wide-number.ensures

behind-head : (c : tie.After-slice_known-2-1) →
    Left (start c) (from-preconditions (start c)) c.put_head-at_preconditions.new.text
    c.put_head-at_preconditions.result
behind-head c = going_on (begin (start c)) (puts-same (head-said (read c)) c.put_head-at_preconditions.ensures)

-- ---- the preconditions
put-run-requires : tie.Need-put_run-adds-requires
put-run-requires c κs =
    let start = start c.before in (
      table start,
      run-asked (first_run start) (number c.before) start.requires.1.1.0 _
          (going-room (preconditions start) (pairs start ++ from-effect start) (behind-head c.before)),
    )

abbrev headed : tie.After-slice_known-3-1 → tie.After-slice_known-2-1
headed c = c.before.before.before.before

behind-preconditions : (c : tie.After-slice_known-3-1) →
    Left (start (headed c)) (pairs (start (headed c)) ++ from-effect (start (headed c)))
    c.put_run-adds.new.text c.put_run-adds.result.at
behind-preconditions c =
    let start = start (headed c) in
    going_on (behind-head (headed c))
    (run-puts (first_run start) (number (headed c)) start.requires.1.1.0 c.put_run-adds.ensures)

adds-found : (c : tie.After-slice_known-3-1) → c.put_run-adds.result.to ≡ to-adds (start (headed c))
adds-found c =
    let start = start (headed c) in
    run_ends (first_run start) (number (headed c)) start.requires.1.1.0 c.put_run-adds.ensures

-- ---- the pairs, by the schema as code holds it and by the place that was handed over
pairs-said : (c : tie.After-slice_known-3-1) →
    let start = start (headed c) in
    pairs_in (words start) start.args.pair
    (first_pair (task_of (words start)) (suc (read (headed c)).before.wide-number.result)) ≡ pairs start
pairs-said c =
    let start = start (headed c) in
    let t = task_of (words start) in
    ap₂ (λ (i s : ℕ). pairs_in (words start) i (first_pair t (suc s))) start.requires.1.1.1.0 (number (headed c))

put-pairs-requires : tie.Need-put_pairs-apart-requires
put-pairs-requires c κs =
    let start = start (headed c.before) in
    let schema = number (headed c.before) in
    let known = known start in
    let e = ap length (pairs-said c.before) in
    let r = going-room (pairs start) (from-effect start) (behind-preconditions c.before) in (
      table start,
      (
        omega arith,
        (
          start.requires.1.1.1.0 ∙ ap (first_pair (task_of (words start))) (sym schema),
          omega arith,
        ),
      ),
    )

abbrev required : tie.After-slice_known-4-1 → tie.After-slice_known-3-1
required c = c.before.before.before.before

behind-pairs : (c : tie.After-slice_known-4-1) →
    Left (start (headed (required c))) (from-effect (start (headed (required c))))
    c.put_pairs-apart.new.text c.put_pairs-apart.result.at
behind-pairs c =
    going_on (behind-preconditions (required c))
    (puts-same (pairs-said (required c)) c.put_pairs-apart.ensures.1)

put-bytes-requires : tie.Need-put_bytes-at_effects-requires
unfolding bytes
put-bytes-requires c κs =
    going-room (bytes ") :effect (and") (from-adds (start (headed (required c.before.before.before))))
    (behind-pairs c.before.before.before)

abbrev paired : tie.After-slice_known-5-1 → tie.After-slice_known-4-1
paired c = c.before.before.before.before.before.before

abbrev told : tie.After-slice_known-5-1 → tie.After-slice_known-3-1
told c = required (paired c)

abbrev started : tie.After-slice_known-5-1 → tie.Start
started c = start (headed (told c))

behind-effect : (c : tie.After-slice_known-5-1) →
    Left (started c) (from-adds (started c)) c.put_bytes-at_effects.new.text
    c.put_bytes-at_effects.result
unfolding bytes
behind-effect c =
    going_on {ys = bytes ") :effect (and"} (behind-pairs (paired c)) c.put_bytes-at_effects.ensures

-- ---- the adds
put-run-requires-2 : tie.Need-put_run-deletes-requires
put-run-requires-2 c κs =
    let start = started c.before in (
      table start,
      run-asked (second_run start) (number (headed (told c.before))) (adds-found (told c.before)) _
          (going-room (adds start) (from-deletes start) (behind-effect c.before)),
    )

abbrev opened : tie.After-slice_known-6-1 → tie.After-slice_known-5-1
opened c = c.before.before.before.before

behind-adds : (c : tie.After-slice_known-6-1) →
    Left (started (opened c)) (from-deletes (started (opened c))) c.put_run-deletes.new.text
    c.put_run-deletes.result.at
behind-adds c =
    going_on (behind-effect (opened c))
    (run-puts (second_run (started (opened c))) (number (headed (told (opened c))))
    (adds-found (told (opened c))) c.put_run-deletes.ensures)

deletes-found : (c : tie.After-slice_known-6-1) →
    c.put_run-deletes.result.to ≡ to-deletes (started (opened c))
deletes-found c =
    run_ends (second_run (started (opened c))) (number (headed (told (opened c))))
    (adds-found (told (opened c))) c.put_run-deletes.ensures

-- ---- the deletes
put-run-requires-3 : tie.Need-put_run-end-requires
put-run-requires-3 c κs =
    let start = started (opened c.before) in (
      table start,
      run-asked (third-run start) (number (headed (told (opened c.before)))) (deletes-found c.before) _
          (going-room (deletes start) (bytes "))") (behind-adds c.before)),
    )

abbrev added : tie.After-slice_known-7-1 → tie.After-slice_known-6-1
added c = c.before.before.before.before

behind-deletes : (c : tie.After-slice_known-7-1) →
    Left (started (opened (added c))) (bytes "))") c.put_run-end.new.text
    c.put_run-end.result.at
behind-deletes c =
    let opened = opened (added c) in
    going_on (behind-adds (added c))
    (run-puts (third-run (started opened)) (number (headed (told opened))) (deletes-found (added c))
    c.put_run-end.ensures)

put-bytes-requires-2 : tie.Need-put_bytes-behind-requires
unfolding bytes
put-bytes-requires-2 c κs = last-room (behind-deletes c.before.before.before)

same_length : tie.Need-shape_of-text
unfolding bytes
same_length c =
    puts-length (going-last (behind-deletes c.before.before.before.before.before.before)
    c.put_bytes-behind.ensures)

returns : tie.Need-returns
unfolding bytes
returns c =
    let ended = c in
    let opened = opened (added ended.before.before.before.before.before.before) in
    let schema = number (headed (told opened)) in
    let t = task_of (words (started opened)) in (
      run_ends (third-run (started opened)) schema (deletes-found (added ended.before.before.before.before.before.before))
          ended.put_run-end.ensures,
      (
        (paired opened).put_pairs-apart.ensures.0 ∙ ap (λ (s : ℕ). first_pair t (suc s)) schema,
        going-last (behind-deletes ended.before.before.before.before.before.before) c.put_bytes-behind.ensures,
      ),
    )

pub put_action_spec : {M : Type 1} → statement M
put_action_spec =
    tie.close
    (tie.spec (λ c κs. search rules) params-of-requires (λ c. search rules) put-head-requires put-run-requires
    put-pairs-requires put-bytes-requires put-run-requires-2 put-run-requires-3 put-bytes-requires-2 same_length
    returns)
