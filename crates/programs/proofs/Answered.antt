-- What the entry points answer, as the programs use it: a text that was read lies as a table, a split that was given
-- too, and a refusal is the one that is printed.
use Rattle.task.specs.declared.Place.TheVariants as place
use Rattle.programs.specs.declared.tasks.Form.TheVariants as form
use Rattle.programs.specs.declared.tasks.Form.{Form}
use Rattle.task.specs.declared.refusals.Refusal.{Refusal}
use Rattle.std.specs.Prelude.{Result, Ok, Err}
use Rattle.std.specs.Result.{result_unwrap_or}
use Prim.Native.Nat.{ℕ, ◌≤◌}
use mathlib.Core.Path.{◌≡◌, refl, sym, ◌∙◌, ap, ap₂, subst}
use mathlib.Core.Bool.{true}
use mathlib.Core.List.{List, []}
use native.Mathlib.Omega.{arith}
use lib.ListN.{length, replicate, length-replicate}
use borrow.Author.Tests.{le-leb}
use Rattle.task.specs.declared.Place.{Place}
use Rattle.words.specs.Lists.{over}
use Rattle.task.specs.Limits.{table_words, table_length}
use Rattle.task.specs.Answers.{place_number, result, refused, told_value, Outcome}
use Rattle.task.specs.Task.{Task}
use Rattle.task.specs.Table.{words_of, task_of, long_enough, is_table}
use Rattle.words.proofs.Puts.{take-over}
use Rattle.task.proofs.LongEnough.{has-table-words}
use Rattle.task.proofs.Tables.{words-length, of-table}
use Rattle.task.proofs.TablesByIndex.{table_of, table-long}
use Rattle.text.specs.Reading.{Reading, read, refused_at}
use Rattle.text.specs.Text.{write, read_text}
use Rattle.text.specs.Outcomes.{read_done, read_outcome, write_outcome, write_answer_told}
use Rattle.text.specs.TableLines.{longest_text}
use Rattle.text.proofs.Outcomes.{read_result, result-read, write-result, written_over}
use Rattle.text.proofs.TaskRead.{read_fits}
use Rattle.text.proofs.ReadLoop.{long-outcome}
use Rattle.text.proofs.LongestText.{text-most}
use Rattle.defines.specs.Pddl.{pddl}
use Rattle.defines.specs.Outcome.{pddl_outcome}
use Rattle.defines.specs.ByWords.{longest_pddl}
use Rattle.defines.proofs.PddlOutcome.{pddl-written}
use Rattle.defines.proofs.Longest.{table-most}
use Rattle.tokens.specs.Split.{Splitting, circular, parted, too_large, split_as, split, split_outcome}
use Rattle.tokens.proofs.SplitOutcome.{refused-nine, refused-twenty, refused-ten, split-refused as outcome-refused}
use Rattle.tokens.proofs.SplitOutcome.{split_done}
use Rattle.programs.specs.Programs.{taken, refusal, print_reading, print_splitting, split_program, pddl_program}
use Rattle.programs.specs.Programs.{width_in, propose_program}
use Rattle.task.proofs.Answers.{told-by, left_by}
use Rattle.programs.specs.Printing.{Prints, made, room_for}
use Rattle.programs.proofs.Printed.{prints-same}

-- ---- words of zeros, as a function has them before they are written
pub zeros-long : (n : ℕ) → n ≤ length {A = ℕ} (replicate n 0)
zeros-long n = let e = length-replicate {A = ℕ} n 0 in omega arith

pub table-zeros : table_words ≤ length {A = ℕ} (replicate table_length 0)
table-zeros = has-table-words (replicate table_length 0) (zeros-long table_length)

-- ---- reading
-- words that are the table of the task that a text reads as
pub record TableRead (text words : List ℕ) : Type 0 where
  pub is-table : is_table words ≡ true
  pub reads : read_text text ≡ read (task_of words)

pub table-read : (text table : List ℕ) {words : List ℕ} → result [] ≡ (read_outcome text table).told →
    words ≡ (read_outcome text table).buffer → TableRead text words
table-read text table told e =
    let r = result-read text table [] (sym told) in
    let t = r.task in
    let fits = read_fits text t r.was_read in
    let w = over (words_of t) table in
    let lies : (read_outcome text table).buffer ≡ w =
    left_by (read_result text table t r.long r.was_read) in
    let (is-table, same) = table_of w t fits (take-over (words_of t) table table_words (words-length t fits)) in
    subst (TableRead text) (sym (e ∙ lies)) (record { is-table = is-table; reads = r.was_read ∙ ap read (sym same) })

-- a refusal is printed with its line
pub read-refused : (text table : List ℕ) → table_words ≤ length table → {k : ℕ} {at : Place} →
    refused k at [] ≡ (read_outcome text table).told → (uses : Task → List ℕ) →
    refusal k (place_number at) ≡ print_reading uses (read_text text)
unfolding read_done print_reading
read-refused text table long {k} {at} h uses =
    go (read_text text) (h ∙ told-by (long-outcome text table long))
  where
    go : (r : Reading Task) → refused k at [] ≡ (read_done table r).told →
        refusal k (place_number at) ≡ print_reading uses r
    go (read t) e = absurd (let z : ◌≡◌ {A = ℕ} 0 1 = cc in omega arith)
    go (refused_at n l) e =
        let number : k ≡ n = cc in
        let line : at ≡ place.Line l = cc in
        ap₂ refusal number (ap place_number line)

-- ---- a program that reads a task: it prints what it makes of the task, or the refusal
module _ (uses : Task → List ℕ) {program : List ℕ} (text : List ℕ) (is : program ≡ print_reading uses (read_text text))
    {lent after : List ℕ} {n : ℕ} where
  pub task-printed : {words : List ℕ} → TableRead text words → Prints lent (uses (task_of words)) after n →
      Prints lent program after n
  unfolding print_reading
  task-printed r p = prints-same (sym (is ∙ ap (print_reading uses) r.reads)) p

  pub refusal-printed : (table : List ℕ) → table_words ≤ length table → {k : ℕ} {at : Place} →
      refused k at [] ≡ (read_outcome text table).told → Prints lent (refusal k (place_number at)) after n →
      Prints lent program after n
  refusal-printed table long told p = prints-same (read-refused text table long told uses ∙ sym is) p

-- ---- splitting
-- a split that is given is printed
pub split-printed : (prints : Task → List ℕ) (t : Task) {t' : Task} → split t ≡ split_as t' →
    prints t' ≡ print_splitting prints (split t)
unfolding print_splitting
split-printed prints t e = sym (ap (print_splitting prints) e)

-- a refusal is printed with its schema, or none
pub split-refused : (table out : List ℕ) → is_table table ≡ true → table_words ≤ length out →
    {k : ℕ} {at : Place} → refused k at [] ≡ (split_outcome table out).told → (prints : Task → List ℕ) →
    refusal k (place_number at) ≡ print_splitting prints (split (task_of table))
unfolding print_splitting long_enough
split-refused table out is-table out-long {k} {at} h prints = go (split (task_of table)) refl
  where
    long : long_enough table ≡ true
    long = le-leb table_words (length table) (table-long table is-table)

    room : long_enough out ≡ true
    room = le-leb table_words (length out) out-long

    told : {o : Outcome (List ℕ)} → split_outcome table out ≡ o → refused k at [] ≡ o.told
    told e = h ∙ told-by e

    go : (r : Splitting) → split (task_of table) ≡ r →
        refusal k (place_number at) ≡ print_splitting prints (split (task_of table))
    go (circular s) e =
        let nine = told (outcome-refused table out room (refused-nine table long is-table e)) in
        let number : k ≡ 9 = cc in
        let schema : at ≡ place.Schema s = cc in
        ap₂ refusal number (ap place_number schema) ∙ sym (ap (print_splitting prints) e)
    go (parted s) e =
        let twenty = told (outcome-refused table out room (refused-twenty table long is-table e)) in
        let number : k ≡ 20 = cc in
        let schema : at ≡ place.Schema s = cc in
        ap₂ refusal number (ap place_number schema) ∙ sym (ap (print_splitting prints) e)
    go too_large e =
        let ten = told (outcome-refused table out room (refused-ten table long is-table e)) in
        let number : k ≡ 10 = cc in
        let nowhere : at ≡ place.Nowhere = cc in
        ap₂ refusal number (ap place_number nowhere) ∙ sym (ap (print_splitting prints) e)
    go (split_as t) e =
        let done = told (split_done table out room long is-table e) in
        absurd (let z : ◌≡◌ {A = ℕ} 0 1 = cc in omega arith)

-- ---- writing
-- where the bytes lent hold every text, what is written is the task's
pub task-written : (table out : List ℕ) → is_table table ≡ true → longest_text ≤ length out →
    write_outcome table out ≡ written_over (write (task_of table)) out
unfolding long_enough
task-written table out is-table room =
    write-result table out (le-leb table_words (length table) (table-long table is-table)) is-table
    (let most = text-most (task_of table) (of-table table is-table).0 in
    le-leb (length (write (task_of table))) (length out) (omega arith))

-- the same of the PDDL text
pub pddl-whole : (table out : List ℕ) → is_table table ≡ true → longest_pddl ≤ length out →
    pddl_outcome table out ≡ written_over (pddl (task_of table)) out
pddl-whole table out is-table room =
    pddl-written table out is-table
    (let most = table-most table is-table in le-leb (length (pddl (task_of table))) (length out) (omega arith))

-- what is written so is printed, as many bytes as the answer carries
pub written-printed : (text lent : List ℕ) (r : Result ℕ Refusal) {o : Outcome (List ℕ)} {after : List ℕ} {n : ℕ} →
    write_answer_told r ≡ o.told → after ≡ o.buffer → o ≡ written_over text lent → n ≡ result_unwrap_or r 0 →
    Prints lent text after n
written-printed text lent r told left is e =
    record { bytes = left ∙ left_by is; count = e ∙ (carried r ∙ ap (told_value 0) (told ∙ told-by is)) }
  where
    carried : (r : Result ℕ Refusal) → result_unwrap_or r 0 ≡ told_value 0 (write_answer_told r)
    carried (Ok size) = refl
    carried (Err why) = refl

-- ---- the programs that read one task
pub same-room : {n : ℕ} (f g : Form) → f ≡ g → room_for f ≤ n → room_for g ≤ n
same-room {n} f g e room = subst (λ (f : Form). room_for f ≤ n) e room

pub same-made : (f g : Form) → f ≡ g → (t : Task) {lent after : List ℕ} {n : ℕ} →
    Prints lent (made g t) after n → Prints lent (made f t) after n
same-made f g e t p = prints-same (ap (λ (f : Form). made f t) (sym e)) p

-- what holds all that is made of tasks holds a refusal's line
pub refusal-fits : {n : ℕ} (f : Form) → room_for f ≤ n → longest_text ≤ n
unfolding room_for
refusal-fits form.Split room = room
refusal-fits form.Pddl room = omega arith
refusal-fits (form.Proposal width) room = room

-- the program `split`
abbrev pub prints_split : Task → List ℕ
prints_split t = print_splitting write (split t)

pub split-is : (text : List ℕ) → split_program text ≡ print_reading (made form.Split) (read_text (taken text))
unfolding split_program made
split-is text = refl

-- the program `pddl`
pub pddl-is : (text : List ℕ) → pddl_program text ≡ print_reading (made form.Pddl) (read_text (taken text))
unfolding pddl_program made
pddl-is text = refl

-- the program `propose`, of a width that its argument says
pub propose-is : (argument text : List ℕ) {width : ℕ} → width ≡ width_in argument →
    propose_program argument text ≡ print_reading (made (form.Proposal width)) (read_text (taken text))
unfolding propose_program made
propose-is argument text e =
    ap (λ (width : ℕ). print_reading (made (form.Proposal width)) (read_text (taken text))) (sym e)
