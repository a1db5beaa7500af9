-- 'Text form', the two programs as functions of their input bytes; and the programs of document 02's notes 1 and 5.
use Rattle.std.specs.Prelude.{ℕ, suc, cond, List, [], ◌∷◌, take, leb}
use Rattle.std.specs.Prelude.{Option, None, Some}
use Rattle.task.specs.Task.{Task}
use Rattle.task.specs.Run.{Step, bad_step}
use Rattle.tokens.specs.Split.{Splitting, circular, parted, too_large, split_as, split}
use Rattle.blocks.specs.Blocks.{list_words, unfold_steps}
use Rattle.text.specs.Lines.{entry_bytes, line, Taken, number}
use Rattle.text.specs.Reading.{Reading, read, refused_at}
use Rattle.text.specs.Text.{write, read_text}
use Rattle.text.specs.Plan.{read_plan, write_plan}
use Rattle.defines.specs.Pddl.{pddl}
use Rattle.proposals.specs.Proposal.{proposed_task, too_many}
use Rattle.proposals.specs.Outcome.{most_width}

-- "A program takes the first 65,536 bytes of an input": shut, since a list function would count a numeral down
unfoldable pub most_bytes : ℕ
most_bytes = 65536

unfoldable pub taken : List ℕ → List ℕ
unfolding most_bytes
taken input = take most_bytes input

-- "`refused=` number, colon, place"
unfoldable pub refusal : ℕ → ℕ → List ℕ
unfolding line entry_bytes
refusal number place = line "refused" (entry_bytes (record { head = number; list = place ∷ [] }))

-- what splitting gives is printed, or its refusal: 9 and 20 with the schema, 10 with none
unfoldable pub print_splitting : (Task → List ℕ) → Splitting → List ℕ
unfolding refusal
print_splitting prints (circular s) = refusal 9 s
print_splitting prints (parted s) = refusal 20 s
print_splitting prints too_large = refusal 10 0
print_splitting prints (split_as t) = prints t

-- "A step with equal objects there isn't a step of the task (12)": the first such step is refused with its number
unfoldable pub print_unless_bad : Option ℕ → List ℕ → List ℕ
unfolding refusal
print_unless_bad (Some i) text = refusal 12 i
print_unless_bad None text = text

unfoldable pub print_unfolding : Task → List Step → List ℕ
unfolding print_unless_bad bad_step list_words write_plan unfold_steps
print_unfolding t steps = print_unless_bad (bad_step t (list_words steps)) (write_plan (unfold_steps t steps))

-- what is read is used, or its refusal printed with the line
unfoldable pub print_reading : {R : Type 0} → (R → List ℕ) → Reading R → List ℕ
unfolding refusal
print_reading uses (read r) = uses r
print_reading uses (refused_at number place) = refusal number place

-- "The program `split` prints the split of the task on standard input, or `refused=` number, colon, place"
unfoldable pub split_program : List ℕ → List ℕ
unfolding print_reading read_text taken print_splitting split write
split_program input = print_reading (λ t. print_splitting write (split t)) (read_text (taken input))

-- "A second program reads the files `task` and `plan` .. and prints the unfolding so";
-- "`task` is read first, unfolding comes last", and unfolding first refuses "as splitting would";
-- "a missing file counts as empty"
unfoldable pub unfold_program : List ℕ → List ℕ → List ℕ
unfolding print_reading read_text read_plan taken print_splitting split print_unfolding
unfold_program task plan =
    print_reading
    (λ t. print_reading
    (λ steps. print_splitting (λ t'. print_unfolding t steps) (split t))
    (read_plan t (taken plan)))
    (read_text (taken task))

-- the program `pddl` takes its standard input as `split` does, and prints the task as planners that read PDDL take it
unfoldable pub pddl_program : List ℕ → List ℕ
unfolding print_reading read_text taken pddl
pddl_program input = print_reading pddl (read_text (taken input))

-- ---- the program of note 5
-- the width that an argument says, which is one number and nothing else; "a missing or strange argument" is too wide
unfoldable pub only_number : ℕ → List ℕ → ℕ
only_number n [] = n
only_number n (b ∷ bs) = suc most_width

unfoldable pub width_said : Option (Taken ℕ) → ℕ
unfolding only_number
width_said None = suc most_width
width_said (Some l) = only_number l.value l.rest

unfoldable pub width_in : List ℕ → ℕ
unfolding width_said number
width_in argument = width_said (number argument)

-- "23 when a schema ends with more than 16 parts, with the first such schema"; else the task proposed is printed
unfoldable pub print_settled : Option ℕ → Task → List ℕ
unfolding refusal write
print_settled (Some s) t = refusal 23 s
print_settled None t = write t

-- "22 .. for a width above 12"
unfoldable pub print_proposal : ℕ → Task → List ℕ
unfolding print_settled too_many proposed_task refusal
print_proposal width t =
    let proposed = proposed_task width t in
    cond (leb width most_width) (print_settled (too_many proposed) proposed) (refusal 22 0)

-- the program `propose` takes its standard input as `split` does, and prints the task with the partitions proposed for
-- the width that its argument says
unfoldable pub propose_program : List ℕ → List ℕ → List ℕ
unfolding print_reading read_text taken print_proposal width_in
propose_program argument input = print_reading (print_proposal (width_in argument)) (read_text (taken input))
