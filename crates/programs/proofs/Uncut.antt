-- No accepted task's text is cut: a text that reads as a task is the text of that task, and the longest is shorter than
-- what a program takes. So a program answers of an accepted text as of the whole of it, and accepts none that it cut.
use Prim.Native.Nat.{ℕ, ◌<◌}
use mathlib.Core.Path.{◌≡◌, ◌∙◌, ap}
use mathlib.Core.List.{List}
use native.Mathlib.Omega.{arith}
use lib.ListN.{length, length-take}
use lib.Seq.{take_all}
use Rattle.task.specs.Task.{Task}
use Rattle.text.specs.Reading.{read}
use Rattle.text.specs.Text.{read_text}
use Rattle.text.specs.TableLines.{longest_text}
use Rattle.defines.specs.Pddl.{pddl}
use Rattle.text.proofs.TaskRead.{written_read, read_fits}
use Rattle.text.proofs.LongestText.{text-most}
use Rattle.programs.specs.Programs.{most_bytes, taken, print_reading, split_program, unfold_program, pddl_program}
use Rattle.programs.proofs.Answered.{prints_split}
use Rattle.programs.proofs.PlanUnfolded.{prints_plan}

accepted-short : (bs : List ℕ) (t : Task) → read_text bs ≡ read t → length bs < most_bytes
unfolding most_bytes longest_text
accepted-short bs t accepted =
    let most = text-most t (read_fits bs t accepted) in
    let whole = ap length (written_read bs t accepted) in
    omega arith

-- a text whose first bytes a program accepts has no others
pub taken-whole : (bs : List ℕ) (t : Task) → read_text (taken bs) ≡ read t → taken bs ≡ bs
unfolding taken
taken-whole bs t accepted =
    let short = accepted-short (taken bs) t accepted in
    take_all most_bytes bs (omega (arith, short, length-take most_bytes bs))

module _ (bs : List ℕ) (t : Task) (accepted : read_text bs ≡ read t) where
  pub accepted-uncut : taken bs ≡ bs
  unfolding taken
  accepted-uncut = take_all most_bytes bs (omega (arith, accepted-short bs t accepted))

  taken-read : read_text (taken bs) ≡ read t
  taken-read = ap read_text accepted-uncut ∙ accepted

  -- the program `split` splits the task that the whole text is
  pub accepted-split : split_program bs ≡ prints_split t
  unfolding split_program print_reading
  accepted-split = ap (print_reading prints_split) taken-read

  -- the program `unfold` reads its plan against the task that the whole text is
  pub accepted-unfold : (plan : List ℕ) → unfold_program bs plan ≡ prints_plan plan t
  unfolding unfold_program print_reading
  accepted-unfold plan = ap (print_reading (prints_plan plan)) taken-read

  -- the program `pddl` prints the task that the whole text is
  pub accepted-pddl : pddl_program bs ≡ pddl t
  unfolding pddl_program print_reading
  accepted-pddl = ap (print_reading pddl) taken-read
