-- What is printed, as the contracts of this crate's inner functions name it.
use Rattle.programs.specs.declared.tasks.Form.TheVariants as form
use Rattle.std.specs.Prelude.{ℕ, ◌≤◌, ◌≡◌, List, length}
use Rattle.std.specs.Prelude.{None}
use Rattle.words.specs.Lists.{over}
use Rattle.task.specs.Task.{Task}
use Rattle.task.specs.Table.{task_of}
use Rattle.task.specs.Run.{steps_in, bad_step}
use Rattle.text.specs.Text.{write}
use Rattle.text.specs.TableLines.{longest_text}
use Rattle.text.specs.Plan.{plan_words}
use Rattle.defines.specs.Pddl.{pddl}
use Rattle.defines.specs.ByWords.{longest_pddl}
use Rattle.tokens.specs.Split.{split}
use Rattle.blocks.specs.Blocks.{list_words}
use Rattle.programs.specs.Programs.{print_proposal, print_splitting}
use Rattle.programs.specs.declared.tasks.Form.{Form}

-- bytes after a text was printed over their front, and how many were printed
pub record Prints (lent text after : List ℕ) (n : ℕ) : Type 0 where
  pub bytes : after ≡ over text lent
  pub count : n ≡ length text

-- the words of "at most 100" steps that were read, which may have equal objects at a pair
pub record PlanChoices (table steps : List ℕ) : Type 0 where
  pub are : list_words (steps_in (task_of table) steps) ≡ steps
  pub few : length steps ≤ plan_words

-- the words of so many steps of a table's task
pub record PlanSteps (table steps : List ℕ) : Type 0 where
  pub good : bad_step (task_of table) steps ≡ None
  pub few : length steps ≤ plan_words

-- what a program makes of the task that it read, and bytes enough for that
unfoldable pub made : Form → Task → List ℕ
unfolding print_splitting split write pddl print_proposal
made form.Split t = print_splitting write (split t)
made form.Pddl t = pddl t
made (form.Proposal width) t = print_proposal width t

unfoldable pub room_for : Form → ℕ
unfolding longest_text longest_pddl
room_for form.Split = longest_text
room_for form.Pddl = longest_pddl
room_for (form.Proposal width) = longest_text
