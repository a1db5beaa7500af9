-- Of a split that is accepted the unfolding is printed, or a step that is none; a refusal is the one that is printed.
use Rattle.std.proofs.Common.{List, ℕ, refl}
use Rattle.task.specs.Task.{Task}
use Rattle.task.specs.Table.{task_of}
use Rattle.task.specs.Run.{steps_in}
use Rattle.tokens.proofs.SplitOutcome.{told-accepted, told-refused}
use Rattle.programs.specs.Programs.{print_unfolding}
use Rattle.programs.proofs.Answered.{split-printed}
use Rattle.programs.proofs.Printed.{prints-same}
use Rattle.programs.proofs.PlanUnfolded.{text-room, refused-printed}
use Rattle.programs.proofs.plans.put_unfolding.Goals as goal

-- what is printed where the split is accepted
abbrev prints : List ℕ → List ℕ → Task → List ℕ
prints table steps t' = let t = task_of table in print_unfolding t (steps_in t steps)

pub put_steps-requires-clause-accepted_kept : goal.put_steps-requires-clause-accepted_kept
put_steps-requires-clause-accepted_kept c = told-accepted refl c.in-Ok.ensures

pub put_refusal-requires : goal.put_refusal-requires
put_refusal-requires c = text-room c.requires.longest_plan_in_bounds

pub returns-in-Ok : goal.returns-in-Ok
returns-in-Ok c =
    let w = c.args.table.now in
    let accepted = told-accepted refl c.in-Ok.ensures in
    prints-same (split-printed (prints w c.args.steps.now) (task_of w) accepted.accepted) c.put_steps.ensures

pub returns-in-Err : goal.returns-in-Err
returns-in-Err c =
    let w = c.args.table.now in
    let refused = told-refused w c.keep_accepted.new.kept refl c.in-Err.ensures in
    prints-same (refused-printed w c.requires.table_value refused (prints w c.args.steps.now)) c.put_refusal.ensures
