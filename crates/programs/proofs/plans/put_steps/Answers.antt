-- The first step that is none of the task is refused with its number, and where each is one the blocks are printed.
use Rattle.std.proofs.Common.{sym, ap, ◌∙◌}
use Rattle.task.specs.declared.refusals.Refusal.{Refusal}
use Rattle.task.specs.Answers.{place_number, reason_number}
use Rattle.programs.specs.Programs.{refusal}
use Rattle.programs.proofs.Printed.{prints-same}
use Rattle.programs.proofs.PlanUnfolded.{text-room, bad-printed, good-printed}
use Rattle.programs.proofs.plans.put_steps.Goals as goal

pub put_refusal-requires : goal.put_refusal-requires
put_refusal-requires c = text-room c.requires.longest_plan_in_bounds

pub returns-in-Some : goal.returns-in-Some
returns-in-Some c =
    let line = ap (λ (r : Refusal). refusal (reason_number r.reason) (place_number r.place)) c.at_step.ensures in
    prints-same (line ∙ bad-printed _ _ c.requires.plan_choices (sym c.in-Some.ensures)) c.put_refusal.ensures

pub returns : goal.returns
returns c = prints-same (good-printed _ _ c.requires.plan_choices (sym c.in_default.ensures)) c.put_blocks.ensures
