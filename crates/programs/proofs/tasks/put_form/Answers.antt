-- Each form has its own function, which asks for the form's room and prints what is made in that form.
use Rattle.programs.specs.declared.tasks.Form.TheVariants as form
use Rattle.task.specs.Table.{task_of}
use Rattle.programs.specs.Printing.{made, room_for}
use Rattle.programs.proofs.Answered.{same-room, same-made}
use Rattle.programs.proofs.tasks.put_form.Goals as goal

pub put_split-requires-clause-longest_text_in_bounds : goal.put_split-requires-clause-longest_text_in_bounds
unfolding room_for
put_split-requires-clause-longest_text_in_bounds c =
    same-room _ form.Split c.in-Split.is c.requires.form_in_bounds

pub put_pddl-requires-clause-longest_pddl_in_bounds : goal.put_pddl-requires-clause-longest_pddl_in_bounds
unfolding room_for
put_pddl-requires-clause-longest_pddl_in_bounds c =
    same-room _ form.Pddl c.in-Pddl.is c.requires.form_in_bounds

pub put_proposal-requires-clause-longest_text_in_bounds : goal.put_proposal-requires-clause-longest_text_in_bounds
unfolding room_for
put_proposal-requires-clause-longest_text_in_bounds c =
    same-room _ (form.Proposal _) c.in-Proposal.is c.requires.form_in_bounds

pub returns-in-Split : goal.returns-in-Split
unfolding made
returns-in-Split c = same-made _ form.Split c.in-Split.is (task_of c.args.table.now) c.put_split.ensures

pub returns-in-Pddl : goal.returns-in-Pddl
unfolding made
returns-in-Pddl c = same-made _ form.Pddl c.in-Pddl.is (task_of c.args.table.now) c.put_pddl.ensures

pub returns-in-Proposal : goal.returns-in-Proposal
unfolding made
returns-in-Proposal c =
    same-made _ (form.Proposal _) c.in-Proposal.is (task_of c.args.table.now) c.put_proposal.ensures
