-- It prints what is made in its form.
use Rattle.std.proofs.Common.{sym, arith}
use Rattle.defines.specs.ByWords.{longest_pddl}
use Rattle.programs.specs.Printing.{room_for}
use Rattle.programs.proofs.Answered.{pddl-is}
use Rattle.programs.proofs.Printed.{prints-same}
use Rattle.programs.proofs.pddl_text.Goals as goal

pub put_made-requires : goal.put_made-requires
unfolding room_for longest_pddl
put_made-requires c = omega arith

pub returns-clause-out_after : goal.returns-clause-out_after
returns-clause-out_after c = (prints-same (sym (pddl-is c.args.text.now)) c.put_made.ensures).bytes

pub returns-clause-value : goal.returns-clause-value
returns-clause-value c = (prints-same (sym (pddl-is c.args.text.now)) c.put_made.ensures).count
