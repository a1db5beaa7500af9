-- It prints what is made in its form, for the width that the argument says.
use Rattle.std.proofs.Common.{sym, arith}
use Rattle.text.specs.TableLines.{longest_text}
use Rattle.programs.specs.Printing.{room_for}
use Rattle.programs.proofs.Answered.{propose-is}
use Rattle.programs.proofs.Printed.{prints-same}
use Rattle.programs.proofs.propose_text.Goals as goal

pub put_made-requires : goal.put_made-requires
unfolding room_for longest_text
put_made-requires c = omega arith

pub returns-clause-out_after : goal.returns-clause-out_after
returns-clause-out_after c =
    (prints-same (sym (propose-is _ c.args.text.now c.width_of.ensures)) c.put_made.ensures).bytes

pub returns-clause-value : goal.returns-clause-value
returns-clause-value c =
    (prints-same (sym (propose-is _ c.args.text.now c.width_of.ensures)) c.put_made.ensures).count
