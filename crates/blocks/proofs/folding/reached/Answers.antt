use mathlib.Core.Path.{sym, ap}
use Rattle.blocks.specs.FoldCode.{reached_by}
use Rattle.blocks.proofs.folding.reached.Goals as goal

pub returns-in-Ok : goal.returns-in-Ok
unfolding reached_by
returns-in-Ok c = sym (ap (reached_by c.args.count) c.in-Ok.is)

pub returns-in-Err : goal.returns-in-Err
unfolding reached_by
returns-in-Err c = sym (ap (reached_by c.args.count) c.in-Err.is)
