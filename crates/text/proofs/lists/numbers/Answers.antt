-- A turn reads one number and goes on behind a comma.
use Rattle.text.proofs.ListLoop.{list-begins, no_number, list-ends, list-goes-on}
use Rattle.text.proofs.lists.numbers.Goals as goal

pub loop-n-init : goal.loop-n-init
loop-n-init c = list-begins _ _ _ c.requires

pub returns-in_err-n : goal.returns-in_err-n
returns-in_err-n c = rw c.from_residual.ensures (no_number c.loop-n.invariant c.in_err-n.ensures)

pub returns-in_default : goal.returns-in_default
returns-in_default c = rw c.keep.ensures (list-ends c.loop-n.invariant c.in_ok-n.ensures c.in_default.ensures)

pub loop-n-preserved : goal.loop-n-preserved
loop-n-preserved c = rw c.keep.ensures (list-goes-on c.loop-n.invariant c.in_ok-n.ensures c.in-Some.ensures)
