-- At an atom of another role nothing is left to find, since roles rise.
use native.Mathlib.Omega.{arith}
use Rattle.task.specs.WordTests.{stands_again}
use Rattle.words.proofs.Loops.{any-start, any-yes, any-no, any_none, any-ends}
use Rattle.task.proofs.AtomWords.{other-atom}
use Rattle.task.proofs.table.schemas.stands_again.Goals as goal

pub loop-j-init : goal.loop-j-init
unfolding stands_again
loop-j-init c = any-start

pub returns-then-role-own : goal.returns-then-role-own
returns-then-role-own c =
    let w = c.args.table.now in
    let i = c.args.i in
    let j = c.loop-j.j in
    let rise = c.requires.roles_rise in
    any_none c.loop-j.invariant (λ m a b. other-atom w i m (λ e p.
    let up = rise i j (omega arith) (omega arith) c.loop-j-test.true in
    let on = rise j m (omega arith) a b in
    c.if-role-own.true (omega (arith, c.role-own.ensures, c.role.ensures))))

pub returns-then-same_atom : goal.returns-then-same_atom
returns-then-same_atom c = search any-yes

pub loop-j-preserved : goal.loop-j-preserved
loop-j-preserved c = search any-no

pub returns : goal.returns
returns c = search any-ends
