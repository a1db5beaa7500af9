-- The arms are those of `role_phase`.
use Rattle.std.proofs.Common.{refl, sym}
use Rattle.text.specs.Text.{role_phase}
use Rattle.text.proofs.Dispatch.{deletes}
use Rattle.text.proofs.keys.Key.of_role.Goals as goal

pub returns-then-role-eq-PRECONDITION : goal.returns-then-role-eq-PRECONDITION
unfolding role_phase
returns-then-role-eq-PRECONDITION c = rw c.if-role-eq-PRECONDITION.true refl

pub returns-then-role-eq-ADDITION : goal.returns-then-role-eq-ADDITION
unfolding role_phase
returns-then-role-eq-ADDITION c = rw c.if-role-eq-ADDITION.true refl

pub returns : goal.returns
returns c = sym (deletes c.args.role c.if-role-eq-PRECONDITION.false c.if-role-eq-ADDITION.false)
