-- `proposals::closing::merged_set` meets its contract: part a is in the joint set where b was in the set, so that the
-- parts of the set that become one are in it once part b closes up.
use borrow.Author.Rules.{rules}
use mathlib.Core.Path.{sym, ◌∙◌}
use mathlib.Core.Logic.{⊎_elim}
use Rattle.proposals.proofs.ClosedArcs.{Joins, joins-with, joins-none, joint-closed}
use Rattle.proposals.proofs.closing.merged_set.Statement.{statement}
use Rattle.proposals.proofs.closing.merged_set.Tie as tie

joint : (c : tie.Joined-has) →
    Joins c.args.a c.args.b c.args.set c.if-has.joint
joint c = ⊎_elim
    (λ h. joins-with _ _ _ _ h.joint-is (sym c.has.ensures ∙ h.if-has.true) h.with-joint.ensures)
    (λ h. joins-none _ _ _ _ h.joint-is (sym c.has.ensures ∙ h.if-has.false)) c.if-has.branch-raw

returns : tie.Need-returns
returns c = joint-closed _ _ _ _ _ c.requires.0 (joint c.before) c.closed_up.ensures

pub merged_set_spec : {M : Type 1} → statement M
merged_set_spec =
    tie.close (tie.spec (λ c κs. search rules) (λ c κs. search rules) (λ c κs. search rules) returns)
