use Rattle.std.proofs.Common.{Bool, ◌||◌, ap, ◌∙◌}
use Rattle.words.specs.Lists.{up_to}
use Rattle.words.specs.Sets.{member}
use Rattle.words.proofs.Loops.{set-start, set_more, set-ends}
use Rattle.arcs.proofs.rule.roles_reached.Goals as goal

pub loop-r-init : goal.loop-r-init
unfolding up_to
loop-r-init c = set-start

pub loop-r-preserved : goal.loop-r-preserved
loop-r-preserved c =
    set_more c.loop-r.invariant c.loop-r-test.true
    (λ q. c.union-reached.ensures q ∙ ap (λ (b : Bool). member c.loop-r.reached q || b) (c.roles_after.ensures q))

pub returns : goal.returns
returns c = λ q. set-ends c.loop-r.invariant c.loop-r-test.false q
