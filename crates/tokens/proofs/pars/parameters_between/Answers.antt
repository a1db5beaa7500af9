use Rattle.std.proofs.Common.{ℕ, ◌||◌, ap, ◌∙◌}
use Rattle.words.specs.Sets.{member}
use Rattle.words.proofs.Loops.{set-start, set_more, set-ends}
use Rattle.tokens.proofs.pars.parameters_between.Goals as goal

pub loop-j-init : goal.loop-j-init
loop-j-init c = set-start

pub loop-j-preserved : goal.loop-j-preserved
loop-j-preserved c =
    set_more c.loop-j.invariant c.loop-j-test.true
    (λ x. c.union-all.ensures x ∙ ap (λ (v : ℕ). member c.loop-j.all x || member v x) c.own_at.ensures)

pub returns : goal.returns
returns c = set-ends c.loop-j.invariant c.loop-j-test.false
