-- A word more joins by `beyond-joins` or `within-joins`.
use Rattle.std.proofs.Common.{ℕ, ◌+◌, ◌-◌, ◌∙◌, ap, eqb, get_or}
use Rattle.words.proofs.Ranges.{all-joins, all-joined}
use Rattle.task.specs.Limits.{most_parameters}
use Rattle.task.specs.StepTests.{is_within}
use Rattle.task.proofs.StepLimits.{beyond-joins, within-joins}
use Rattle.task.proofs.steps.beyond.Goals.{then-limits-params, else-limits-params}
use Rattle.task.proofs.steps.beyond.Goals as goal

pub loop-k-preserved : goal.loop-k-preserved
loop-k-preserved c =
    let a = c.args in
    let w = get_or a.steps.now (a.at + 1 + c.loop-k.k) 0 in
    let limit = get_or a.limits.now (most_parameters - a.params + c.loop-k.k) 0 in
    let b = c.loop-k.found in
    all-joins (is_within a.steps.now (a.at + 1) a.params a.limits.now) c.loop-k.k a.end (eqb b 0) c.loop-k.invariant
    c.loop-k-test.true (elim c.if-limits-params.branch [
      | then-limits-params x ↦ ap (λ (v : ℕ). eqb v 0) x.found-is ∙ beyond-joins b w limit x.if-limits-params.true
      | else-limits-params x ↦ ap (λ (v : ℕ). eqb v 0) x.found-is ∙ within-joins b w limit x.if-limits-params.false
    ])

pub returns : goal.returns
returns c =
    let a = c.args in
    all-joined (is_within a.steps.now (a.at + 1) a.params a.limits.now) c.loop-k.k a.end (eqb c.loop-k.found 0)
    c.loop-k.invariant c.loop-k-test.false
