-- `blocks::unfolding::split_steps_of` meets its contract. The invariant: the total is the part counts of the steps
-- before i, at most sixteen each. The measure is the steps left.
use Rattle.blocks.proofs.unfolding.split_steps_of.Tie as tie
use Rattle.task.specs.Limits.{step_size}
use Prim.Native.Nat.{◌-◌, ◌*◌, ◌/◌, ◌≤◌}
use mathlib.Core.Path.{◌≡◌, sym, ◌∙◌, ap}
use native.Mathlib.Omega.{arith}
use lib.ListN.{length}
use Rattle.blocks.proofs.KeptLists.{sum-none, sum_more}
use Rattle.blocks.proofs.KeptBlocks.{sum_is, step_kept}
use Rattle.blocks.proofs.unfolding.split_steps_of.Statement.{statement}
use Rattle.tokens.specs.Kept.{kept_count}
use Rattle.blocks.specs.Unfolding.{StepKept, count_from, sum_from}

abbrev invariant-loop-i : tie.invariant-loop-i
invariant-loop-i steps kept count total₀ i₀ total i =
    (i ≤ count) × (total ≡ sum_from steps kept i) × (total ≤ 16 * i)

abbrev decreases-loop-i : tie.decreases-loop-i
decreases-loop-i steps kept count total₀ i₀ total i = count - i

loop-holds : tie.Need-loop-i-init invariant-loop-i decreases-loop-i
loop-holds c =
    let a = c.args in
    (omega arith, sym (sum-none a.steps.now a.kept.now), omega arith)

-- what is known of the step of this turn
turn_step : (c : tie.In-loop-i invariant-loop-i decreases-loop-i) →
    StepKept c.args.steps.now c.args.kept.now
    (step_size * c.loop-i.i)
turn_step c = let (t, k) = c.requires in step_kept k c.loop-i.i c.loop-i-test.true

schema-at-requires : tie.Need-schema_at-requires invariant-loop-i decreases-loop-i
schema-at-requires c κs = let w = (turn_step c).whole in omega arith

count-of-requires : tie.Need-count_of-requires invariant-loop-i decreases-loop-i
count-of-requires c κs = let k = (turn_step c.before).known in let e = c.schema_at.ensures in omega arith

-- the count of this turn
counted : (c : tie.After-count_of invariant-loop-i decreases-loop-i) →
    let a = c.args in
    c.count_of.result ≡ count_from a.steps.now a.kept.now (step_size * c.loop-i.i)
counted c =
    let kept = c.args.kept.now in
    c.count_of.ensures ∙ ap (kept_count kept) c.schema_at.ensures

add_total : tie.Need-overflow_add-total invariant-loop-i decreases-loop-i
add_total c =
    let f = (turn_step c.before.before).few in
    let e = counted c in
    omega arith

loop-again : tie.Need-loop-i-preserved invariant-loop-i decreases-loop-i
loop-again c =
    let a = c.args in
    let h = c.loop-i in
    let f = (turn_step c.before.before).few in
    let e = counted c in
    let m = sum_more a.steps.now a.kept.now h.i in
    (omega arith, omega arith, omega arith)

returns : tie.Need-returns invariant-loop-i decreases-loop-i
returns c = λ t k.
    let h = c.loop-i in
    let a = c.args in
    let e : h.i ≡ length a.steps.now / step_size = omega arith in
    h.invariant.1 ∙ (ap (sum_from a.steps.now a.kept.now) e ∙ sum_is k)

pub split_steps_of_spec : {M : Type 1} → statement M
split_steps_of_spec =
    tie.close
    (tie.spec invariant-loop-i decreases-loop-i loop-holds (λ c. omega arith) schema-at-requires count-of-requires add_total
    (λ c. omega arith) (λ c. omega arith) loop-again returns)
