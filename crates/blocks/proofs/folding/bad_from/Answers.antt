use Prim.Native.Nat.{◌+◌, ◌-◌, ◌/◌}
use mathlib.Core.Path.{◌≡◌, ◌∙◌}
use mathlib.Core.Bool.{true, false}
use native.Mathlib.Omega.{arith}
use lib.ListN.{length}
use Rattle.std.proofs.Common.{rules, tests}
use Rattle.std.proofs.lemmas.Iterator.{first_from_Range}
use Rattle.task.specs.Run.{is_step_at}
use Rattle.tokens.specs.Split.{split_task}
use Rattle.blocks.proofs.SplitTests.{first_found}
use Rattle.blocks.proofs.folding.bad_from.Goals as goal

pub returns : goal.returns
returns c = λ t S f g.
    let u = split_task t in
    let w = c.args.steps.now in
    let same : c.map.result ≡ c.find.result = search rules in
    same ∙
    first_found u w c.args.from ((length w + 13 - 1) / 13) c.find.result (omega arith) g
    (first_from_Range _ _ _ c.find.result (λ i. is_step_at u w i ≡ false) (λ i. is_step_at u w i ≡ true)
    c.find.ensures.ran (λ x q k. search (rules, tests)) (λ x q k. search (rules, tests)))
