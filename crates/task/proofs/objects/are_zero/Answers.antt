use Rattle.std.proofs.Common.{eqb, arith, rules, tests}
use Rattle.words.proofs.Chains.{all_yielded, slice_yields}
use Rattle.task.proofs.objects.are_zero.Goals as goal

pub returns : goal.returns
returns c =
    let stretch = slice_yields c.args.words.now c.args.from c.args.n (omega arith) (omega arith) c.iter.ensures.rest in
    all_yielded (λ a. eqb a 0) stretch c.all.ensures.ran (λ x b q k. search (rules, tests))
