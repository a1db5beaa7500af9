use Rattle.std.proofs.Common.{rules, tests}
use Rattle.std.proofs.lemmas.Iterator.{YieldsList-from_slice}
use Rattle.words.proofs.Chains.{all_yielded}
use Rattle.text.proofs.checks.all_below.Goals as goal

pub returns : goal.returns
returns c =
    all_yielded _ (YieldsList-from_slice _ c.iter.ensures.rest) c.all.ensures.ran (λ x b q k. search (rules, tests))
