use Rattle.std.proofs.Common.{rules, tests}
use Rattle.words.proofs.Chains.{find_or_end}
use Rattle.arcs.proofs.before.first_of.Goals as goal

pub returns : goal.returns
returns c =
    find_or_end _ _ _ c.requires.forward c.unwrap_or.ensures c.find.ensures.ran (λ x q k. search (rules, tests))
