use Rattle.std.proofs.Common.{refl, rules}
use borrow.Author.Tests.{tests}
use Rattle.words.proofs.Chains.{all_ran}
use Rattle.words.proofs.Loops.{all-up-to}
use Rattle.text.proofs.rows.all_named.Goals as goal

pub returns : goal.returns
returns c = all_ran (all-up-to refl) c.all.ensures.ran (λ x b q k. search (rules, tests))
