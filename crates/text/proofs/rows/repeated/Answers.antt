use Rattle.std.proofs.Common.{refl, rules}
use borrow.Author.Tests.{tests}
use Rattle.words.proofs.Chains.{any_ran}
use Rattle.words.proofs.Loops.{any-up-to}
use Rattle.text.proofs.rows.repeated.Goals as goal

pub returns : goal.returns
returns c = any_ran (any-up-to refl) c.any.ensures.ran (λ x b q k. search (rules, tests))
