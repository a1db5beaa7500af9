use Rattle.std.proofs.Common.{rules, tests, sym}
use Rattle.words.proofs.Chains.{all_ran}
use Rattle.words.proofs.Loops.{all-up-to}
use Rattle.text.specs.ReadCode.{no_gap_in}
use Rattle.text.proofs.WordTests.{has-number}
use Rattle.text.proofs.checks.without_gap.Goals as goal

pub returns : goal.returns
unfolding no_gap_in
returns c =
    all_ran (all-up-to (sym c.one_above.ensures)) c.all.ensures.ran (λ x b q k. search (rules, tests, has-number))
