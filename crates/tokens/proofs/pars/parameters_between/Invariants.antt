-- The set asked for is the set so far with the parameters at the positions left.
use Rattle.std.proofs.Common.{◌-◌}
use Rattle.words.specs.Lists.{any, up_from}
use Rattle.words.specs.Sets.{member}
use Rattle.words.proofs.Loops.{SetLeft}
use Rattle.tokens.specs.Kept.{kept_own}
use Rattle.tokens.proofs.pars.parameters_between.Given as goal

abbrev pub invariant-loop-j : goal.invariant-loop-j
invariant-loop-j l =
    SetLeft (λ x i. member (kept_own l.fn.kept l.fn.s i) x) l.fn.to
    (λ x. any (λ i. member (kept_own l.fn.kept l.fn.s i) x) (up_from l.fn.from (l.fn.to - l.fn.from))) l.all l.j
