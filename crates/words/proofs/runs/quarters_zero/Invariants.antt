use Rattle.std.proofs.Common.{◌≡◌, ◌-◌, eqb, ◌&&◌}
use Rattle.words.specs.Lists.{all, up_from}
use Rattle.words.proofs.Quarters.{FourZero}
use Rattle.words.proofs.runs.quarters_zero.Given as goal

-- a place is tested in all four quarters
abbrev pub invariant-loop-k : goal.invariant-loop-k
invariant-loop-k l =
    all (FourZero l.table l.from l.second l.third l.fourth) (up_from 0 (l.quarter - 0)) ≡
    eqb l.joined 0 && all (FourZero l.table l.from l.second l.third l.fourth) (up_from l.k (l.quarter - l.k))
