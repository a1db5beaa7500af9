use Rattle.std.proofs.Common.{◌≡◌, ◌-◌, eqb, ◌&&◌}
use Rattle.words.specs.Words.{zeros_at}
use Rattle.words.proofs.runs.zeros.Given as goal

-- the whole test is that the words joined so far are 0, and what is left of it from i on
abbrev pub invariant-loop-i : goal.invariant-loop-i
invariant-loop-i l = zeros_at l.table l.from (l.to - l.from) ≡ eqb l.joined 0 && zeros_at l.table l.i (l.to - l.i)
