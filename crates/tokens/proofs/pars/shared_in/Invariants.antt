-- The two sets are of the parameters that more than none and more than one of the first j parts have.
use Rattle.std.proofs.Common.{◌≡◌, ℕ, ltb}
use Rattle.words.specs.Sets.{member}
use Rattle.tokens.proofs.SharedParameters.{passed}
use Rattle.tokens.proofs.pars.shared_in.Given as goal

abbrev pub invariant-loop-j : goal.invariant-loop-j
invariant-loop-j l =
    ((x : ℕ) → member l.seen x ≡ ltb 0 (passed l.fn.kept l.fn.s x l.j)) ×
    ((x : ℕ) → member l.twice x ≡ ltb 1 (passed l.fn.kept l.fn.s x l.j))
