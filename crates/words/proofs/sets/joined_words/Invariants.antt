use Rattle.std.proofs.Common.{◌-◌, ◌||◌, get_or, eqb}
use Rattle.words.specs.Lists.{any}
use Rattle.words.specs.Words.{words_at}
use Rattle.words.specs.Sets.{member}
use Rattle.words.proofs.Loops.{SetLeft}
use Rattle.words.proofs.sets.joined_words.Given as goal

-- the set asked for is the set so far with the words left
abbrev pub invariant-loop-i : goal.invariant-loop-i
invariant-loop-i l = SetLeft (λ x k. eqb x (get_or l.table k 0)) l.to
    (λ x. member l.mask x || any (λ y. eqb x y) (words_at l.table l.from (l.to - l.from))) l.set l.i
