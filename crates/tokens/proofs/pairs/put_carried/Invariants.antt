-- What the part carries of the pairs from i on is still to come.
use Rattle.words.proofs.Puts.{Going}
use Rattle.tokens.specs.Writing.{carried_words}
use Rattle.tokens.proofs.pairs.put_carried.Given as goal

abbrev pub invariant-loop-i : goal.invariant-loop-i
invariant-loop-i l =
    Going l.fn.out l.fn.at (carried_words l.fn.table l.fn.number l.fn.own l.fn.from l.fn.to)
    (carried_words l.fn.table l.fn.number l.fn.own l.i l.fn.to) l.out l.next
