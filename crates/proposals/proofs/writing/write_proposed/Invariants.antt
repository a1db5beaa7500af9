-- `proposals::writing::write_proposed`: the parts of the first i schema atoms are written, and all other words are as
-- copied.
use Rattle.proposals.proofs.FreshParts.{Fresh}
use Rattle.proposals.proofs.writing.write_proposed.Given as goal

abbrev pub invariant-loop-i : goal.invariant-loop-i
invariant-loop-i l = Fresh l.table l.parts l.initial.proposed l.i l.proposed
