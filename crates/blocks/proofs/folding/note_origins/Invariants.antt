-- The parameters of the parts from position j on are noted.
use Rattle.blocks.specs.FoldCode.{PartsNoted}
use Rattle.blocks.proofs.folding.note_origins.Given as goal

abbrev pub invariant-loop-j : goal.invariant-loop-j
invariant-loop-j l = PartsNoted l.fn.kept l.fn.s l.j l.fn.origins l.origins
