use Rattle.std.proofs.Common.{◌^◌, ◌<◌, ◌||◌, get_or, eqb}
use Rattle.task.specs.Task.{names}
use Rattle.task.specs.Table.{atom_in}
use Rattle.words.specs.Sets.{member}
use Rattle.words.proofs.Loops.{SetLeft}
use Rattle.arcs.proofs.atoms.parameters_of.Given as goal

-- the set asked for is the set so far with the arguments left
abbrev pub invariant-loop-k : goal.invariant-loop-k
invariant-loop-k l =
    (l.named < 2 ^ 64) ×
    SetLeft (λ x j. eqb x (get_or (atom_in l.table l.i).args j 0)) l.n
    (λ x. member 0 x || names x (atom_in l.table l.i)) l.named l.k
