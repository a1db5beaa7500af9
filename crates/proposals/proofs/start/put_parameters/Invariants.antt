-- `proposals::start::put_parameters`: the parameters of the atoms before i are put.
use Rattle.std.proofs.Common.{◌+◌, ◌-◌}
use Rattle.task.specs.Table.{atom_in}
use Rattle.proposals.proofs.StartWords.{ParametersPut}
use Rattle.proposals.proofs.start.put_parameters.Given as goal

abbrev pub invariant-loop-i : goal.invariant-loop-i
invariant-loop-i l = ParametersPut (λ p. atom_in l.table (l.from + p)) (l.i - l.from) l.fn.scratch l.scratch
