-- What is still to come is the atoms of the run from `atom` on.
use Rattle.defines.proofs.RunsPut.{Turn}
use Rattle.defines.proofs.atoms.put_run.Given as goal

abbrev pub invariant-loop-atom : goal.invariant-loop-atom
invariant-loop-atom l = Turn l.table l.schema l.role l.from l.fn.text l.at l.atom l.text l.next
