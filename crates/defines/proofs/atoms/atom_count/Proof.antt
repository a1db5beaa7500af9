-- `defines::atoms::atom_count` meets its contract: the sum of three words, each of which lies in a table.
use native.Mathlib.Omega.{arith}
use Rattle.task.proofs.TableReads.{counts-inside}
use borrow.Author.Rules.{rules}
use Rattle.defines.proofs.atoms.atom_count.Statement.{statement}
use Rattle.defines.proofs.atoms.atom_count.Tie as tie

pub atom_count_spec : {M : Type 1} → statement M
atom_count_spec =
    tie.close
    (tie.spec (λ c κs. omega (arith, counts-inside _ c.requires))
    (λ c κs. omega (arith, counts-inside _ c.requires)) (λ c. search rules)
    (λ c κs. omega (arith, counts-inside _ c.requires)) (λ c. search rules) (λ c. search rules))
