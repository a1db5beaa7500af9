-- `proposals::scratch::parameters_to` meets its contract: the part's word lies in the scratch.
use borrow.Author.Rules.{rules}
use Rattle.proposals.proofs.Scratches.{parameters-inside}
use Rattle.proposals.proofs.scratch.parameters_to.Statement.{statement}
use Rattle.proposals.proofs.scratch.parameters_to.Tie as tie

shared-slice-read-result : tie.Need-bounds-scratch-q
shared-slice-read-result c = search parameters-inside

pub parameters_to_spec : {M : Type 1} → statement M
parameters_to_spec =
    tie.close (tie.spec (λ c. search rules) (λ c. search rules) shared-slice-read-result (λ c. search rules))
