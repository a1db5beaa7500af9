-- `text::sizes::facts_size` meets its contract: the initial and goal atoms are counted, as the whole text is.
use native.Mathlib.Omega.{arith}
use Rattle.text.proofs.WholeText.{facts-fit}
use borrow.Author.Rules.{rules}
use Rattle.text.proofs.sizes.facts_size.Statement.{statement}
use Rattle.text.proofs.sizes.facts_size.Tie as tie

write-facts-requires : tie.Need-write_facts-requires
write-facts-requires c κs =
    let start = c in
    let fits = facts-fit start.args.table.now start.requires in
    (start.requires, omega arith)

pub facts_size_spec : {M : Type 1} → statement M
facts_size_spec = tie.close (tie.spec (λ c. search rules) write-facts-requires (λ c. search rules))
