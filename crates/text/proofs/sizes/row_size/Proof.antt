-- `text::sizes::row_size` meets its contract: the line of an atom with four arguments at most is counted (`row-fits`).
use native.Mathlib.Omega.{arith}
use Rattle.text.proofs.AtomLines.{row-fits}
use borrow.Author.Rules.{rules}
use Rattle.text.proofs.sizes.row_size.Statement.{statement}
use Rattle.text.proofs.sizes.row_size.Tie as tie

write-row-requires : tie.Need-write_row-requires
write-row-requires c κs =
    let start = c in
    let fits = row-fits start.args.words.now start.args.base start.args.arity start.requires.1 in
    (start.requires, omega arith)

pub row_size_spec : {M : Type 1} → statement M
row_size_spec = tie.close (tie.spec (λ c. search rules) write-row-requires (λ c. search rules))
