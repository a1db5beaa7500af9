-- `tokens::part_atoms::par_atom` meets its contract.
-- Four words, and behind them the parameter's new number and three zeros, are the eight words of an atom with one
-- argument (`puts_then`). The predicate of par 0 is below 1000 and x below 16, so their sum is a word.
use Rattle.tokens.proofs.part_atoms.par_atom.Tie as tie
use Prim.Native.Nat.{ℕ, ◌+◌}
use mathlib.Core.Path.{sym, ap}
use mathlib.Core.List.{[], ◌∷◌}
use native.Mathlib.Omega.{arith}
use borrow.Author.Rules.{rules}
use Rattle.words.specs.Lists.{padded}
use Rattle.task.specs.Table.{atom_words}
use Rattle.tokens.specs.Split.{token}
use Rattle.words.proofs.Puts.{puts_then, puts-length}
use Rattle.tokens.proofs.part_atoms.par_atom.Statement.{statement}

four-requires-2 : tie.Need-four-requires
four-requires-2 c κs =
    let f = c.four-next.ensures in
    omega (arith, puts-length f, f.place)

returns : tie.Need-returns
unfolding atom_words padded token
returns c =
    let s = c in
    let f = c.four-next.ensures in
    let n = c.renumbered_in-renumbered.ensures in
    let g = c.four.ensures in
    let a = s.args in (
      puts_then f g _
          (ap (λ (x : ℕ). a.here.number ∷ a.role ∷ (a.here.par + a.x.0) ∷ 0 ∷ x ∷ 0 ∷ 0 ∷ 0 ∷ []) (sym n)),
      omega (arith, f.place, g.place),
    )

pub par_atom_spec : {M : Type 1} → statement M
par_atom_spec =
    tie.close
    (tie.spec (λ c. omega arith) (λ c κs. search rules) (λ c κs. search rules) four-requires-2 (λ c. search rules)
    returns)
