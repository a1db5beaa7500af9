-- `tokens::part_atoms::old_atom` meets its contract.
-- Four words, of which the predicate is word 2 of the old atom, and behind them the four of its renumbered arguments
-- are the eight words of the atom (`puts_then`).
use Rattle.tokens.proofs.part_atoms.old_atom.Tie as tie
use Prim.Native.Nat.{ℕ}
use mathlib.Core.Path.{sym, ap}
use mathlib.Core.List.{◌∷◌, map}
use native.Mathlib.Omega.{arith}
use borrow.Author.Rules.{rules}
use Rattle.words.specs.Lists.{padded}
use Rattle.task.specs.Table.{atom_in, atom_words}
use Rattle.tokens.specs.Writing.{new_number}
use Rattle.words.proofs.Puts.{puts_then}
use Rattle.arcs.proofs.Stretches.{atom-row}
use Rattle.tokens.proofs.part_atoms.old_atom.Statement.{statement}

row-of-requires : tie.Need-row_of-requires
row-of-requires c κs = atom-row c.requires.0

predicate-at-requires : tie.Need-predicate_at-predicate-requires
predicate-at-requires c κs = c.row_of.ensures.1

returns : tie.Need-returns
unfolding atom_words
returns c =
    let read = c in
    let a = read.args in
    let f = c.four-next.ensures in
    let g = c.arguments.ensures in
    let p = read.predicate_at-predicate.ensures.1 _ read.row_of.ensures.0 in (
      puts_then f g.0 _ (ap (λ (x : ℕ). a.number ∷ a.role ∷ x ∷ 0 ∷
          padded 4 (map (new_number a.own) (atom_in a.table.now a.i).args)) (sym p)),
      omega (arith, f.place, g.1),
    )

pub old_atom_spec : {M : Type 1} → statement M
old_atom_spec =
    tie.close
    (tie.spec row-of-requires predicate-at-requires (λ c κs. search rules) (λ c κs. search rules) (λ c. search rules)
    returns)
