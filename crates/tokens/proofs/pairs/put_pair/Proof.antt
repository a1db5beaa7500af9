-- `tokens::pairs::put_pair` meets its contract: three stores. A parameter of a table's pair is below twelve, so it fits
-- a word, and a set has a bit for it.
use Rattle.tokens.proofs.pairs.put_pair.Tie as tie
use borrow.Author.Rules.{rules}
use Prim.Native.Nat.{◌+◌, ◌<◌}
use mathlib.Core.Path.{refl, sym, ◌∙◌, ap}
use mathlib.Core.List.{[], ◌∷◌}
use native.Mathlib.Omega.{arith}
use lib.ListN.{length-set}
use Rattle.task.specs.Layout.{head_in}
use Rattle.task.specs.Limits.{most_parameters}
use Rattle.task.specs.Task.{Pair}
use Rattle.task.specs.Table.{pair_in, pair_words}
use Rattle.task.specs.WordTests.{Roomy}
use Rattle.task.proofs.States.{PairFits}
use Rattle.task.proofs.TableReads.{table-roomy}
use Rattle.arcs.proofs.Partners.{pair_small}
use Rattle.words.proofs.Puts.{puts_none, puts-is, puts_word}
use Rattle.tokens.specs.Writing.{new_number}
use Rattle.tokens.proofs.pairs.put_pair.Statement.{statement}

abbrev pair : tie.Start → Pair
pair s = pair_in s.args.table.now s.args.i

-- its row lies in the table
known : (s : tie.Start) → Roomy s.args.table.now × (s.args.i < (head_in s.args.table.now).pairs)
known s = (table-roomy s.args.table.now s.requires.0, s.requires.1.0)

small : (s : tie.Start) → PairFits most_parameters (pair s)
small s = pair_small s.args.table.now s.requires.0 s.args.i s.requires.1.0

abbrev start : tie.After-renumbered_in-low → tie.Start
start c = c.before.before.before.before

abbrev begun : tie.After-renumbered_in-high → tie.Start
begun c = start c.before.before

-- both parameters are low
lower-low : (c : tie.After-lower) → c.lower.result < most_parameters
lower-low c =
    let f = small c.before.before.before in
    omega (arith, c.lower.ensures, f.ascends, f.known)

higher-low : (c : tie.After-higher) → c.higher.result < most_parameters
higher-low c = omega (arith, c.higher.ensures, (small (start c.before)).known)

slice-write-out-2 : tie.Need-bounds-out-at-2
slice-write-out-2 c = let r = (begun c).requires.1.1 in simp length-set (omega arith)

slice-write-out-3 : tie.Need-bounds-out-at-3
slice-write-out-3 c = let r = (begun c).requires.1.1 in simp length-set (omega arith)

returns : tie.Need-returns
unfolding pair_words
returns c =
    let a = (begun c).args in
    let r = c in
    let low = r.renumbered_in-low.ensures ∙ ap (new_number a.own) r.lower.ensures in
    let high = c.renumbered_in-high.ensures ∙ ap (new_number a.own) c.higher.ensures in
    puts-is (puts_word (puts_word (puts_word (puts_none a.out.now a.at) a.number _ refl (a.at + 1) refl)
    r.renumbered_in-low.result.0 _ refl (a.at + 2) (omega arith))
    c.renumbered_in-high.result.0 _ refl (a.at + 3) (omega arith)) refl refl _
    (λ k. a.number ∷ sym low k ∷ sym high k ∷ [])

pub put_pair_spec : {M : Type 1} → statement M
put_pair_spec =
    tie.close
    (tie.spec (λ c κs. known c.before.before) (λ c. omega (arith, lower-low c)) (λ c κs. omega (arith, lower-low c))
    (λ c κs. known (start c)) (λ c. omega (arith, higher-low c)) (λ c κs. omega (arith, higher-low c))
    (λ c. search rules) (λ c. search rules) (λ c. search rules) (λ c. search rules) slice-write-out-2
    (λ c. search rules) (λ c. search rules) slice-write-out-3 (λ c. search rules) (λ c. search rules) returns)
