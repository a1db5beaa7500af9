-- `forecast::bytes::pair_line` meets its contract: the row holds the renumbered pair, so the `differ` line of its last
-- two words is the pair's (`row-differ`).
use Rattle.forecast.proofs.bytes.pair_line.Tie as tie
use mathlib.Core.Path.{◌∙◌}
use native.Mathlib.Omega.{arith}
use lib.ListN.{length}
use borrow.Author.Rules.{rules}
use Rattle.words.proofs.Puts.{puts-length}
use Rattle.task.specs.Table.{pair_in}
use Rattle.text.specs.Lines.{bytes}
use Rattle.tokens.specs.Writing.{renumbered_pair}
use Rattle.forecast.proofs.PairRows.{row_differ, row-differ, differ-short}
use Rattle.forecast.proofs.bytes.pair_line.Statement.{statement}

list-line-size-requires : tie.Need-list_line_size-requires
unfolding bytes
list-line-size-requires c κs =
    let put = c.put_pair in
    (λ k l. omega (arith, puts-length put.ensures), differ-short put.new.out)

returns : tie.Need-returns
unfolding bytes
returns c =
    let put = c in
    let a = put.args in
    ◌∙◌ {b = length (row_differ put.put_pair.new.out)} c.list_line_size.ensures
    (row-differ 0 (renumbered_pair a.own (pair_in a.table.now a.i)) put.put_pair.ensures (omega arith))

pub pair_line_spec : {M : Type 1} → statement M
pair_line_spec =
    tie.close
    (tie.spec (λ c. search rules) (λ c κs. search rules) (λ c. search rules) (λ c. search rules)
    list-line-size-requires returns)
