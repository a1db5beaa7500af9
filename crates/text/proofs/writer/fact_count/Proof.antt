-- `text::writer::fact_count` meets its contract: the sum of two words.
use native.Mathlib.Omega.{arith}
use Rattle.text.specs.TableLines.{fact_count}
use Rattle.task.proofs.TableReads.{counts-inside}
use borrow.Author.Rules.{rules}
use Rattle.text.proofs.writer.fact_count.Statement.{statement}
use Rattle.text.proofs.writer.fact_count.Tie as tie

word-requires : tie.Need-word-requires
word-requires c κs = let l = counts-inside c.args.table.now c.requires in omega arith

word-requires-2 : tie.Need-word-requires-2
word-requires-2 c κs =
    let l = counts-inside c.args.table.now c.requires in
    omega arith

returns : tie.Need-returns
unfolding fact_count
returns c =
    let e = c.word.ensures.0 in
    let f = c.word-2.ensures.0 in
    omega arith

pub fact_count_spec : {M : Type 1} → statement M
fact_count_spec = tie.close (tie.spec word-requires word-requires-2 (λ c. search rules) returns)
