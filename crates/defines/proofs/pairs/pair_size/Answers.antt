-- Fixed bytes and the digits of both parameters make the pair (`pair-long`), and they are few (`pair-few`).
use Rattle.std.proofs.Common.{ℕ, ◌+◌, arith, ap, length}
use Rattle.words.specs.Lists.{concat_map}
use Rattle.words.specs.Words.{words_at}
use Rattle.task.proofs.TableReads.{table-roomy}
use Rattle.text.specs.Lines.{digits}
use Rattle.defines.proofs.PairItems.{pair-long, pair-few}
use Rattle.defines.proofs.pairs.pair_size.Goals as goal

pub pair_of-row-requires-clause-roomy : goal.pair_of-row-requires-clause-roomy
pair_of-row-requires-clause-roomy c = table-roomy _ c.requires.table_value

pub overflow_add-result-2 : goal.overflow_add-result-2
overflow_add-result-2 c =
    let w = c.args.table.now in
    let e = c.words_size.ensures in
    let row = ap (λ (b : ℕ). length (concat_map digits (words_at w (b + 1) 2))) c.pair_of-row.ensures.value in
    let l = pair-long w c.args.i in
    let few = pair-few w c.args.i in
    omega arith

pub overflow_add-result-3 : goal.overflow_add-result-3
overflow_add-result-3 c =
    let w = c.args.table.now in
    let e = c.words_size.ensures in
    let row = ap (λ (b : ℕ). length (concat_map digits (words_at w (b + 1) 2))) c.pair_of-row.ensures.value in
    let l = pair-long w c.args.i in
    let few = pair-few w c.args.i in
    omega arith

pub returns : goal.returns
returns c =
    let w = c.args.table.now in
    let e = c.words_size.ensures in
    let row = ap (λ (b : ℕ). length (concat_map digits (words_at w (b + 1) 2))) c.pair_of-row.ensures.value in
    let l = pair-long w c.args.i in
    omega arith
