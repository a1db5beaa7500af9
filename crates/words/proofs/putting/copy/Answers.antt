use Rattle.std.proofs.Common.{arith, refl, ◌+◌}
use Rattle.words.specs.Words.{words_at}
use Rattle.words.proofs.Puts.{puts_word, words_more}
use Rattle.words.proofs.putting.copy.Goals as goal

pub loop-k-init : goal.loop-k-init
unfolding words_at
loop-k-init c = record { words = refl; place = refl }

pub loop-k-preserved : goal.loop-k-preserved
loop-k-preserved c =
    let a = c.args in
    let k = c.loop-k.k in
    puts_word c.loop-k.invariant _ (words_at a.table.now a.from (k + 1)) (words_more a.table.now a.from k) (a.at + (k + 1))
    (omega arith)
